-- What holds of every grid: its size, and its links read by rows and columns.
use Rattle.std.proofs.Common.{◌≡◌, ℕ, ◌+◌, ◌*◌, ◌/◌, ◌%◌, ◌<◌, ◌&&◌, eqb, sym, ap, ◌∙◌, ap₂, mul_comm, add-mul, one-mul, arith}
use Rattle.std.proofs.lemmas.Nat.{div-mul-add, mod-mul-add, mul-add-lt}
use Rattle.std.proofs.lemmas.Bool.{lt-ltb}
use Rattle.std.proofs.lemmas.Bool.Decides.{nat_tests, same_from_decides, Decides-eqb, Decides-and, Decides-like}
use Rattle.model.specs.Grids.{beside, east, south, ReadsByRowAndColumn}

-- a place tells its row and its column
pub same_place : (cols r c s d : ℕ) → c < cols → d < cols → r * cols + c ≡ s * cols + d → (r ≡ s) × (c ≡ d)
same_place cols r c s d hc hd e = (
  sym (div-mul-add r cols c hc) ∙ ap (λ x. x / cols) e ∙ div-mul-add s cols d hd,
  sym (mod-mul-add r cols c hc) ∙ ap (λ x. x % cols) e ∙ mod-mul-add s cols d hd,
)

-- the two tests of a neighbour, by rows and columns
south_is : (cols r c s d : ℕ) → c < cols → d < cols → south cols (r * cols + c) (s * cols + d) ≡ (eqb (r + 1) s && eqb c d)
south_is cols r c s d hc hd =
    let shifted : r * cols + c + cols ≡ (r + 1) * cols + c = omega (arith, add-mul r 1 cols, one-mul cols) in
    same_from_decides _ _ (Decides-eqb (r * cols + c + cols) (s * cols + d))
    (Decides-like _ (λ h. shifted ∙ ap₂ (λ a b. a * cols + b) h.0 h.1) (λ e. same_place cols (r + 1) c s d hc hd (sym shifted ∙ e))
    (Decides-and _ _ (Decides-eqb (r + 1) s) (Decides-eqb c d)))

east_is : (cols r c s d : ℕ) → c < cols → d < cols → east cols (r * cols + c) (s * cols + d) ≡ (eqb r s && eqb (c + 1) d)
east_is cols r c s d hc hd =
    rw (div-mul-add r cols c hc, div-mul-add s cols d hd)
    (same_from_decides _ _
    (Decides-like _ (λ h. (h.1, omega (arith, ap (λ x. x * cols) h.1, h.0))) (λ h. (omega (arith, ap (λ x. x * cols) h.0, h.1), h.0))
    (Decides-and _ _ (Decides-eqb (r * cols + c + 1) (s * cols + d)) (Decides-eqb r s)))
    (Decides-and _ _ (Decides-eqb r s) (Decides-eqb (c + 1) d)))

pub reads : (rows cols : ℕ) → ReadsByRowAndColumn rows cols
reads rows cols r c s d (hr, hc) (hs, hd) =
    let p : r * cols + c < rows * cols = omega (arith, mul-add-lt r cols c rows hr hc, mul_comm rows cols) in
    let q : s * cols + d < rows * cols = omega (arith, mul-add-lt s cols d rows hs hd, mul_comm rows cols) in
    rw (lt-ltb _ _ p, lt-ltb _ _ q, south_is cols r c s d hc hd, south_is cols s d r c hd hc, east_is cols r c s d hc hd, east_is cols s d r c hd hc)
    (grind (arith, nat_tests))

-- neighbours lead to one another
pub both_lead : (rows cols p q : ℕ) → beside rows cols p q ≡ beside rows cols q p
both_lead rows cols p q = grind (arith, nat_tests)
