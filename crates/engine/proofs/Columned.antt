-- One word more of a column, and one column more of a line.
use Rattle.std.proofs.Common.{◌≡◌, ℕ, ◌+◌, ◌*◌, ◌/◌, ◌%◌, ◌<◌, ◌≤◌, ◌≢◌, List, length, get_or, set, sym, ap, ◌∙◌, ⊎_elim, arith}
use Rattle.std.proofs.lemmas.Nat.{div-add-mod', div_below, mod_below}
use Rattle.std.proofs.lemmas.List.{get_or-set_same, get_or-set_other}
use Rattle.std.proofs.lemmas.Bool.{cases_eq, cases_lt}
use Rattle.model.specs.Table.{Plane}
use Rattle.model.proofs.Grids.{same_place}
use Rattle.engine.specs.Filling.{Made, in_order, Column}

pub column_more : (n j x v : ℕ) (value : ℕ → ℕ) (old new : List ℕ) → x < n → j * n + x < length new → v ≡ value j → Column n j x value old new → Column n (j + 1) x value old (set new (j * n + x) v)
column_more n j x v value old new hx held is w = record {
  words = λ d h.
      ⊎_elim (λ (e : d ≡ j). rw e (get_or-set_same new (j * n + x) v 0 held ∙ is))
      (λ (ne : d ≢ j). get_or-set_other new (j * n + x) (d * n + x) v 0 (λ same. ne (same_place n d x j x hx hx same).0) ∙ w.words d (omega arith))
      (cases_eq d j);
  others = λ k h. get_or-set_other new (j * n + x) k v 0 (λ same. h j (omega arith) same) ∙ w.others k (λ d l. h d (omega arith));
}

-- the same words by another name
pub column_same : (n m x : ℕ) (value value' : ℕ → ℕ) (old new : List ℕ) → ((d : ℕ) → d < m → value d ≡ value' d) → Column n m x value old new → Column n m x value' old new
column_same n m x value value' old new same w = record { words = λ d h. w.words d h ∙ same d h; others = w.others }

-- at the points before x the words of m days are the plane's
abbrev pub Columns : ℕ → ℕ → ℕ → Plane → List ℕ → Type 0
Columns n m x plane line = (d y : ℕ) → d < m → y < x → get_or line (d * n + y) 0 ≡ plane d y

pub columns_more : (n m x : ℕ) (plane : Plane) (value : ℕ → ℕ) (mid new : List ℕ) → x < n → ((d : ℕ) → d < m → value d ≡ plane d x) → Columns n m x plane mid → Column n m x value mid new → Columns n m (x + 1) plane new
columns_more n m x plane value mid new hx same first second d y h l =
    ⊎_elim (λ (e : y ≡ x). rw e (second.words d h ∙ same d h))
    (λ (ne : y ≢ x). second.others (d * n + y) (λ e g at. ne (same_place n d y e x (omega arith) hx at).1) ∙ first d y h (omega arith))
    (cases_eq y x)

-- all columns are the line
pub columns_all : (n m : ℕ) (plane : Plane) (line : List ℕ) → length line ≡ m * n → Columns n m n plane line → Made (in_order n plane) line
columns_all n m plane line size w k h =
    ⊎_elim (λ (none : n < 1). let e : n ≡ 0 = omega arith in let z : length line ≡ m * 0 = rw e at size in absurd (omega arith))
    (λ (some : 1 ≤ n).
    let e : k / n * n + k % n ≡ k = div-add-mod' k n in
    ap (λ i. get_or line i 0) (sym e) ∙ w (k / n) (k % n) (div_below k n m some (omega arith)) (mod_below k n some))
    (cases_lt n 1)
