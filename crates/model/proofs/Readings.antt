-- One reading set or cleared: it has its new yes or no, and every other reading is as it was.
use Rattle.std.proofs.Common.{◌≡◌, ℕ, zero, suc, ◌+◌, ◌-◌, ◌*◌, ◌/◌, ◌%◌, ◌^◌, ◌<◌, Bool, true, false, cond, not, ◌&&◌, ◌||◌, eqb, List, length, get_or, set, sym, refl, ap, ◌∙◌, ap₂, ⊎_elim, arith}
use lib.Bits.{bit_and}
use Rattle.std.proofs.lemmas.Nat.{and_shr, and_mod}
use Rattle.std.proofs.lemmas.List.{get_or-set_same, get_or-set_other}
use Rattle.std.proofs.lemmas.Bool.{cases_eq, eq-eqb, ne_eqb, and_left}
use Rattle.model.specs.Books.{reading_in}
use Rattle.model.specs.Calls.{with_bit, recorded, SetsOneReading}
use Rattle.model.specs.Masks.{bit}
use Rattle.model.specs.Numbers.{every}
use Rattle.model.proofs.Grids.{same_place}
use Rattle.model.proofs.Masks.{bit_more}
use Rattle.model.proofs.Numbers.{every_gives}

-- of two bits both are set
and_bits : (x y : ℕ) → x < 2 → y < 2 → eqb (bit_and x y) 1 ≡ (eqb x 1 && eqb y 1)
and_bits zero y hx hy = refl
and_bits (suc zero) zero hx hy = refl
and_bits (suc zero) (suc zero) hx hy = refl
and_bits (suc zero) (suc (suc y)) hx hy = absurd (omega arith)
and_bits (suc (suc x)) y hx hy = absurd (omega arith)

-- the same yes or no
is_same_bit : Bool → Bool → Bool
is_same_bit true b = b
is_same_bit false b = not b

same_so : (a b : Bool) → is_same_bit a b ≡ true → a ≡ b
unfolding is_same_bit
same_so true b h = sym h
same_so false true h = h
same_so false false h = refl

-- all bits but one, worked out for each of 32
all_but_one : every 32 (λ a. every 32 (λ k. is_same_bit (bit (2 ^ 32 - 1 - 2 ^ a) k) (not (eqb k a)))) ≡ true
unfolding is_same_bit
all_but_one = refl

bit_but : (a k : ℕ) → a < 32 → k < 32 → bit (2 ^ 32 - 1 - 2 ^ a) k ≡ not (eqb k a)
bit_but a k ha hk =
    let test : ℕ → ℕ → Bool = λ a k. is_same_bit (bit (2 ^ 32 - 1 - 2 ^ a) k) (not (eqb k a)) in
    same_so _ _ (every_gives 32 (test a) (every_gives 32 (λ b. every 32 (test b)) all_but_one a ha) k hk)

-- one bit less
bit_less : (w a k : ℕ) → a < 32 → k < 32 → bit (bit_and w (2 ^ 32 - 1 - 2 ^ a)) k ≡ (bit w k && not (eqb k a))
bit_less w a k ha hk =
    let mask = 2 ^ 32 - 1 - 2 ^ a in
    ap (λ v. eqb (v % 2) 1) (and_shr w mask k) ∙ ap (λ v. eqb v 1) (and_mod (w / 2 ^ k) (mask / 2 ^ k) 1)
    ∙ and_bits (w / 2 ^ k % 2) (mask / 2 ^ k % 2) (omega arith) (omega arith) ∙ ap (λ t. bit w k && t) (bit_but a k ha hk)

-- one bit of a word set or cleared
eqb_turn : (a b : ℕ) → eqb a b ≡ eqb b a
eqb_turn a b = ⊎_elim (λ (e : a ≡ b). eq-eqb a b e ∙ sym (eq-eqb b a (sym e))) (λ (ne : a ≡ b → ⊥). ne_eqb a b ne ∙ sym (ne_eqb b a (λ e. ne (sym e)))) (cases_eq a b)

chosen_more : (old here : Bool) → (old || here) ≡ cond here true old
chosen_more true true = refl
chosen_more true false = refl
chosen_more false true = refl
chosen_more false false = refl

chosen_less : (old here : Bool) → (old && not here) ≡ cond here false old
chosen_less true true = refl
chosen_less true false = refl
chosen_less false true = refl
chosen_less false false = refl

pub bit_with : (w a : ℕ) (value : Bool) (k : ℕ) → a < 32 → k < 32 → bit (with_bit w a value) k ≡ cond (eqb k a) value (bit w k)
bit_with w a true k ha hk = bit_more w a k ∙ ap (λ t. bit w k || t) (eqb_turn a k) ∙ chosen_more (bit w k) (eqb k a)
bit_with w a false k ha hk = bit_less w a k ha hk ∙ chosen_less (bit w k) (eqb k a)

-- one reading of a book set or cleared
module _ (points days day point atom : ℕ) (value : Bool) (readings : List ℕ) (hp : point < points) (ha : atom < 32) (held : day * points + point < length readings) where
  pub sets_one_reading : SetsOneReading points days day point atom value readings (recorded points day point atom value readings)
  sets_one_reading d x a hd hx hk =
      let place = day * points + point in
      let new = with_bit (get_or readings place 0) atom value in
      ⊎_elim
      (λ (e : d * points + x ≡ place).
      let same = same_place points d x day point hx hp e in
      ap (λ k. bit (get_or (set readings place new) k 0) a) e ∙ ap (λ w. bit w a) (get_or-set_same readings place new 0 held)
      ∙ bit_with (get_or readings place 0) atom value a ha hk
      ∙ ap (λ k. cond (eqb a atom) value (bit (get_or readings k 0) a)) (sym e)
      ∙ ap₂ (λ s t. cond (s && (t && eqb a atom)) value (reading_in readings points d x a)) (sym (eq-eqb d day same.0)) (sym (eq-eqb x point same.1)))
      (λ (ne : d * points + x ≡ place → ⊥).
      ap (λ w. bit w a) (get_or-set_other readings place (d * points + x) new 0 ne)
      ∙ ap (λ t. cond t value (reading_in readings points d x a)) (sym (elsewhere d x a ne)))
      (cases_eq (d * points + x) place)
    where
      elsewhere : (d x a : ℕ) → (d * points + x ≡ day * points + point → ⊥) → (eqb d day && (eqb x point && eqb a atom)) ≡ false
      elsewhere d x a ne =
          ⊎_elim
          (λ (e : d ≡ day).
          ⊎_elim (λ (f : x ≡ point). absurd (ne (ap₂ (λ r c. r * points + c) e f))) (λ (g : x ≡ point → ⊥). ap (λ t. eqb d day && (t && eqb a atom)) (ne_eqb x point g) ∙ none (eqb d day)) (cases_eq x point))
          (λ (g : d ≡ day → ⊥). and_left _ _ (ne_eqb d day g))
          (cases_eq d day)
        where
          none : (b : Bool) → (b && false) ≡ false
          none true = refl
          none false = refl
