-- What holds of masks: one bit more, the lowest bit, and masks that are made of a list.
use Rattle.std.proofs.Common.{◌≡◌, ℕ, zero, suc, ◌+◌, ◌-◌, ◌/◌, ◌%◌, ◌^◌, ◌<◌, ◌≤◌, Bool, true, false, not, ◌&&◌, ◌||◌, eqb, ◌⊎◌, List, length, get_or, set, replicate, Some, None, Option, sym, refl, ap, ◌∙◌, inl, inr, ⊎_elim, one-mul, pow-suc, div-one, one-add, arith, pow_mono}
use mathlib.Core.Bool.{or-false}
use native.Mathlib.Nat.{zero-div, div-eq_of_lt, div-eq_of_lt-le}
use lib.Bits.{bit_or, shifted_half, shifted_even}
use lib.Count.{count_trailing_zeros}
use lib.Dec.{eqb-zero-suc, eqb-suc-zero, eqb-suc-suc}
use Rattle.std.proofs.lemmas.Nat.{shr-shr, shr_le, or_shr, or_mod, leading_top}
use Rattle.std.proofs.lemmas.List.{get_or-set_same, get_or-set_other}
use Rattle.std.proofs.lemmas.Bool.{both_ways, eq-eqb, ne_eqb, or_from, cases_eq, cases_lt}
use Rattle.std.proofs.lemmas.Bool.Decides.{same_from_decides}
use Rattle.model.specs.Links.{listed, loose}
use Rattle.model.specs.Masks.{bit, masked}
use Rattle.model.specs.Numbers.{any, Least}
use Rattle.model.specs.Relations.{Inside}
use Rattle.model.proofs.Numbers.{any_from, any_gives, any_same}
use Rattle.model.proofs.Pairs.{listed_inside}

-- the bits of a mask that is shifted down, and of half a mask
bit_shifted : (w j k : ℕ) → bit (w / 2 ^ j) k ≡ bit w (j + k)
bit_shifted w j k = ap (λ v. eqb (v % 2) 1) (shr-shr w j k)

bit_half : (w k : ℕ) → bit w (suc k) ≡ bit (w / 2) k
bit_half w k = ap (bit w) (sym (one-add k)) ∙ sym (bit_shifted w 1 k)

pub bit_none : (k : ℕ) → bit 0 k ≡ false
bit_none k = rw zero-div refl

bit_first : (w : ℕ) → bit w 0 ≡ eqb (w % 2) 1
bit_first w = rw div-one refl

-- only bit b of 2 ^ b is set
bit_power : (b k : ℕ) → bit (2 ^ b) k ≡ eqb b k
bit_power zero zero = refl
bit_power zero (suc k) = bit_half 1 k ∙ bit_none k ∙ sym (eqb-zero-suc k)
bit_power (suc b) zero = bit_first (2 ^ suc b) ∙ ap (λ v. eqb v 1) (simp one-mul at (shifted_even 1 b)) ∙ sym (eqb-suc-zero b)
bit_power (suc b) (suc k) =
    bit_half (2 ^ suc b) k ∙ ap (λ v. bit v k) (simp one-mul at (shifted_half 1 b)) ∙ bit_power b k ∙ sym (eqb-suc-suc b k)

-- of two bits one is set
or_bits : (x y : ℕ) → x < 2 → y < 2 → eqb (bit_or x y) 1 ≡ (eqb x 1 || eqb y 1)
or_bits zero y hx hy = refl
or_bits (suc zero) zero hx hy = refl
or_bits (suc zero) (suc zero) hx hy = refl
or_bits (suc zero) (suc (suc y)) hx hy = absurd (omega arith)
or_bits (suc (suc x)) y hx hy = absurd (omega arith)

-- one bit more
pub bit_more : (w b k : ℕ) → bit (bit_or w (2 ^ b)) k ≡ (bit w k || eqb b k)
bit_more w b k =
    ap (λ v. eqb (v % 2) 1) (or_shr w (2 ^ b) k) ∙ ap (λ v. eqb v 1) (or_mod (w / 2 ^ k) (2 ^ b / 2 ^ k) 1)
    ∙ or_bits (w / 2 ^ k % 2) (2 ^ b / 2 ^ k % 2) (omega arith) (omega arith) ∙ ap (λ t. bit w k || t) (bit_power b k)

-- one bit more in one mask is one link more
pub masked_more : (masks : List ℕ) (a b : ℕ) → a < length masks → (p q : ℕ)
    → masked (set masks a (bit_or (get_or masks a 0) (2 ^ b))) p q ≡ (masked masks p q || (eqb a p && eqb b q))
masked_more masks a b h p q =
    let more = bit_or (get_or masks a 0) (2 ^ b) in
    ⊎_elim
    (λ e. rw (← e, get_or-set_same masks a more 0 h, eq-eqb a a refl) (bit_more (get_or masks a 0) b q))
    (λ ne. rw (get_or-set_other masks a p more 0 (λ e. ne (sym e)), ne_eqb a p ne) (sym (or-false (masked masks p q))))
    (cases_eq a p)

-- the lowest bit: below it none is set, and it is set where any is
even_or_odd : (w : ℕ) → (w % 2 ≡ 0) ⊎ (w % 2 ≡ 1)
even_or_odd w = ⊎_elim (λ h. inl (omega arith)) (λ h. inr (omega arith)) (cases_lt (w % 2) 1)

bit_even : (w : ℕ) → w % 2 ≡ 0 → bit w 0 ≡ false
bit_even w even = bit_first w ∙ rw even refl

pub low_clear : (k w j : ℕ) → j < count_trailing_zeros k w → bit w j ≡ false
unfolding count_trailing_zeros
low_clear zero w j h = absurd (omega arith)
low_clear (suc k) w zero h = ⊎_elim (λ even. bit_even w even) (λ odd. absurd (omega (arith, rw odd at h))) (even_or_odd w)
low_clear (suc k) w (suc j) h =
    ⊎_elim (λ even. bit_half w j ∙ low_clear k (w / 2) j (omega (arith, rw even at h))) (λ odd. absurd (omega (arith, rw odd at h))) (even_or_odd w)

pub low_set : (k w j : ℕ) → j < k → bit w j ≡ true → bit w (count_trailing_zeros k w) ≡ true
unfolding count_trailing_zeros
low_set zero w j h t = absurd (omega arith)
low_set (suc k) w zero h t = ⊎_elim (λ even. absurd (both_ways (bit w 0) (bit_even w even) t)) (λ odd. rw odd t) (even_or_odd w)
low_set (suc k) w (suc j) h t =
    ⊎_elim
    (λ even. rw even (bit_half w (count_trailing_zeros k (w / 2)) ∙ low_set k (w / 2) j (omega arith) (sym (bit_half w j) ∙ t)))
    (λ odd. rw odd (bit_first w ∙ rw odd refl))
    (even_or_odd w)

-- a mask has a bit unless it is 0
some_bit : (n w : ℕ) → 0 < w → w < 2 ^ n → (k : ℕ) × (k < n) × (bit w k ≡ true)
some_bit n w pos small =
    let top = leading_top n w pos small in
    (top.0, omega arith, ap (λ v. eqb (v % 2) 1) (div-eq_of_lt-le {k = 1} (2 ^ top.0) (omega arith) (omega (arith, pow-suc 2 top.0))))

any_bit_none : (n : ℕ) → any n (bit 0) ≡ false
any_bit_none zero = refl
any_bit_none (suc n) = or_from _ _ (any_bit_none n) (bit_none n)

pub empty_mask : (n w : ℕ) → w < 2 ^ n → not (any n (bit w)) ≡ eqb w 0
empty_mask n zero small = ap not (any_bit_none n)
empty_mask n (suc w) small = let j = some_bit n (suc w) (omega arith) small in ap not (any_from n (bit (suc w)) j.0 j.1 j.2) ∙ sym (eqb-suc-zero w)

-- no bit of a mask lies past its width
pub bit_below : (k w j : ℕ) → w < 2 ^ k → bit w j ≡ true → j < k
bit_below k w j small t =
    ⊎_elim (λ h. h) (λ h. absurd (both_ways (bit w j) (ap (λ v. eqb (v % 2) 1) (div-eq_of_lt (omega (arith, pow_mono h)))) t)) (cases_lt j k)

-- the bits of a mask from `from` on, by the lowest bit of the mask shifted down
pub least_none : (w from : ℕ) → w / 2 ^ from ≡ 0 → (k : ℕ) → from ≤ k → bit w k ≡ false
least_none w from none k h =
    ap (bit w) (omega arith) ∙ sym (bit_shifted w from (k - from)) ∙ ap (λ v. bit v (k - from)) none ∙ bit_none (k - from)

pub least_some : (n w from : ℕ) → w < 2 ^ n → (w / 2 ^ from ≡ 0 → ⊥) → Least (bit w) from n (Some (from + count_trailing_zeros n (w / 2 ^ from)))
least_some n w from small more =
    let rest = w / 2 ^ from in
    let j = some_bit n rest (omega arith) (omega (arith, shr_le w from)) in
    let low = sym (bit_shifted w from (count_trailing_zeros n rest)) ∙ low_set n rest j.0 j.1 j.2 in (
      omega arith,
      bit_below n w (from + count_trailing_zeros n rest) small low,
      low,
      λ k h below. ap (bit w) (omega arith) ∙ sym (bit_shifted w from (k - from)) ∙ low_clear n rest (k - from) (omega arith),
    )

-- where tests agree and only numbers below n pass, what holds below a larger bound holds below n
module _ (test like : ℕ → Bool) (n m : ℕ) (same : (k : ℕ) → test k ≡ like k) (inside : (k : ℕ) → like k ≡ true → k < n) (h : n ≤ m) where
  pub least_within : (from : ℕ) (r : Option ℕ) → Least test from m r → Least like from n r
  least_within from None none = λ k l below. sym (same k) ∙ none k l (omega arith)
  least_within from (Some y) (l, below, t, first) =
      let here = sym (same y) ∙ t in (l, inside y here, here, λ k l below. sym (same k) ∙ first k l below)

  pub any_within : any m test ≡ any n like
  any_within =
      same_from_decides {P = any n like ≡ true} _ _ (
        λ t. let w = any_gives m test t in let here = sym (same w.0) ∙ w.2 in any_from n like w.0 (inside w.0 here) here,
        λ t. let w = any_gives n like t in any_from m test w.0 (omega arith) (same w.0 ∙ w.2),
      )
      (λ t. t, λ t. t)

-- a day whose mask is not empty leads to the lowest day of it
pub masked_low : (masks : List ℕ) (d : ℕ) → any 64 (masked masks d) ≡ true → masked masks d (count_trailing_zeros 64 (get_or masks d 0)) ≡ true
masked_low masks d t = let w = any_gives 64 (masked masks d) t in low_set 64 (get_or masks d 0) w.0 w.1 w.2

-- empty masks link nothing
pub masked_none : (n p q : ℕ) → masked (replicate n 0) p q ≡ false
masked_none zero p q = bit_none q
masked_none (suc n) zero q = bit_none q
masked_none (suc n) (suc p) q = masked_none n p q

-- masks that link what a list links
module _ (n : ℕ) (pairs masks : List ℕ) (tight : loose n pairs ≡ false) (links : (p q : ℕ) → masked masks p q ≡ listed pairs p q) where
  pub masked_inside : Inside n (masked masks)
  masked_inside p q t = listed_inside n pairs tight p q (sym (links p q) ∙ t)

  pub dead_ends : n ≤ 64 → any n (λ d. not (any 64 (masked masks d))) ≡ any n (λ d. not (any n (listed pairs d)))
  dead_ends h = any_same n _ _ (λ d _. ap not (any_within (masked masks d) (listed pairs d) n 64 (links d) (λ k t. (listed_inside n pairs tight d k t).1) h))
