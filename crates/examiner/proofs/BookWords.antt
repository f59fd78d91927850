-- What a word has past its last bit, and where a place stands that is reckoned with sums and products that stop at a greatest number.
use Rattle.std.proofs.Common.{◌+◌, ◌-◌, ap, take, drop, length-drop, ◌≡◌, ℕ, ◌*◌, ◌/◌, ◌^◌, ◌<◌, ◌≤◌, min, false, List, length, slice_index, sym, ◌∙◌, ⊎_elim, arith, pow_mono, mul-le-mul_left}
use Rattle.std.proofs.lemmas.Bool.{cases_lt}
use Rattle.std.proofs.lemmas.List.{get_or-drop, get_or_past, take_all}
use native.Mathlib.Nat.{div-eq_of_lt}
use Rattle.model.specs.Masks.{bit}

-- a word of 32 bits has no bit from the 32nd on
pub past_bits : (w a : ℕ) → w < 2 ^ 32 → 32 ≤ a → bit w a ≡ false
past_bits w a h l =
    let p = pow_mono l in
    let e : w / 2 ^ a ≡ 0 = div-eq_of_lt (omega arith) in
    rw e

-- a product stops where its first number stopped
pub capped_product : (top b n : ℕ) → 1 ≤ n → min (min b top * n) top ≡ min (b * n) top
capped_product top b n h =
    let m : b * 1 ≤ b * n = mul-le-mul_left b h in
    let t : top * 1 ≤ top * n = mul-le-mul_left top h in
    ⊎_elim (λ (l : b < top). let e : min b top ≡ b = omega arith in rw e)
    (λ (l : top ≤ b). let e : min b top ≡ top = omega arith in rw e (omega arith)) (cases_lt b top)

-- where the reckoning of a place stopped, the book has ended
pub capped_place : (words : List ℕ) (top k y : ℕ) → length words ≤ top → slice_index words (min k top + y) ≡ slice_index words (k + y)
capped_place words top k y few =
    ⊎_elim (λ (l : k < top). let e : min k top ≡ k = omega arith in ap (λ (i : ℕ). slice_index words (i + y)) e)
    (λ (l : top ≤ k). get_or_past words (min k top + y) 0 (omega arith) ∙ sym (get_or_past words (k + y) 0 (omega arith))) (cases_lt k top)

-- the words from such a place on are the words from the place on: where the reckoning stopped, the book has ended
pub words_from : (words : List ℕ) (top k y : ℕ) → length words ≤ top
    → slice_index (take (length words - min (min k top) (length words)) (drop (min (min k top) (length words)) words)) y ≡ slice_index words (k + y)
words_from words top k y few =
    let s = min (min k top) (length words) in
    ap (λ (xs : List ℕ). slice_index xs y) (take_all (length words - s) (drop s words) (omega (arith, length-drop s words)))
    ∙ get_or-drop s words y 0
    ∙ ⊎_elim (λ (l : k < length words). let e : s ≡ k = omega arith in ap (λ (i : ℕ). slice_index words (i + y)) e)
    (λ (l : length words ≤ k). get_or_past words (s + y) 0 (omega arith) ∙ sym (get_or_past words (k + y) 0 (omega arith))) (cases_lt k (length words))
