-- A part of a list that is written, the rows of a line that is filled in, and the line in its book.
use Rattle.std.proofs.Common.{◌≡◌, ℕ, ◌+◌, ◌-◌, ◌*◌, ◌<◌, ◌≤◌, List, length, get_or, take, drop, sym, ap, ◌∙◌, ap₂, ⊎_elim, add-mul, one-mul, arith}
use Rattle.std.proofs.lemmas.List.{get_or-take, get_or-drop, get_or_append_left, get_or-append_right, length-take-le}
use Rattle.std.proofs.lemmas.Bool.{cases_lt}
use Rattle.std.proofs.lemmas.Nat.{div-mul-add, mod-mul-add, mul-le}
use borrow.Rule.Slice.PartMut.{put_mid}
use Rattle.model.specs.Table.{Plane}
use Rattle.engine.specs.Filling.{Written, in_order}

-- a list of which the part from a on is written anew
module _ (a k : ℕ) (xs ys : List ℕ) (held : a + k ≤ length xs) (size : length ys ≡ k) where
  front : length (take a xs) ≡ a
  front = length-take-le a xs (omega arith)

  pub put_before : (i : ℕ) → i < a → get_or (put_mid a k xs ys) i 0 ≡ get_or xs i 0
  put_before i h = get_or_append_left (take a xs) _ 0 i (omega (arith, front)) ∙ get_or-take a xs i 0 h

  pub put_in : (i : ℕ) → i < k → get_or (put_mid a k xs ys) (a + i) 0 ≡ get_or ys i 0
  put_in i h =
      let e : a + i - a ≡ i = omega arith in
      get_or-append_right (take a xs) _ a (a + i) 0 front (omega arith) ∙ get_or_append_left ys _ 0 (a + i - a) (omega arith) ∙ ap (λ j. get_or ys j 0) e

  pub put_after : (i : ℕ) → a + k ≤ i → get_or (put_mid a k xs ys) i 0 ≡ get_or xs i 0
  put_after i h =
      let e : a + (k + (i - a - k)) ≡ i = omega arith in
      get_or-append_right (take a xs) _ a i 0 front (omega arith) ∙ get_or-append_right ys _ k (i - a) 0 size (omega arith)
      ∙ get_or-drop k (drop a xs) (i - a - k) 0 ∙ get_or-drop a xs (k + (i - a - k)) 0 ∙ ap (λ j. get_or xs j 0) e

-- the words of a line, written into its part of the book
pub written_put : (base size : ℕ) (value : ℕ → ℕ) (old line : List ℕ) → base + size ≤ length old → length line ≡ size → ((k : ℕ) → k < size → get_or line k 0 ≡ value k) → Written base size value old (put_mid base size old line)
written_put base size value old line held is made = record {
  words = λ k h. put_in base size old line held is k h ∙ made k h;
  others = λ k h. ⊎_elim (λ (l : k < base). put_before base size old line held is k l) (λ (l : base + size ≤ k). put_after base size old line held is k l) h;
}

-- the words of a day are among those of all days
pub day_fits : (d days n : ℕ) → d < days → d * n + n ≤ days * n
day_fits d days n h = omega (arith, add-mul d 1 n, one-mul n, mul-le (d + 1) n days n (omega arith) (omega arith))

-- one day more of a line
pub row_more : (d n : ℕ) (plane : Plane) (line row : List ℕ) → d * n + n ≤ length line → length row ≡ n → ((x : ℕ) → x < n → get_or row x 0 ≡ plane d x)
    → ((k : ℕ) → k < d * n → get_or line k 0 ≡ in_order n plane k) → (k : ℕ) → k < (d + 1) * n → get_or (put_mid (d * n) (d * n + n - d * n) line row) k 0 ≡ in_order n plane k
row_more d n plane line row held is made before k h =
    let wide : d * n + n - d * n ≡ n = omega arith in
    rw wide
    (⊎_elim (λ (l : k < d * n). put_before (d * n) n line row held is k l ∙ before k l)
    (λ (l : d * n ≤ k).
    let x = k - d * n in
    let b : x < n = omega (arith, add-mul d 1 n, one-mul n) in
    let e : d * n + x ≡ k = omega arith in
    ap (λ i. get_or (put_mid (d * n) n line row) i 0) (sym e) ∙ put_in (d * n) n line row held is x b ∙ made x b
    ∙ sym (ap₂ plane (div-mul-add d n x b) (mod-mul-add d n x b)) ∙ ap (in_order n plane) e)
    (cases_lt k (d * n)))
