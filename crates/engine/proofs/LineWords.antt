-- What the fillings of each kind write is what the table has of that kind, over the words of the lines below.
use Rattle.std.proofs.Common.{◌≡◌, ℕ, ◌+◌, ◌*◌, ◌/◌, ◌%◌, ◌<◌, ◌≤◌, Bool, not, ◌||◌, List, [], get_or, sym, ap, ◌∙◌, ap₂, mul_assoc, add-mul, arith}
use Rattle.std.proofs.lemmas.Nat.{div-add-mod', div_below, mod_below}
use Rattle.model.specs.Books.{finding_in}
use Rattle.model.specs.Table.{word, says_yes, near_word, surrounded_word, until_word, awaited_word}
use Rattle.engine.specs.Filling.{in_order, next_word}
use Rattle.engine.proofs.Filled.{day_fits}
use Rattle.engine.proofs.Nearness.{near_same}
use Rattle.engine.proofs.Nexts.{next_same}
use Rattle.engine.proofs.WaysFilled.{surrounded_same, until_same, awaited_same}

-- a word of line l, day by day and point by point
pub place_is : (n m : ℕ) (book : List ℕ) (l d x : ℕ) → l * (m * n) + (d * n + x) ≡ (l * m + d) * n + x
place_is n m book l d x = omega (arith, add-mul (l * m) d n, mul_assoc l m n)

-- a word of a line below line i stands before those of line i
pub stands_below : (n m i j d x : ℕ) → j < i → d < m → x < n → (j * m + d) * n + x < i * (m * n)
stands_below n m i j d x hj hd hx = omega (arith, place_is n m [] j d x, day_fits j i (m * n) hj, day_fits d m n hd)

-- the words are those of line l of the book
abbrev pub IsLine : ℕ → ℕ → List ℕ → ℕ → List ℕ → Type 0
IsLine n m book l words = (k : ℕ) → k < m * n → get_or words k 0 ≡ get_or book (l * (m * n) + k) 0

pub word_is : (n m : ℕ) (book : List ℕ) (l : ℕ) (words : List ℕ) → IsLine n m book l words → (d x : ℕ) → d < m → x < n → get_or words (d * n + x) 0 ≡ finding_in book n m l d x
word_is n m book l words is d x h g = let fits = day_fits d m n h in is (d * n + x) (omega arith) ∙ ap (λ i. get_or book i 0) (place_is n m book l d x)

module _ (n m : ℕ) (some : 1 ≤ n) (book : List ℕ) where
  at_place : (l : ℕ) (words : List ℕ) → IsLine n m book l words → (d x : ℕ) → d < m → x < n → says_yes (get_or words (d * n + x) 0) ≡ says_yes (finding_in book n m l d x)
  at_place l words is d x h g = ap says_yes (word_is n m book l words is d x h g)

  module _ (k : ℕ) (h : k < m * n) where
    pub in_days : k / n < m
    in_days = div_below k n m some h

    pub in_points : k % n < n
    in_points = mod_below k n some

    here : (l : ℕ) (words : List ℕ) → IsLine n m book l words → says_yes (get_or words k 0) ≡ says_yes (finding_in book n m l (k / n) (k % n))
    here l words is = ap (λ i. says_yes (get_or words i 0)) (sym (div-add-mod' k n)) ∙ at_place l words is (k / n) (k % n) in_days in_points

    module _ (l : ℕ) (left : List ℕ) (left_is : IsLine n m book l left) where
      pub not_words : word (not (says_yes (get_or left k 0))) 0 ≡ word (not (says_yes (finding_in book n m l (k / n) (k % n)))) 0
      not_words = ap (λ b. word (not b) 0) (here l left left_is)

      pub near_words : (leads : ℕ → ℕ → Bool) → in_order n (λ d. near_word n leads (λ y. says_yes (get_or left (d * n + y) 0))) k ≡ near_word n leads (λ y. says_yes (finding_in book n m l (k / n) y)) (k % n)
      near_words leads = near_same n leads _ _ (λ y g. at_place l left left_is (k / n) y in_days g) (k % n) in_points

      pub next_words : (after : ℕ → ℕ → Bool) → in_order n (λ d x. next_word m after (λ e. says_yes (get_or left (e * n + x) 0)) d) k ≡ next_word m after (λ e. says_yes (finding_in book n m l e (k % n))) (k / n)
      next_words after = next_same m after _ (k / n) _ (λ e g. at_place l left left_is e (k % n) g in_points)

      pub awaited_words : (after : ℕ → ℕ → Bool) → in_order n (λ d x. awaited_word m after (λ e. says_yes (get_or left (e * n + x) 0)) d) k ≡ awaited_word m after (λ e. says_yes (finding_in book n m l e (k % n))) (k / n)
      awaited_words after = awaited_same m after _ _ (λ e g. at_place l left left_is e (k % n) g in_points) (k / n) in_days

      module _ (r : ℕ) (right : List ℕ) (right_is : IsLine n m book r right) where
        pub or_words : word (says_yes (get_or left k 0) || says_yes (get_or right k 0)) 0 ≡ word (says_yes (finding_in book n m l (k / n) (k % n)) || says_yes (finding_in book n m r (k / n) (k % n))) 0
        or_words = ap₂ (λ a b. word (a || b) 0) (here l left left_is) (here r right right_is)

        pub surrounded_words : (leads : ℕ → ℕ → Bool) → in_order n (λ d. surrounded_word n leads (λ y. says_yes (get_or left (d * n + y) 0)) (λ y. says_yes (get_or right (d * n + y) 0))) k ≡ surrounded_word n leads (λ y. says_yes (finding_in book n m l (k / n) y)) (λ y. says_yes (finding_in book n m r (k / n) y)) (k % n)
        surrounded_words leads = surrounded_same n leads _ _ _ _ (λ y g. at_place l left left_is (k / n) y in_days g) (λ y g. at_place r right right_is (k / n) y in_days g) (k % n) in_points

        pub until_words : (after : ℕ → ℕ → Bool) → in_order n (λ d x. until_word m after (λ e. says_yes (get_or left (e * n + x) 0)) (λ e. says_yes (get_or right (e * n + x) 0)) d) k ≡ until_word m after (λ e. says_yes (finding_in book n m l e (k % n))) (λ e. says_yes (finding_in book n m r e (k % n))) (k / n)
        until_words after = until_same m after _ _ _ _ (λ e g. at_place l left left_is e (k % n) g in_points) (λ e g. at_place r right right_is e (k % n) g in_points) (k / n) in_days
