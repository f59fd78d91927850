-- The words of ways out and of beginnings, by the steps that the exploration finds.
use Rattle.std.proofs.Common.{◌≡◌, ℕ, zero, suc, ◌<◌, ◌≤◌, Bool, true, false, cond, not, ◌&&◌, eqb, Some, None, Option, unwrap_or, sym, refl, ap, ◌∙◌, ap₂, ⊎_elim, arith}
use Rattle.std.proofs.lemmas.Bool.{cases_Bool, both_ways, lt-ltb, le-ltb, ne_eqb}
use Rattle.model.specs.Numbers.{least}
use Rattle.model.specs.Table.{no_word, yes_word, rank, reaches, surrounded_word, until_word, sure, wait, awaited_word}
use Rattle.model.proofs.Levels.{least_found, least_is_none}
use Rattle.model.proofs.Ranks.{reaches_by}
use Rattle.model.proofs.Solution.{rank_same, wait_same}
use Rattle.engine.specs.Exploring.{step_by}
use Rattle.engine.specs.Filling.{way_word, day_word}

-- a rank below n, or n in its place, as a word
way_of : (n : ℕ) (test : ℕ → Bool) (o : Option ℕ) → least n test ≡ o → way_word n (unwrap_or o n) ≡ no_word o
way_of n test None e = rw (le-ltb n n (omega arith)) refl
way_of n test (Some k) e = rw (lt-ltb k n (least_found n test k e).below) refl

-- the words that the steps give are those of the table, where the rules' words are left's and right's
pub ways_are : (n : ℕ) (leads : ℕ → ℕ → Bool) (left right left' right' : ℕ → Bool) (steps : ℕ → ℕ)
    → ((y : ℕ) → y < n → left' y ≡ left y) → ((y : ℕ) → y < n → right' y ≡ right y)
    → ((x : ℕ) → x < n → steps x ≡ unwrap_or (rank n (step_by (λ _. true) leads (λ y. not (right' y))) (λ y. not (left' y)) x) n)
    → (x : ℕ) → x < n → way_word n (steps x) ≡ surrounded_word n leads left right x
ways_are n leads left right left' right' steps same_left same_right found x h =
    let o = rank n (step_by (λ _. true) leads (λ y. not (right' y))) (λ y. not (left' y)) x in
    ap (way_word n) (found x h)
    ∙ way_of n (λ k. reaches n (step_by (λ _. true) leads (λ y. not (right' y))) (λ y. not (left' y)) k x) o refl
    ∙ ap no_word (rank_same n (step_by (λ _. true) leads (λ y. not (right' y))) (λ y z. leads y z && not (right z)) (λ y. not (left' y)) (λ y. not (left y)) (λ a b ha hb. ap (λ v. leads a b && not v) (same_right b hb)) (λ a ha. ap not (same_left a ha)) x h)

-- left's and right's words at the points are all that counts
pub surrounded_same : (n : ℕ) (leads : ℕ → ℕ → Bool) (left right left' right' : ℕ → Bool) → ((y : ℕ) → y < n → left y ≡ left' y) → ((y : ℕ) → y < n → right y ≡ right' y) → (x : ℕ) → x < n → surrounded_word n leads left right x ≡ surrounded_word n leads left' right' x
surrounded_same n leads left right left' right' same_left same_right x h =
    ap no_word (rank_same n (λ y z. leads y z && not (right z)) (λ y z. leads y z && not (right' z)) (λ y. not (left y)) (λ y. not (left' y)) (λ a b ha hb. ap (λ v. leads a b && not v) (same_right b hb)) (λ a ha. ap not (same_left a ha)) x h)

-- days likewise
day_of : (m : ℕ) (test : ℕ → Bool) (o : Option ℕ) → least m test ≡ o → day_word m (unwrap_or o m) ≡ yes_word o
day_of m test None e = rw (le-ltb m m (omega arith)) refl
day_of m test (Some k) e = rw (lt-ltb k m (least_found m test k e).below) refl

and_true : (b : Bool) → (b && true) ≡ b
and_true true = refl
and_true false = refl

pub days_are : (m : ℕ) (after : ℕ → ℕ → Bool) (left right left' right' : ℕ → Bool) (steps : ℕ → ℕ)
    → ((e : ℕ) → e < m → left' e ≡ left e) → ((e : ℕ) → e < m → right' e ≡ right e)
    → ((d : ℕ) → d < m → steps d ≡ unwrap_or (rank m (step_by left' after (λ _. true)) right' d) m)
    → (d : ℕ) → d < m → day_word m (steps d) ≡ until_word m after left right d
days_are m after left right left' right' steps same_left same_right found d h =
    let o = rank m (step_by left' after (λ _. true)) right' d in
    ap (day_word m) (found d h)
    ∙ day_of m (λ k. reaches m (step_by left' after (λ _. true)) right' k d) o refl
    ∙ ap yes_word (rank_same m (step_by left' after (λ _. true)) (λ e f. left e && after e f) right' right (λ a b ha hb. ap₂ (λ u v. u && v) (same_left a ha) (and_true (after a b))) same_right d h)

-- without goals nothing is reached
module _ (n : ℕ) (step : ℕ → ℕ → Bool) (goal : ℕ → Bool) (none : (x : ℕ) → x < n → goal x ≡ false) where
  never : (k x : ℕ) → x < n → reaches n step goal k x ≡ true → ⊥
  never zero x h t = both_ways (goal x) (none x h) t
  never (suc k) x h t =
      ⊎_elim (λ (g : goal x ≡ true). both_ways (goal x) (none x h) g) (λ w. never k w.0 w.1 w.3) (reaches_by n step goal k x t)

  goalless : (x : ℕ) → x < n → rank n step goal x ≡ None
  goalless x h =
      least_is_none n (λ k. reaches n step goal k x) (λ k _. ⊎_elim (λ t. absurd (never k x h t)) (λ f. f) (cases_Bool (reaches n step goal k x)))

-- where right is yes on no day, left does not matter
pub days_without : (m : ℕ) (after : ℕ → ℕ → Bool) (left right left' right' : ℕ → Bool) (steps : ℕ → ℕ)
    → ((e : ℕ) → e < m → right' e ≡ false) → ((e : ℕ) → e < m → right' e ≡ right e)
    → ((d : ℕ) → d < m → steps d ≡ unwrap_or (rank m (step_by left' after (λ _. true)) right' d) m)
    → (d : ℕ) → d < m → day_word m (steps d) ≡ until_word m after left right d
days_without m after left right left' right' steps none same found d h =
    let step = step_by left' after (λ _. true) in
    ap (day_word m) (found d h)
    ∙ day_of m (λ k. reaches m step right' k d) (rank m step right' d) refl
    ∙ ap yes_word (goalless m step right' none d h ∙ sym (goalless m (λ e f. left e && after e f) right (λ e l. sym (same e l) ∙ none e l) d h))

pub until_same : (m : ℕ) (after : ℕ → ℕ → Bool) (left right left' right' : ℕ → Bool) → ((e : ℕ) → e < m → left e ≡ left' e) → ((e : ℕ) → e < m → right e ≡ right' e) → (d : ℕ) → d < m → until_word m after left right d ≡ until_word m after left' right' d
until_same m after left right left' right' same_left same_right d h =
    ap yes_word (rank_same m (λ e f. left e && after e f) (λ e f. left' e && after e f) right right' (λ a b ha hb. ap (λ u. u && after a b) (same_left a ha)) same_right d h)

-- a mark is 0 exactly on an awaited day
mark_tells : (m : ℕ) (b : Bool) → 1 ≤ m → eqb (cond b 0 m) 0 ≡ b
mark_tells m true some = refl
mark_tells m false some = ne_eqb m 0 (omega arith)

pub mark_awaited : (m v : ℕ) (b : Bool) → 1 ≤ m → v ≡ cond b 0 m → eqb v 0 ≡ b
mark_awaited m v b some e = ap (λ w. eqb w 0) e ∙ mark_tells m b some

-- the words that the settled waits give are those of the table
pub waits_are : (m : ℕ) (after : ℕ → ℕ → Bool) (left left' : ℕ → Bool) (waits : ℕ → ℕ)
    → ((e : ℕ) → e < m → left' e ≡ left e)
    → ((d : ℕ) → d < m → waits d ≡ unwrap_or (wait m after left' d) m)
    → (d : ℕ) → d < m → day_word m (waits d) ≡ awaited_word m after left d
waits_are m after left left' waits same found d h =
    ap (day_word m) (found d h) ∙ day_of m (λ k. sure m after left' k d) (wait m after left' d) refl ∙ ap yes_word (wait_same m after left' left same d h)

pub awaited_same : (m : ℕ) (after : ℕ → ℕ → Bool) (left left' : ℕ → Bool) → ((e : ℕ) → e < m → left e ≡ left' e) → (d : ℕ) → d < m → awaited_word m after left d ≡ awaited_word m after left' d
awaited_same m after left left' same d h = ap yes_word (wait_same m after left left' same d h)
