-- What is shown by words that were read off a book is what is shown by the book's own words.
use Rattle.std.proofs.Common.{◌≡◌, ℕ, suc, ◌<◌, Bool, true, false, not, ◌&&◌, [], refl, ap, ◌∙◌, ap₂}
use Rattle.model.specs.Showing.{trace}
use Rattle.model.specs.Table.{says_yes, number}
use Rattle.model.proofs.Levels.{least_found}
use Rattle.model.proofs.Solution.{least_same}
use Rattle.engine.specs.Exploring.{step_by}
use Rattle.engine.specs.Strips.{next_no, days_round}
use Rattle.engine.proofs.Circling.{circle_same}
use Rattle.engine.proofs.Tracing.{trace_same}

module _ (n : ℕ) (leads : ℕ → ℕ → Bool) (left right own left' right' own' : ℕ → ℕ)
    (lefts : (y : ℕ) → y < n → left y ≡ left' y) (rights : (y : ℕ) → y < n → right y ≡ right' y) (owns : (y : ℕ) → y < n → own y ≡ own' y) (x : ℕ) (h : x < n) where
  pub way_same : trace n (λ y z. leads y z && not (says_yes (right z))) (λ y. not (says_yes (left y))) own false (number (own x)) x
      ≡ trace n (λ y z. leads y z && not (says_yes (right' z))) (λ y. not (says_yes (left' y))) own' false (number (own' x)) x
  way_same =
      ap (λ (w : ℕ). trace n (λ y z. leads y z && not (says_yes (right z))) (λ y. not (says_yes (left y))) own false (number w) x) (owns x h)
      ∙ trace_same n (λ y z. leads y z && not (says_yes (right z))) (λ y z. leads y z && not (says_yes (right' z))) (λ y. not (says_yes (left y))) (λ y. not (says_yes (left' y))) own own' false
      (λ a b ha hb. ap (λ (w : ℕ). leads a b && not (says_yes w)) (rights b hb)) (λ a ha. ap (λ (w : ℕ). not (says_yes w)) (lefts a ha)) owns (number (own' x)) x h

and_true : (b : Bool) → (b && true) ≡ b
and_true true = refl
and_true false = refl

pub days_same : (m : ℕ) (after : ℕ → ℕ → Bool) (left right left' right' : ℕ → Bool) (own own' : ℕ → ℕ) → ((e : ℕ) → e < m → left e ≡ left' e) → ((e : ℕ) → e < m → right e ≡ right' e) → ((e : ℕ) → e < m → own e ≡ own' e) → (d : ℕ) → d < m
    → trace m (step_by left after (λ e. true)) right own true (number (own d)) d ≡ trace m (λ e f. left' e && after e f) right' own' true (number (own' d)) d
days_same m after left right left' right' own own' lefts rights owns d h =
    ap (λ (w : ℕ). trace m (step_by left after (λ e. true)) right own true (number w) d) (owns d h)
    ∙ trace_same m (step_by left after (λ e. true)) (λ e f. left' e && after e f) right right' own own' true
    (λ a b ha hb. ap₂ (λ (s t : Bool). s && t) (lefts a ha) (and_true (after a b))) rights owns (number (own' d)) d h

pub round_same : (m : ℕ) (after : ℕ → ℕ → Bool) (own left own' left' : ℕ → ℕ) → ((e : ℕ) → e < m → own e ≡ own' e) → ((e : ℕ) → e < m → left e ≡ left' e) → (d : ℕ) → d < m → days_round m after own left d ≡ days_round m after own' left' d
round_same m after own left own' left' owns lefts d h =
    circle_same m (next_no m after own) (next_no m after own') (λ e. says_yes (left e)) (λ e. says_yes (left' e))
    (λ a ha. least_same m _ _ (λ b hb. ap (λ (w : ℕ). after a b && not (says_yes w)) (owns b hb)))
    (λ a b e. (least_found m (λ f. after a f && not (says_yes (own f))) b e).below)
    (λ a ha. ap says_yes (lefts a ha)) (suc m) [] d h
