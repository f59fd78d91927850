-- What is known of all numbers of a row when they are gone through from the least on.
use Rattle.std.proofs.Common.{List, MatchOption, ◌≡◌, ℕ, zero, suc, ◌+◌, ◌<◌, ◌≤◌, max, Bool, true, false, cond, not, ◌&&◌, ◌||◌, Some, None, Option, sym, refl, ◌∙◌, ap₂, ⊎_elim, add-one, arith}
use mathlib.Core.Path.{fun_ext}
use Rattle.std.proofs.lemmas.Bool.{cases_eq, cases_lt, cases_Bool, both_ways, and_left, or_left, or_right, or_from, not_from_true, not_from_false, cond-true, cond-false}
use denote.Param.Members.{Mut}
use Rattle.std.specs.Fn.{Called}
use Rattle.std.specs.Iterator.{YieldsThen}
use Rattle.std.specs.List.{FoldsTo}
use Rattle.model.specs.Numbers.{any, every, lower_of, lowest, highest}
use Rattle.model.specs.Relations.{MovesOn}
use Rattle.model.proofs.GoingThrough.{any_on}
use Rattle.model.proofs.Numbers.{every_from, every_gives, highest_over}

module _ {S : Type 0} (points : S → ℕ) (row : S → ℕ → Bool) (from : S → ℕ) where
  -- one number more of a row that is gone through
  pub next_met : (n : ℕ) (w : ℕ → Bool) (s t : S) (k : ℕ) → MovesOn points row from s (Some k) t → points s ≡ n → row s ≡ w
      → (points t ≡ n) × (row t ≡ w) × (from t ≡ k + 1) × (from s ≤ k) × (k < n) × (w k ≡ true) × ((j : ℕ) → from s ≤ j → j < k → w j ≡ false)
  next_met n w s t k m p e =
      (m.0 ∙ p, m.1 ∙ e, m.3, m.2.0, omega (arith, m.2.1), rw (← e) m.2.2, λ j a b. rw (← e) (m.2.3 j a b))

  -- none is left
  pub none_left : (n : ℕ) (w : ℕ → Bool) (s t : S) → MovesOn points row from s None t → points s ≡ n → row s ≡ w → (j : ℕ) → from s ≤ j → j < n → w j ≡ false
  none_left n w s t m p e j a b = rw (← e) (m.2 j a (omega arith))

-- what holds of the numbers of a row before `from`, where there are none from there on, holds of all of them
pub all_met : (n : ℕ) (row : ℕ → Bool) (P : ℕ → Type 0) (from : ℕ) → ((k : ℕ) → k < from → row k ≡ true → P k) → ((k : ℕ) → from ≤ k → k < n → row k ≡ false)
    → (k : ℕ) → k < n → row k ≡ true → P k
all_met n row P from before none k h r =
    ⊎_elim (λ (l : k < from). before k l r) (λ (l : from ≤ k). absurd (both_ways (row k) (none k l h) r)) (cases_lt k from)

-- what holds of the numbers of a row before `from`, and of the next one, holds up to there
pub one_met : (row : ℕ → Bool) (P : ℕ → Type 0) (from e : ℕ) → ((k : ℕ) → k < from → row k ≡ true → P k) → ((k : ℕ) → from ≤ k → k < e → row k ≡ false) → P e
    → (k : ℕ) → k < e + 1 → row k ≡ true → P k
one_met row P from e before none here k h r =
    ⊎_elim (λ (s : k ≡ e). rw s here) (λ (ne : k ≡ e → ⊥). all_met e row P from before none k (omega arith) r) (cases_eq k e)

lower_none : (o : Option ℕ) → lower_of o None ≡ o
lower_none None = refl
lower_none (Some k) = refl

-- numbers of which none passes are passed over
pub lowest_over : (from n : ℕ) (test : ℕ → Bool) (value : ℕ → ℕ) → from ≤ n → ((k : ℕ) → from ≤ k → k < n → test k ≡ false) → lowest n test value ≡ lowest from test value
lowest_over from zero test value h none = let e : from ≡ 0 = omega arith in rw e
lowest_over from (suc n) test value h none =
    ⊎_elim (λ (e : from ≡ suc n). rw e)
    (λ (ne : from ≡ suc n → ⊥).
    rw (none n (omega arith) (omega arith)) (lower_none (lowest n test value) ∙ lowest_over from n test value (omega arith) (λ k l i. none k l (omega arith))))
    (cases_eq from (suc n))

-- the next number of the row counts where it passes
pub lowest_more : (row test : ℕ → Bool) (value : ℕ → ℕ) (from e : ℕ) → from ≤ e → row e ≡ true → ((k : ℕ) → from ≤ k → k < e → row k ≡ false)
    → lowest (e + 1) (λ k. row k && test k) value ≡ lower_of (lowest from (λ k. row k && test k) value) (cond (test e) (Some (value e)) None)
lowest_more row test value from e h r none =
    rw (add-one e, r, lowest_over from e (λ k. row k && test k) value h (λ k l i. and_left (row k) (test k) (none k l i)))

pub highest_more : (row : ℕ → Bool) (value : ℕ → ℕ) (from e : ℕ) → from ≤ e → row e ≡ true → ((k : ℕ) → from ≤ k → k < e → row k ≡ false)
    → highest (e + 1) row value ≡ max (highest from row value) (value e)
highest_more row value from e h r none = rw (add-one e, r, highest_over from e row value h none)

-- where every number of the row passes there is a highest value, and where one does not there is none
module _ (n : ℕ) (row test : ℕ → Bool) (value : ℕ → ℕ) where
  pub waits_met : ((k : ℕ) → k < n → row k ≡ true → test k ≡ true) → Some (highest n row value) ≡ cond (every n (λ k. not (row k) || test k)) (Some (highest n row value)) None
  waits_met all =
      sym (cond-true _ _ _ (every_from n (λ k. not (row k) || test k) (λ k h.
      ⊎_elim (λ (r : row k ≡ true). or_right (not (row k)) (test k) (all k h r)) (λ (r : row k ≡ false). or_left (not (row k)) (test k) (not_from_false (row k) r)) (cases_Bool (row k)))))

  pub waits_fail : (k : ℕ) → k < n → row k ≡ true → test k ≡ false → None ≡ cond (every n (λ k. not (row k) || test k)) (Some (highest n row value)) None
  waits_fail k h r t =
      ⊎_elim (λ (a : every n (λ k. not (row k) || test k) ≡ true).
      absurd (both_ways (not (row k) || test k) (or_from _ _ (not_from_true (row k) r) t) (every_gives n (λ k. not (row k) || test k) a k h)))
      (λ f. sym (cond-false _ _ _ f)) (cases_Bool (every n (λ k. not (row k) || test k)))

-- how three tests are grouped makes no difference
and_assoc : (a b c : Bool) → (a && (b && c)) ≡ ((a && b) && c)
and_assoc true b c = refl
and_assoc false b c = refl

pub lowest_grouped : (m n : ℕ) (t u v : ℕ → Bool) (value : ℕ → ℕ) → m ≡ n → lowest m (λ k. t k && (u k && v k)) value ≡ lowest n (λ k. (t k && u k) && v k) value
lowest_grouped m n t u v value e = ap₂ (λ k test. lowest k test value) e (fun_ext (λ k. and_assoc (t k) (u k) (v k)))

-- what `any` answers over a row of n numbers that is gone through from the start
pub any_met : {S F : Type 0} (points : S → ℕ) (row : S → ℕ → Bool) (from : S → ℕ) {g : Mut F (ℕ × Unit {0}) Bool} {f : F} {s : S} {r : Bool} (u : S) (n : ℕ) (w test : ℕ → Bool)
    → from s ≡ 0 → points s ≡ n → row s ≡ w
    → (xs : List ℕ) × (o : Option ℕ) × (j : F) × YieldsThen (MovesOn points row from) s xs o u × FoldsTo (λ p x q. Called g p (x, tt) false q) f xs j
    × MatchOption o (r ≡ false) (λ x. (r ≡ true) × ((h : F) × Called g j (x, tt) true h))
    → ((x : ℕ) (q : F) → Called g f (x, tt) true q → test x ≡ true) → ((x : ℕ) (q : F) → Called g f (x, tt) false q → (q ≡ f) × (test x ≡ false))
    → r ≡ any n (λ k. w k && test k)
any_met points row from {g} {f} {s} {r} u n w test z e h ran passes fails =
    any_on points row from g test f s u r z ran passes fails ∙ ap₂ (λ m v. any m (λ k. v k && test k)) e h
