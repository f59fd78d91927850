-- What show writes of an every-future no where the words are the table's: days that circle.
use Rattle.std.proofs.Common.{◌≡◌, ℕ, zero, suc, ◌+◌, ◌<◌, ◌≤◌, Bool, true, false, not, ◌&&◌, ◌||◌, eqb, List, [], ◌∷◌, ◌++◌, length, get_or, Some, Option, sym, refl, ap, ◌∙◌, subst, ⊎_elim, arith, length-append}
use Rattle.std.proofs.Math.Bool.{or-false, or_assoc}
use Rattle.std.proofs.lemmas.List.{get_or_append_left, get_or_push}
use Rattle.std.proofs.lemmas.Bool.{cases_Bool, cases_eq, both_ways, or_cases, or_left, or_right, cond-true, cond-false, eq-eqb, eqb-true, ne_eqb}
use Rattle.model.specs.Numbers.{least}
use Rattle.model.specs.Relations.{Inside, Unending}
use Rattle.model.specs.Showing.{go_on, stands_in, circle}
use Rattle.model.specs.Table.{says_yes, awaited_word}
use Rattle.model.specs.Ways.{no_days, around, Circles}
use Rattle.model.proofs.Futures.{Unsure, no_circles, no_next_some, no_days_unsure}
use Rattle.model.proofs.Solution.{least_same}

-- the first days of a sequence
abbrev front : (ℕ → ℕ) → ℕ → List ℕ
front day zero = []
front day (suc i) = front day i ++ day i ∷ []

module _ (day : ℕ → ℕ) where
  front_long : (i : ℕ) → length (front day i) ≡ i
  front_long zero = refl
  front_long (suc i) = length-append (front day i) (day i ∷ []) ∙ omega (arith, front_long i)

  front_at : (i k : ℕ) → k < i → get_or (front day i) k 0 ≡ day k
  front_at zero k h = absurd (omega arith)
  front_at (suc i) k h =
      ⊎_elim (λ (e : k ≡ i). rw e (get_or_push (front day i) (day i) 0 i (front_long i)))
      (λ (ne : k ≡ i → ⊥). get_or_append_left (front day i) (day i ∷ []) 0 k (omega (arith, front_long i)) ∙ front_at i k (omega arith)) (cases_eq k i)

-- what stands in a list stands in a longer one, and at its end
stands_left : (d : ℕ) (xs ys : List ℕ) → stands_in d xs ≡ true → stands_in d (xs ++ ys) ≡ true
stands_left d [] ys t = absurd (both_ways false refl t)
stands_left d (x ∷ xs) ys t = ⊎_elim (λ e. or_left _ _ e) (λ s. or_right (eqb x d) _ (stands_left d xs ys s)) (or_cases (eqb x d) (stands_in d xs) t)

stands_end : (d : ℕ) (xs : List ℕ) → stands_in d (xs ++ d ∷ []) ≡ true
stands_end d [] = or_left _ _ (eq-eqb d d refl)
stands_end d (x ∷ xs) = or_right (eqb x d) _ (stands_end d xs)

stands_split : (d : ℕ) (xs : List ℕ) (y : ℕ) → stands_in d (xs ++ y ∷ []) ≡ (stands_in d xs || eqb y d)
stands_split d [] y = or-false (eqb y d)
stands_split d (x ∷ xs) y = ap (λ b. eqb x d || b) (stands_split d xs y) ∙ sym (or_assoc (eqb x d) (stands_in d xs) (eqb y d))

module _ (day : ℕ → ℕ) where
  -- an earlier day stands in the front, and what stands there is an earlier day
  stands_from : (i k : ℕ) → k < i → stands_in (day k) (front day i) ≡ true
  stands_from zero k h = absurd (omega arith)
  stands_from (suc i) k h =
      ⊎_elim (λ (e : k ≡ i). rw e (stands_end (day i) (front day i)))
      (λ (ne : k ≡ i → ⊥). stands_left (day k) (front day i) (day i ∷ []) (stands_from i k (omega arith))) (cases_eq k i)

  stands_gives : (d i : ℕ) → stands_in d (front day i) ≡ true → (k : ℕ) × (k < i) × (day k ≡ d)
  stands_gives d zero t = absurd (both_ways false refl t)
  stands_gives d (suc i) t =
      ⊎_elim (λ s. let w = stands_gives d i s in (w.0, omega (arith, w.1), w.2)) (λ e. (i, omega arith, eqb-true _ _ e))
      (or_cases (stands_in d (front day i)) (eqb (day i) d) (sym (stands_split d (front day i) (day i)) ∙ t))

  -- the first repeated day is found, where one is within reach
  module _ (next : ℕ → Option ℕ) (awaited : ℕ → Bool) (goes : (i : ℕ) → next (day i) ≡ Some (day (suc i))) (never : (i : ℕ) → awaited (day i) ≡ false) (a b : ℕ) (early : a < b) (again : day a ≡ day b) where
    found : (gap i more : ℕ) → i + gap ≡ b → gap ≤ more → (j : ℕ) × (circle next awaited (suc more) (front day i) (day i) ≡ Some (front day (suc j))) × (stands_in (day j) (front day j) ≡ true)
    found zero i more e h =
        let same : b ≡ i = omega arith in
        let here : stands_in (day i) (front day i) ≡ true = subst (λ (j : ℕ). stands_in (day j) (front day j) ≡ true) same (subst (λ (d : ℕ). stands_in d (front day b) ≡ true) again (stands_from b a early)) in
        (i, cond-true _ _ _ here, here)
    found (suc gap) i zero e h = absurd (omega arith)
    found (suc gap) i (suc more) e h =
        ⊎_elim (λ t. (i, cond-true _ _ _ t, t))
        (λ f.
        let w = found gap (suc i) more (omega arith) (omega arith) in
        (w.0, cond-false _ _ _ f ∙ cond-false _ _ _ (never i) ∙ ap (λ o. go_on o (λ e. circle next awaited (suc more) (front day (suc i)) e)) (goes i) ∙ w.1, w.2))
        (cases_Bool (stands_in (day i) (front day i)))

-- going round stays below the last place
around_below : (back last k : ℕ) → back < last → around back last k < last
around_below back last zero h = omega arith
around_below back last (suc k) h =
    let p = around back last k in
    let l = around_below back last k h in
    ⊎_elim (λ (e : suc p ≡ last). rw (eq-eqb _ _ e) h) (λ (ne : suc p ≡ last → ⊥). rw (ne_eqb _ _ ne) (omega arith)) (cases_eq (suc p) last)

-- days that go on and come back circle
circles : (after : ℕ → ℕ → Bool) (awaited : ℕ → Bool) (day : ℕ → ℕ) (back last : ℕ) → back < last → day back ≡ day last → ((i : ℕ) → after (day i) (day (suc i)) ≡ true) → ((i : ℕ) → awaited (day i) ≡ false) → Circles after awaited (day 0) (front day (suc last))
circles after awaited day back last early again goes never = record {
  last = last;
  ends = front_long day (suc last);
  starts = at 0 (omega arith);
  back = back;
  earlier = early;
  repeated = at back (omega arith) ∙ again ∙ sym (at last (omega arith));
  run = record { day = λ k. day (around back last k); starts = refl; goes = goes_round };
  circling = λ k. sym (at (around back last k) (omega (arith, around_below back last k early)));
  never = λ k. never (around back last k);
}
  where
    at : (k : ℕ) → k < suc last → get_or (front day (suc last)) k 0 ≡ day k
    at k h = front_at day (suc last) k h

    goes_round : (k : ℕ) → after (day (around back last k)) (day (around back last (suc k))) ≡ true
    goes_round k =
        let p = around back last k in
        ⊎_elim
        (λ (e : suc p ≡ last). rw (eq-eqb _ _ e) (subst (λ (d : ℕ). after (day p) d ≡ true) (ap day e ∙ sym again) (goes p)))
        (λ (ne : suc p ≡ last → ⊥). rw (ne_eqb _ _ ne) (goes p))
        (cases_eq (suc p) last)

-- an every-future no is shown by days that circle
pub awaited_shown : (m : ℕ) (after : ℕ → ℕ → Bool) → Inside m after → Unending m after → (awaited : ℕ → Bool) (own : ℕ → ℕ) → ((e : ℕ) → e < m → own e ≡ awaited_word m after awaited e) → (d : ℕ) → d < m → says_yes (own d) ≡ false → (days : List ℕ) × (circle (λ e. least m (λ f. after e f && not (says_yes (own f)))) awaited (suc m) [] d ≡ Some days) × Circles after awaited d days
awaited_shown m after inside unending awaited own holds d h f =
    let answer : ℕ → Bool = λ e. says_yes (awaited_word m after awaited e) in
    let day : ℕ → ℕ = no_days m after answer d in
    let u : Unsure m after inside unending awaited d = (h, sym (ap says_yes (holds d h)) ∙ f) in
    let c = no_circles m after inside unending awaited d u in
    let next : ℕ → Option ℕ = λ e. least m (λ g. after e g && not (says_yes (own g))) in
    let goes : (i : ℕ) → next (day i) ≡ Some (day (suc i)) = λ i.
    least_same m (λ g. after (day i) g && not (says_yes (own g))) (λ g. after (day i) g && not (answer g)) (λ g l. ap (λ w. after (day i) g && not (says_yes w)) (holds g l))
    ∙ no_next_some m after inside unending awaited (day i) (no_days_unsure m after inside unending awaited d u i) in
    let r = c.repeats in
    let w = found day next awaited goes c.never r.0 r.1 r.2 r.4 r.1 0 m (omega arith) r.3 in
    let s = stands_gives day (day w.0) w.0 w.2 in
    (front day (suc w.0), w.1, circles after awaited day s.0 w.0 s.1 s.2 c.goes c.never)
