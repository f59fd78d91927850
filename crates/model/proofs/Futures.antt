-- The number of an every-future entry is the least that is enough on every run, and where the answer is no the days answered no circle.
use Rattle.std.proofs.Common.{◌≡◌, ℕ, zero, suc, ◌+◌, ◌<◌, ◌≤◌, Bool, true, false, cond, not, ◌&&◌, ◌||◌, eqb, Some, None, Option, unwrap_or, refl, ap, ⊎_elim, zero-le, add-zero, add-suc, arith}
use Rattle.std.proofs.lemmas.Bool.{cases_Bool, both_ways, or_parts, and_parts, and_cases, and_from, not-true, not-false, not_from_false, eqb-true, eqb-false}
use Rattle.std.proofs.lemmas.Bool.Decides.{nat_tests}
use Rattle.model.specs.Logic.{Run}
use Rattle.model.specs.Numbers.{any, least}
use Rattle.model.specs.Relations.{Inside, Unending}
use Rattle.model.specs.Table.{says_yes, number, yes_word, sure, wait, awaited_word}
use Rattle.model.specs.Theorems.{EveryFutureLaw}
use Rattle.model.specs.Ways.{Enough, no_day, no_days, Circling}
use Rattle.model.proofs.Levels.{least_found, least_none}
use Rattle.model.proofs.Numbers.{any_gives, any_none, every_fails}
use Rattle.model.proofs.Ranks.{sure_next, sure_by, wait_from, wait_reaches, no_wait}
use Rattle.model.proofs.Runs.{run_from, run_before, run_tail, run_leads}
use Rattle.model.proofs.Words.{yes_word_some, yes_word_yes, yes_word_no}

-- of more numbers than there are values below m two are the same
pub repeats : (m : ℕ) (f : ℕ → ℕ) → ((i : ℕ) → i ≤ m → f i < m) → (i : ℕ) × (j : ℕ) × (i < j) × (j ≤ m) × (f i ≡ f j)
repeats zero f below = absurd (omega (arith, below 0 zero-le))
repeats (suc m) f below =
    let last = f (suc m) in
    ⊎_elim
    (λ t. let w = any_gives (suc m) (λ i. eqb (f i) last) t in (w.0, suc m, w.1, omega arith, eqb-true _ _ w.2))
    (λ none.
    let other : (i : ℕ) → i ≤ m → f i ≡ last → ⊥ = λ i l. eqb-false _ _ (any_none (suc m) (λ i. eqb (f i) last) none i (omega arith)) in
    let w = repeats m (λ i. cond (eqb (f i) m) last (f i)) (λ i l. let o = other i l in let b = below i (omega arith) in let c = below (suc m) (omega arith) in grind (arith, nat_tests)) in
    let p = other w.0 (omega arith) in
    let q = other w.1 (omega arith) in
    let e = w.4 in
    (w.0, w.1, w.2, omega arith, grind (arith, nat_tests)))
    (cases_Bool (any (suc m) (λ i. eqb (f i) last)))

module _ (m : ℕ) (after : ℕ → ℕ → Bool) (inside : Inside m after) (unending : Unending m after) where
  module _ (awaited : ℕ → Bool) where
    -- what is sure by k steps is met on every run within k steps
    pub sure_meets : (k d : ℕ) → sure m after awaited k d ≡ true → Enough after awaited d k
    sure_meets zero d t r = (0, zero-le, rw r.starts t)
    sure_meets (suc k) d t r =
        ⊎_elim (λ a. (0, zero-le, rw r.starts a))
        (λ all.
        let e = r.day 1 in
        let step = run_leads after d r in
        let w = sure_meets k e (all e (inside d e step).1 step) (run_tail after d r) in
        (suc w.0, omega (arith, w.1), w.2))
        (sure_by m after awaited k d t)

    -- where k steps make nothing sure, some run meets no awaited day within k steps
    unsure_misses : (k d : ℕ) → d < m → sure m after awaited k d ≡ false → (r : Run after d) × ((i : ℕ) → i ≤ k → awaited (r.day i) ≡ false)
    unsure_misses zero d h f = (run_from m after inside unending d h, λ i l. let e : i ≡ 0 = omega arith in rw e f)
    unsure_misses (suc k) d h f =
        let parts = or_parts (awaited d) _ f in
        let w = every_fails m (λ e. not (after d e) || sure m after awaited k e) parts.1 in
        let p = or_parts (not (after d w.0)) (sure m after awaited k w.0) w.2 in
        let rest = unsure_misses k w.0 w.1 p.1 in
        (run_before after d w.0 (not-false (after d w.0) p.0) rest.0, elim [ zero ↦ λ l. parts.0 | suc i ↦ λ l. rest.1 i (omega arith) ])

    -- what is enough on every run is sure
    pub enough_sure : (k d : ℕ) → d < m → Enough after awaited d k → sure m after awaited k d ≡ true
    enough_sure k d h meets =
        ⊎_elim (λ t. t)
        (λ f. let w = unsure_misses k d h f in let v = meets w.0 in absurd (both_ways (awaited (w.0.day v.0)) (w.1 v.0 v.1) v.2))
        (cases_Bool (sure m after awaited k d))

    -- the answer for a day, and the days where it is no
    abbrev pub answer : ℕ → Bool
    answer e = says_yes (awaited_word m after awaited e)

    abbrev pub Unsure : ℕ → Type 0
    Unsure d = (d < m) × (answer d ≡ false)

    -- a day answered yes is sure by m steps, and a day answered no by none
    yes_sure : (d : ℕ) → d < m → answer d ≡ true → sure m after awaited m d ≡ true
    yes_sure d h t =
        let w = yes_word_yes (wait m after awaited d) t in
        let l = (least_found m (λ k. sure m after awaited k d) w.0 w.1).below in
        wait_reaches m after awaited inside unending m d w.0 h w.1 (omega arith)

    no_sure : (k d : ℕ) → Unsure d → sure m after awaited k d ≡ false
    no_sure k d u = no_wait m after awaited inside unending k d u.0 (yes_word_no (wait m after awaited d) u.1)

    -- a day answered no has a next day answered no
    no_next : (d : ℕ) → Unsure d → (after d (no_day m after answer d) ≡ true) × Unsure (no_day m after answer d)
    no_next d u = go (least m next) refl
      where
        next : ℕ → Bool
        next e = after d e && not (answer e)

        go : (o : Option ℕ) → least m next ≡ o → (after d (unwrap_or o 0) ≡ true) × Unsure (unwrap_or o 0)
        go None none = absurd (both_ways (sure m after awaited (suc m) d) (no_sure (suc m) d u)
            (sure_next m after awaited m d (λ e l a. yes_sure e l
            (⊎_elim (λ f. absurd (both_ways (after d e) f a)) (not-false (answer e)) (and_cases (after d e) (not (answer e)) (least_none m next none e l))))))
        go (Some e) some =
            let f = least_found m next e some in
            let p = and_parts (after d e) (not (answer e)) f.passes in
            (p.0, (f.below, not-true (answer e) p.1))

    -- and there is one to be found
    pub no_next_some : (d : ℕ) → Unsure d → least m (λ e. after d e && not (answer e)) ≡ Some (no_day m after answer d)
    no_next_some d u = go (least m (λ e. after d e && not (answer e))) refl
      where
        go : (o : Option ℕ) → least m (λ e. after d e && not (answer e)) ≡ o → o ≡ Some (unwrap_or o 0)
        go None none =
            let w = no_next d u in
            absurd (both_ways _ (least_none m (λ e. after d e && not (answer e)) none (no_day m after answer d) w.1.0) (and_from _ _ w.0 (not_from_false _ w.1.1)))
        go (Some e) some = refl

    -- so all days gone through are answered no, and they circle
    pub no_days_unsure : (d : ℕ) → Unsure d → (i : ℕ) → Unsure (no_days m after answer d i)
    no_days_unsure d u zero = u
    no_days_unsure d u (suc i) = (no_next (no_days m after answer d i) (no_days_unsure d u i)).1

    -- from two equal days on the days are equal
    round : (d i j : ℕ) → no_days m after answer d i ≡ no_days m after answer d j → (k : ℕ) → no_days m after answer d (i + k) ≡ no_days m after answer d (j + k)
    round d i j e zero = rw (add-zero i, add-zero j) e
    round d i j e (suc k) = rw (add-suc i k, add-suc j k) (ap (no_day m after answer) (round d i j e k))

    pub no_circles : (d : ℕ) → Unsure d → Circling m after awaited answer d
    no_circles d u =
        let unsure = no_days_unsure d u in
        let w = repeats m (no_days m after answer d) (λ i l. (unsure i).0) in
        record {
          goes = λ i. (no_next (no_days m after answer d i) (unsure i)).0;
          never = λ i. no_sure 0 (no_days m after answer d i) (unsure i);
          repeats = (w.0, w.1, w.2, w.3, w.4, round d w.0 w.1 w.4);
        }

-- the answer is yes exactly when some number of steps is enough on every run, its number is the least such, and where it is no the days answered no circle
pub every_future_law : EveryFutureLaw
every_future_law m after inside unending awaited d h =
    let o = wait m after awaited d in
    let bound : (k : ℕ) → Enough after awaited d k → (r : ℕ) × (o ≡ Some r) × (r ≤ k) = λ k meets. wait_from m after awaited inside unending k d h (enough_sure m after inside unending awaited k d h meets) in
    let enough : says_yes (yes_word o) ≡ true → Enough after awaited d (number (yes_word o)) = λ t.
    let w = yes_word_yes o t in
    rw (yes_word_some o w.0 w.1).1 (sure_meets m after inside unending awaited w.0 d (wait_reaches m after awaited inside unending w.0 d w.0 h w.1 (omega arith))) in
    record {
      yes_by_a_bound = (λ t. (number (yes_word o), enough t), λ b. let w = bound b.0 b.1 in (yes_word_some o w.0 w.1).0);
      enough = enough;
      least_bound = λ k meets. let w = bound k meets in omega (arith, (yes_word_some o w.0 w.1).1, w.2);
      circles = λ f. no_circles m after inside unending awaited d (h, f);
    }
