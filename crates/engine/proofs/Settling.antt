-- Days are settled with the least number of steps that is enough, and those that are left when nothing changes have none.
use Rattle.std.proofs.Common.{◌≡◌, ℕ, zero, suc, ◌+◌, ◌<◌, ◌≤◌, max, Bool, true, false, ◌&&◌, eqb, leb, List, length, get_or, set, Some, None, MatchBool, unwrap_or, sym, ap, ◌∙◌, subst, inl, inr, ⊎_elim, zero-le, add-one, arith}
use mathlib.Core.Path.{fun_ext}
use Rattle.std.proofs.lemmas.List.{get_or-set_same, get_or-set_other}
use Rattle.std.proofs.lemmas.Bool.{cases_eq, cases_lt, cases_Bool, both_ways, and_from, and_parts, and_left, and_right, and_cases, or_from, eq-eqb, ne_eqb, eqb-true, le-leb, lt-leb, leb-true, cond-true, cond-false}
use Rattle.model.specs.Numbers.{any, highest}
use Rattle.model.specs.Relations.{Inside, Unending}
use Rattle.model.specs.Table.{sure, wait}
use Rattle.model.proofs.Fixpoints.{highest_from, highest_gives}
use Rattle.model.proofs.Levels.{least_found, least_is, least_is_none, tally_more}
use Rattle.model.proofs.Numbers.{any_from, any_gives, any_none, highest_over}
use Rattle.model.proofs.Ranks.{sure_next, sure_by, wait_from, wait_reaches}
use Rattle.engine.specs.Settling.{awaited_in, open_in, Marked, Sound, Settled, next_wait, open_count, AtRest, Passed}

-- numbers of which none passes are passed over
pub any_over : (from n : ℕ) (test : ℕ → Bool) → from ≤ n → any from test ≡ false → ((k : ℕ) → from ≤ k → k < n → test k ≡ false) → any n test ≡ false
any_over from n test h before none =
    ⊎_elim (λ (t : any n test ≡ true).
    let w = any_gives n test t in
    absurd (both_ways (test w.0) (⊎_elim (λ (l : w.0 < from). any_none from test before w.0 l) (λ (l : from ≤ w.0). none w.0 l w.1) (cases_lt w.0 from)) w.2))
    (λ f. f) (cases_Bool (any n test))

-- the answer of a look at the days after d, going from each to the next
module _ (n : ℕ) (after : ℕ → ℕ → Bool) (waits : List ℕ) (d : ℕ) where
  -- a next day that is not settled
  pub next_open : (e : ℕ) → e < n → after d e ≡ true → n ≤ get_or waits e 0 → None ≡ next_wait n after waits d
  next_open e h a o = sym (cond-true _ _ _ (any_from n (λ e. after d e && open_in n waits e) e h (and_from _ _ a (le-leb n (get_or waits e 0) o))))

  -- one more next day is settled
  pub open_more : (from e : ℕ) → from ≤ e → ((k : ℕ) → from ≤ k → k < e → after d k ≡ false) → get_or waits e 0 < n
      → any from (λ e. after d e && open_in n waits e) ≡ false → any (e + 1) (λ e. after d e && open_in n waits e) ≡ false
  open_more from e h none l before =
      rw (add-one e)
      (or_from _ _ (any_over from e (λ e. after d e && open_in n waits e) h before (λ k i j. and_left _ _ (none k i j)))
      (and_right _ _ (lt-leb n (get_or waits e 0) l)))

  -- its wait counts
  pub highest_more : (from e : ℕ) → from ≤ e → after d e ≡ true → ((k : ℕ) → from ≤ k → k < e → after d k ≡ false)
      → highest (e + 1) (λ e. after d e) (λ e. get_or waits e 0) ≡ max (highest from (λ e. after d e) (λ e. get_or waits e 0)) (get_or waits e 0)
  highest_more from e h a none = rw (add-one e, a, highest_over from e (λ e. after d e) (λ e. get_or waits e 0) h none)

  -- none is left
  pub next_all : (from top : ℕ) → from ≤ n → ((k : ℕ) → from ≤ k → k < n → after d k ≡ false) → top ≡ highest from (λ e. after d e) (λ e. get_or waits e 0)
      → any from (λ e. after d e && open_in n waits e) ≡ false → Some (1 + top) ≡ next_wait n after waits d
  next_all from top h none is before =
      ap (λ x. Some (1 + x)) (is ∙ sym (highest_over from n (λ e. after d e) (λ e. get_or waits e 0) h none))
      ∙ sym (cond-false _ _ _ (any_over from n (λ e. after d e && open_in n waits e) h before (λ k i j. and_left _ _ (none k i j))))

  -- what the answer says of the days after d
  pub none_gives : next_wait n after waits d ≡ None → (e : ℕ) × (e < n) × (after d e ≡ true) × (n ≤ get_or waits e 0)
  none_gives is =
      ⊎_elim
      (λ (t : any n (λ e. after d e && open_in n waits e) ≡ true).
      let w = any_gives n (λ e. after d e && open_in n waits e) t in
      let p = and_parts (after d w.0) (open_in n waits w.0) w.2 in
      (w.0, w.1, p.0, leb-true n (get_or waits w.0 0) p.1))
      (λ (f : any n (λ e. after d e && open_in n waits e) ≡ false).
      let some = cond-false (any n (λ e. after d e && open_in n waits e)) None (Some (1 + highest n (λ e. after d e) (λ e. get_or waits e 0))) f in
      let z : ◌≡◌ {A = ℕ} 0 1 = cc in
      absurd (omega arith))
      (cases_Bool (any n (λ e. after d e && open_in n waits e)))

  pub some_gives : (k : ℕ) → next_wait n after waits d ≡ Some k
      → (k ≡ 1 + highest n (λ e. after d e) (λ e. get_or waits e 0)) × ((e : ℕ) → e < n → after d e ≡ true → get_or waits e 0 < n)
  some_gives k is =
      ⊎_elim
      (λ (t : any n (λ e. after d e && open_in n waits e) ≡ true).
      let none = cond-true (any n (λ e. after d e && open_in n waits e)) None (Some (1 + highest n (λ e. after d e) (λ e. get_or waits e 0))) t in
      let z : ◌≡◌ {A = ℕ} 0 1 = cc in
      absurd (omega arith))
      (λ (f : any n (λ e. after d e && open_in n waits e) ≡ false).
      let some = cond-false (any n (λ e. after d e && open_in n waits e)) None (Some (1 + highest n (λ e. after d e) (λ e. get_or waits e 0))) f in
      let same : k ≡ 1 + highest n (λ e. after d e) (λ e. get_or waits e 0) = cc in (
        same,
        (λ e h a. ⊎_elim (λ l. l)
            (λ (o : n ≤ get_or waits e 0). absurd (both_ways (open_in n waits e) (⊎_elim (λ (g : after d e ≡ false). absurd (both_ways (after d e) g a)) (λ g. g) (and_cases (after d e) (open_in n waits e) (any_none n (λ e. after d e && open_in n waits e) f e h))) (le-leb n (get_or waits e 0) o)))
            (cases_lt (get_or waits e 0) n)),
      ))
      (cases_Bool (any n (λ e. after d e && open_in n waits e)))

-- the same days are awaited
pub same_awaited : (before waits : List ℕ) → ((e : ℕ) → awaited_in waits e ≡ awaited_in before e) → awaited_in before ≡ awaited_in waits
same_awaited before waits same = fun_ext (λ e. sym (same e))

pub sound_same : (n : ℕ) (after : ℕ → ℕ → Bool) (before waits : List ℕ) → ((e : ℕ) → awaited_in waits e ≡ awaited_in before e) → Sound n after (awaited_in before) waits → Sound n after (awaited_in waits) waits
sound_same n after before waits same sound = subst (λ a. Sound n after a waits) (same_awaited before waits same) sound

-- one day more is settled
pub fewer_open : (n : ℕ) (waits : List ℕ) (d k : ℕ) → n ≤ length waits → d < n → n ≤ get_or waits d 0 → k < n → open_count n (set waits d k) < open_count n waits
fewer_open n waits d k room h o l =
    let here = get_or-set_same waits d k 0 (omega arith) in
    omega (
      arith,
      tally_more n (λ e. open_in n (set waits d k) e) (λ e. open_in n waits e)
          (λ e i t. ⊎_elim (λ (s : e ≡ d). rw s (le-leb n (get_or waits d 0) o)) (λ (ne : e ≡ d → ⊥). sym (ap (leb n) (get_or-set_other waits d e k 0 ne)) ∙ t) (cases_eq e d))
          d h (lt-leb n (get_or (set waits d k) d 0) (omega arith)) (le-leb n (get_or waits d 0) o),
    )

module _ (n : ℕ) (after : ℕ → ℕ → Bool) (awaited : ℕ → Bool) (inside : Inside n after) (unending : Unending n after) where
  -- a day that is settled has its wait
  exact : (waits : List ℕ) → Sound n after awaited waits → (d : ℕ) → d < n → get_or waits d 0 < n → wait n after awaited d ≡ Some (get_or waits d 0)
  exact waits sound d h l = ⊎_elim (λ (e : get_or waits d 0 ≡ n). absurd (omega arith)) (λ s. s) (sound d h)

  -- a wait is below the count
  wait_below : (d k : ℕ) → wait n after awaited d ≡ Some k → k < n
  wait_below d k e = (least_found n (λ j. sure n after awaited j d) k e).below

  -- a number that is enough for d is at least one more than those of the days after it
  at_least : (waits : List ℕ) → Sound n after awaited waits → (d : ℕ) → d < n → awaited d ≡ false → ((e : ℕ) → e < n → after d e ≡ true → get_or waits e 0 < n)
      → (r : ℕ) → sure n after awaited r d ≡ true → 1 + highest n (λ e. after d e) (λ e. get_or waits e 0) ≤ r
  at_least waits sound d h other settled zero t = absurd (both_ways (awaited d) other t)
  at_least waits sound d h other settled (suc r) t =
      ⊎_elim (λ g. absurd (both_ways (awaited d) other g))
      (λ all.
      let most = highest_from n (λ e. after d e) (λ e. get_or waits e 0) r (λ e l a.
      let w = wait_from n after awaited inside unending r e l (all e l a) in
      let x = exact waits sound e l (settled e l a) in
      let s : w.0 ≡ get_or waits e 0 = cc w.1 in
      omega (arith, w.2)) in
      omega arith)
      (sure_by n after awaited r d t)

  -- a day whose next days are settled has one more than the highest of their waits
  pub newly : (waits : List ℕ) → Sound n after awaited waits → (d : ℕ) → d < n → awaited d ≡ false → (k : ℕ) → next_wait n after waits d ≡ Some k → wait n after awaited d ≡ Some k
  newly waits sound d h other k is =
      let top = highest n (λ e. after d e) (λ e. get_or waits e 0) in
      let gives = some_gives n after waits d k is in
      let t : sure n after awaited (suc top) d ≡ true = sure_next n after awaited top d (λ e l a.
      wait_reaches n after awaited inside unending top e (get_or waits e 0) l (exact waits sound e l (gives.1 e l a)) (highest_gives n (λ e. after d e) (λ e. get_or waits e 0) top (omega arith) e l a)) in
      let w = wait_from n after awaited inside unending (suc top) d h t in
      let r = at_least waits sound d h other gives.1 w.0 (least_found n (λ j. sure n after awaited j d) w.0 w.1).passes in
      let s : w.0 ≡ k = omega (arith, gives.0, w.2) in
      w.1 ∙ ap Some s

  -- where each day that is not settled leads to another, no number of steps is enough
  never : (waits : List ℕ) → ((e : ℕ) → awaited e ≡ true → get_or waits e 0 ≡ 0) → 1 ≤ n → ((e : ℕ) → e < n → n ≤ get_or waits e 0 → next_wait n after waits e ≡ None)
      → (k d : ℕ) → d < n → n ≤ get_or waits d 0 → sure n after awaited k d ≡ false
  never waits zeros some rest zero d h o =
      ⊎_elim (λ (t : awaited d ≡ true). absurd (omega (arith, zeros d t))) (λ f. f) (cases_Bool (awaited d))
  never waits zeros some rest (suc k) d h o =
      let w = none_gives n after waits d (rest d h o) in
      ⊎_elim (λ (t : sure n after awaited (suc k) d ≡ true).
      absurd (⊎_elim (λ (g : awaited d ≡ true). omega (arith, zeros d g))
      (λ all. both_ways (sure n after awaited k w.0) (never waits zeros some rest k w.0 w.1 w.3) (all w.0 w.1 w.2))
      (sure_by n after awaited k d t)))
      (λ f. f) (cases_Bool (sure n after awaited (suc k) d))

  -- so all waits are known
  pub all_settled : (waits : List ℕ) → Sound n after awaited waits → ((e : ℕ) → awaited e ≡ true → get_or waits e 0 ≡ 0) → 1 ≤ n → ((e : ℕ) → e < n → n ≤ get_or waits e 0 → next_wait n after waits e ≡ None) → Settled n after awaited waits
  all_settled waits sound zeros some rest d h =
      ⊎_elim
      (λ (e : get_or waits d 0 ≡ n). e ∙ sym (ap (λ o. unwrap_or o n) (least_is_none n (λ k. sure n after awaited k d) (λ k _. never waits zeros some rest k d h (omega arith)))))
      (λ s. sym (ap (λ o. unwrap_or o n) s)) (sound d h)

-- numbers that are 0 or the count are sound
pub sound_first : (n : ℕ) (after : ℕ → ℕ → Bool) (waits : List ℕ) → 1 ≤ n → Marked n waits → Sound n after (awaited_in waits) waits
sound_first n after waits some marked d h =
    ⊎_elim
    (λ (e : get_or waits d 0 ≡ 0).
    inr (least_is n (λ k. sure n after (awaited_in waits) k d) 0 (record { below = omega arith; passes = eq-eqb (get_or waits d 0) 0 e; first = λ j l. absurd (omega arith) }) ∙ ap Some (sym e)))
    inl (marked d h)

module _ (n : ℕ) (after : ℕ → ℕ → Bool) (d : ℕ) (before waits : List ℕ) where
  -- the days that are left are at most as many as before the pass
  went_on : (changed : Bool) → MatchBool changed (open_count n waits < open_count n before) (AtRest n after (d + 1) before waits) → open_count n waits ≤ open_count n before
  went_on true went = omega arith
  went_on false went = omega (arith, ap (λ w. open_count n w) went.0)

  -- a day is settled
  pub passed_settled : Inside n after → Unending n after → n ≤ length waits → d < n → n ≤ get_or waits d 0 → (k : ℕ) → Some k ≡ next_wait n after waits d
      → (changed : Bool) → Passed n after (d + 1) before waits changed → Passed n after d before (set waits d k) true
  passed_settled inside unending room h o k is changed passed =
      let not_now : awaited_in waits d ≡ false = ne_eqb (get_or waits d 0) 0 (omega arith) in
      let not_before : awaited_in before d ≡ false = sym (passed.same d) ∙ not_now in
      let new = newly n after (awaited_in before) inside unending waits passed.sound d h not_before k (sym is) in
      let below = wait_below n after (awaited_in before) inside unending d k new in
      let here = get_or-set_same waits d k 0 (omega arith) in
      let some = (some_gives n after waits d k (sym is)).0 in
      record {
        sound = λ e l. ⊎_elim (λ (s : e ≡ d). inr (rw (s, here) new)) (λ (ne : e ≡ d → ⊥). rw (get_or-set_other waits d e k 0 ne) (passed.sound e l)) (cases_eq e d);
        same = λ e. ⊎_elim (λ (s : e ≡ d). rw s (ne_eqb (get_or (set waits d k) d 0) 0 (omega arith) ∙ sym not_before)) (λ (ne : e ≡ d → ⊥). ap (λ x. eqb x 0) (get_or-set_other waits d e k 0 ne) ∙ passed.same e) (cases_eq e d);
        went = omega (arith, fewer_open n waits d k room h o below, went_on changed passed.went);
      }

-- the turns of the passes: what one pass leaves is what the next finds
module _ (n : ℕ) (after : ℕ → ℕ → Bool) (first before waits : List ℕ) (changed : Bool) (passed : Passed n after 0 before waits changed)
    (same : (e : ℕ) → awaited_in before e ≡ awaited_in first e) where
  pub sound_on : Sound n after (awaited_in first) waits
  sound_on = subst (λ a. Sound n after a waits) (fun_ext same) passed.sound

  pub same_on : (e : ℕ) → awaited_in waits e ≡ awaited_in first e
  same_on e = passed.same e ∙ same e

-- a pass that changes nothing has all waits settled
pub settled_at_rest : (n : ℕ) (after : ℕ → ℕ → Bool) → Inside n after → Unending n after → 1 ≤ n → (first before waits : List ℕ) → Passed n after 0 before waits false
    → ((e : ℕ) → awaited_in before e ≡ awaited_in first e) → Settled n after (awaited_in first) waits
settled_at_rest n after inside unending some first before waits passed same =
    all_settled n after (awaited_in first) inside unending waits (sound_on n after first before waits false passed same)
    (λ e t. eqb-true (get_or waits e 0) 0 (same_on n after first before waits false passed same e ∙ t)) some
    (λ e h o. rw passed.went.0 (passed.went.1 e zero-le h (rw (← passed.went.0) (le-leb n (get_or waits e 0) o))))
