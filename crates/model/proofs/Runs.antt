-- Runs: every day begins one, and the beginning of a run goes on to a whole one.
use Rattle.std.proofs.Common.{◌≡◌, ℕ, zero, suc, ◌<◌, Bool, true, List, [], ◌∷◌, refl, subst, arith}
use Rattle.model.specs.Logic.{Run, UntilAlong}
use Rattle.model.specs.Relations.{Inside, Unending}
use Rattle.model.specs.Ways.{Beginning}

-- day d, and then the days of a sequence
abbrev pub prepend : ℕ → (ℕ → ℕ) → ℕ → ℕ
prepend d day zero = d
prepend d day (suc i) = day i

-- a run one day longer, and one day shorter
abbrev pub run_before : (after : ℕ → ℕ → Bool) (d e : ℕ) → after d e ≡ true → Run after e → Run after d
run_before after d e a r = record { day = prepend d r.day; starts = refl; goes = goes }
  where
    goes : (i : ℕ) → after (prepend d r.day i) (prepend d r.day (suc i)) ≡ true
    goes zero = rw r.starts a
    goes (suc i) = r.goes i

abbrev pub run_tail : (after : ℕ → ℕ → Bool) (d : ℕ) (r : Run after d) → Run after (r.day 1)
run_tail after d r = record { day = λ i. r.day (suc i); starts = refl; goes = λ i. r.goes (suc i) }

-- a run's first step
pub run_leads : (after : ℕ → ℕ → Bool) (d : ℕ) (r : Run after d) → after d (r.day 1) ≡ true
run_leads after d r = subst (λ (e : ℕ). after e (r.day 1) ≡ true) r.starts (r.goes 0)

module _ (m : ℕ) (after : ℕ → ℕ → Bool) (inside : Inside m after) (unending : Unending m after) where
  -- from each day on to a next one
  abbrev pub ever : (d : ℕ) → d < m → ℕ → (e : ℕ) × (e < m)
  ever d h zero = (d, h)
  ever d h (suc i) =
      let x = ever d h i in
      let w = unending x.0 x.1 in
      (w.0, (inside x.0 w.0 w.1).1)

  -- every day has a run from it
  abbrev pub run_from : (d : ℕ) → d < m → Run after d
  run_from d h = record { day = λ i. (ever d h i).0; starts = refl; goes = λ i. (unending (ever d h i).0 (ever d h i).1).1 }

  -- a beginning with left until right goes on to a run with left until right
  pub beginning_run : (left right : ℕ → Bool) (d : ℕ) (rest : List ℕ) → d < m → Beginning after left right d rest → (r : Run after d) × UntilAlong (λ e. left e ≡ true) (λ e. right e ≡ true) r.day
  beginning_run left right d [] h b = (run_from d h, (0, b.until, λ k l. absurd (omega arith)))
  beginning_run left right d (e ∷ es) h b =
      let a = b.walk.0 in
      let w = beginning_run left right e es (inside d e a).1 (record { walk = b.walk.1; until = b.until; before = b.before.1 }) in
      (run_before after d e a w.0, (suc w.1.0, w.1.1, before w.0.day w.1.0 w.1.2))
    where
      before : (day : ℕ → ℕ) (n : ℕ) → ((k : ℕ) → k < n → left (day k) ≡ true) → (k : ℕ) → k < suc n → left (prepend d day k) ≡ true
      before day n all zero l = b.before.0
      before day n all (suc k) l = all k (omega arith)

-- a run with left until right begins so
pub run_begins : (after : ℕ → ℕ → Bool) (left right : ℕ → Bool) (n d : ℕ) (r : Run after d) → right (r.day n) ≡ true → ((k : ℕ) → k < n → left (r.day k) ≡ true) → (rest : List ℕ) × Beginning after left right d rest
run_begins after left right zero d r t all = ([], record { walk = tt; until = subst (λ (e : ℕ). right e ≡ true) r.starts t; before = tt })
run_begins after left right (suc n) d r t all =
    let w = run_begins after left right n (r.day 1) (run_tail after d r) t (λ k h. all (suc k) (omega arith)) in (
      r.day 1 ∷ w.0,
      record {
        walk = (run_leads after d r, w.1.walk);
        until = w.1.until;
        before = (subst (λ (e : ℕ). left e ≡ true) r.starts (all 0 (omega arith)), w.1.before);
      },
    )
