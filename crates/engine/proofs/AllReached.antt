-- Where all points that can be reached are, an exploration is at its end.
use Rattle.std.proofs.Common.{◌≡◌, ℕ, zero, suc, ◌+◌, ◌<◌, ◌≤◌, Bool, true, false, cond, not, ◌||◌, eqb, refl, ⊎_elim, arith}
use Rattle.std.proofs.lemmas.Bool.{cases_lt, both_ways, eq-eqb, or_left, or_right, not_from_true}
use Rattle.model.specs.Numbers.{tally}
use Rattle.model.specs.Table.{reaches}
use Rattle.model.proofs.Levels.{tally_more}
use Rattle.model.proofs.Numbers.{tally_splits}
use Rattle.model.proofs.Ranks.{reaches_by}
use Rattle.engine.specs.Exploring.{Explored}
use Rattle.engine.proofs.Exploring.{tally_all}

-- just one of a test and its opposite passes
one_of : (b : Bool) → 1 ≡ cond (not b) 1 0 + cond b 1 0
one_of true = refl
one_of false = refl

module _ (n : ℕ) (step : ℕ → ℕ → Bool) (leave goal : ℕ → Bool) (left_first : (x y : ℕ) → step x y ≡ true → leave x ≡ true)
    (head tail : ℕ) (D Q : ℕ → ℕ) (state : Explored n step goal n D Q head tail) where
  -- a point from which a goal is reached is a goal or may be left
  able : (k x : ℕ) → reaches n step goal k x ≡ true → (leave x || goal x) ≡ true
  able zero x t = or_right (leave x) (goal x) t
  able (suc k) x t =
      ⊎_elim (λ (g : goal x ≡ true). or_right (leave x) (goal x) g) (λ w. or_left (leave x) (goal x) (left_first x w.0 w.2)) (reaches_by n step goal k x t)

  -- as many points are reached as the queue has
  reached_count : tally n (λ x. not (eqb (D x) n)) ≡ tail
  reached_count =
      let all = tally_all n (λ _. true) (λ k h. refl) in
      let parts = tally_splits n (λ x. not (eqb (D x) n)) (λ x. eqb (D x) n) (λ _. true) (λ k. one_of (eqb (D k) n)) in
      omega (arith, state.room)

  reached_below : (k : ℕ) → k < n → not (eqb (D k) n) ≡ true → D k < n
  reached_below k h r =
      ⊎_elim (λ (l : D k < n). l)
      (λ (l : n ≤ D k).
      let e : D k ≡ n = omega (arith, state.limit k h) in
      absurd (both_ways (not (eqb (D k) n)) (not_from_true (eqb (D k) n) (eq-eqb (D k) n e)) r))
      (cases_lt (D k) n)

  module _ (most : tally n (λ x. leave x || goal x) ≤ tail) where
    none_left : (x : ℕ) → x < n → (leave x || goal x) ≡ true → D x < n
    none_left x h t =
        ⊎_elim (λ (l : D x < n). l)
        (λ (l : n ≤ D x).
        let e : D x ≡ n = omega (arith, state.limit x h) in
        let more = tally_more n (λ k. not (eqb (D k) n)) (λ k. leave k || goal k)
        (λ k b r. able (D k) k (state.sound k b (reached_below k b r)))
        x h (not_from_true (eqb (D x) n) (eq-eqb (D x) n e)) t in
        absurd (omega (arith, reached_count)))
        (cases_lt (D x) n)

    -- what is left of the queue brings in nothing
    pub all_reached : Explored n step goal n D Q tail tail
    all_reached = record {
      order = omega arith;
      room = state.room;
      limit = state.limit;
      place = state.place;
      reached = state.reached;
      early = state.early;
      rising = state.rising;
      near = λ x h l q. absurd (omega arith);
      goals = state.goals;
      sound = state.sound;
      closed = λ i x h l s.
          ⊎_elim (λ (b : i < head). state.closed i x b l s)
          (λ (b : head ≤ i).
          let r = none_left x l (or_left (leave x) (goal x) (left_first x (Q i) s)) in
          (r, omega (arith, state.near x l r (omega arith), state.rising head i b h)))
          (cases_lt i head);
    }
