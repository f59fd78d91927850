-- The levels of the two searches for shortest ways, towards a goal and towards what is sure, are rising rows of sets at rest from the count on.
use Rattle.std.proofs.Common.{◌≡◌, ℕ, zero, suc, ◌<◌, ◌≤◌, Bool, true, false, not, ◌&&◌, ◌||◌, ◌⊎◌, Some, None, ap, inl, inr, ⊎_elim}
use Rattle.std.proofs.lemmas.Bool.{cases_Bool, both_ways, or_cases, or_left, or_right, and_parts, and_from, not-true, not_from_false}
use Rattle.model.specs.Numbers.{any, every}
use Rattle.model.specs.Relations.{Inside, Unending}
use Rattle.model.specs.Table.{reaches, rank, sure, wait}
use Rattle.model.proofs.Numbers.{any_from, any_gives, any_same, every_from, every_gives, every_same}
use Rattle.model.proofs.Levels as levels

module _ (n : ℕ) (step : ℕ → ℕ → Bool) (goal : ℕ → Bool) where
  -- one step more
  pub reaches_goal : (k x : ℕ) → goal x ≡ true → reaches n step goal k x ≡ true
  reaches_goal zero x t = t
  reaches_goal (suc k) x t = or_left _ _ t

  pub reaches_step : (k x y : ℕ) → y < n → step x y ≡ true → reaches n step goal k y ≡ true → reaches n step goal (suc k) x ≡ true
  reaches_step k x y h s t = or_right (goal x) _ (any_from n (λ z. step x z && reaches n step goal k z) y h (and_from _ _ s t))

  -- what a level is reached by
  pub reaches_by : (k x : ℕ) → reaches n step goal (suc k) x ≡ true → (goal x ≡ true) ⊎ ((y : ℕ) × (y < n) × (step x y ≡ true) × (reaches n step goal k y ≡ true))
  reaches_by k x t =
      ⊎_elim inl
      (λ s. let w = any_gives n (λ z. step x z && reaches n step goal k z) s in let p = and_parts (step x w.0) (reaches n step goal k w.0) w.2 in inr (w.0, w.1, p.0, p.1))
      (or_cases (goal x) (any n (λ z. step x z && reaches n step goal k z)) t)

  rises : (k x : ℕ) → x < n → reaches n step goal k x ≡ true → reaches n step goal (suc k) x ≡ true
  rises zero x h t = or_left _ _ t
  rises (suc k) x h t =
      ⊎_elim (reaches_goal (suc (suc k)) x) (λ w. reaches_step (suc k) x w.0 w.1 w.2 (rises k w.0 w.1 w.3)) (reaches_by k x t)

  rests : (k : ℕ) → ((x : ℕ) → x < n → reaches n step goal (suc k) x ≡ reaches n step goal k x) → (x : ℕ) → x < n → reaches n step goal (suc (suc k)) x ≡ reaches n step goal (suc k) x
  rests k same x h = ap (λ b. goal x || b) (any_same n _ _ (λ y l. ap (λ b. step x y && b) (same y l)))

  starts : ((x : ℕ) → x < n → reaches n step goal 0 x ≡ false) → (x : ℕ) → x < n → reaches n step goal 1 x ≡ false
  starts none x h =
      ⊎_elim (λ (t : reaches n step goal 1 x ≡ true).
      absurd (⊎_elim (λ g. both_ways (goal x) (none x h) g) (λ w. both_ways (goal w.0) (none w.0 w.1) w.3) (reaches_by 0 x t)))
      (λ f. f) (cases_Bool (reaches n step goal 1 x))

  -- a goal is reached by at most k steps exactly when the rank is found, at or below k
  pub rank_from : (k x : ℕ) → x < n → reaches n step goal k x ≡ true → (r : ℕ) × (rank n step goal x ≡ Some r) × (r ≤ k)
  rank_from = levels.rank_from n (reaches n step goal) rises rests starts

  pub rank_reaches : (k x r : ℕ) → x < n → rank n step goal x ≡ Some r → r ≤ k → reaches n step goal k x ≡ true
  rank_reaches = levels.rank_reaches n (reaches n step goal) rises rests starts

  pub no_rank : (k x : ℕ) → x < n → rank n step goal x ≡ None → reaches n step goal k x ≡ false
  no_rank = levels.no_rank n (reaches n step goal) rises rests starts

module _ (m : ℕ) (after : ℕ → ℕ → Bool) (awaited : ℕ → Bool) where
  pub sure_now : (k d : ℕ) → awaited d ≡ true → sure m after awaited k d ≡ true
  sure_now zero d t = t
  sure_now (suc k) d t = or_left _ _ t

  pub sure_next : (k d : ℕ) → ((e : ℕ) → e < m → after d e ≡ true → sure m after awaited k e ≡ true) → sure m after awaited (suc k) d ≡ true
  sure_next k d all =
      or_right (awaited d) _ (every_from m (λ e. not (after d e) || sure m after awaited k e)
      (λ e h. ⊎_elim (λ (t : after d e ≡ true). or_right (not (after d e)) _ (all e h t)) (λ (f : after d e ≡ false). or_left _ _ (not_from_false (after d e) f)) (cases_Bool (after d e))))

  pub sure_by : (k d : ℕ) → sure m after awaited (suc k) d ≡ true → (awaited d ≡ true) ⊎ ((e : ℕ) → e < m → after d e ≡ true → sure m after awaited k e ≡ true)
  sure_by k d t =
      ⊎_elim inl
      (λ s. inr (λ e h a.
      ⊎_elim (λ (u : not (after d e) ≡ true). absurd (both_ways (after d e) (not-true (after d e) u) a)) (λ u. u)
      (or_cases (not (after d e)) (sure m after awaited k e) (every_gives m (λ e. not (after d e) || sure m after awaited k e) s e h))))
      (or_cases (awaited d) (every m (λ e. not (after d e) || sure m after awaited k e)) t)

  sure_rises : (k d : ℕ) → d < m → sure m after awaited k d ≡ true → sure m after awaited (suc k) d ≡ true
  sure_rises zero d h t = or_left _ _ t
  sure_rises (suc k) d h t =
      ⊎_elim (sure_now (suc (suc k)) d) (λ all. sure_next (suc k) d (λ e l a. sure_rises k e l (all e l a))) (sure_by k d t)

  sure_rests : (k : ℕ) → ((d : ℕ) → d < m → sure m after awaited (suc k) d ≡ sure m after awaited k d) → (d : ℕ) → d < m → sure m after awaited (suc (suc k)) d ≡ sure m after awaited (suc k) d
  sure_rests k same d h = ap (λ b. awaited d || b) (every_same m _ _ (λ e l. ap (λ b. not (after d e) || b) (same e l)))

  module _ (inside : Inside m after) (unending : Unending m after) where
    sure_starts : ((d : ℕ) → d < m → sure m after awaited 0 d ≡ false) → (d : ℕ) → d < m → sure m after awaited 1 d ≡ false
    sure_starts none d h =
        let e = unending d h in
        let l = (inside d e.0 e.1).1 in
        ⊎_elim (λ (t : sure m after awaited 1 d ≡ true).
        absurd (⊎_elim (λ g. both_ways (awaited d) (none d h) g) (λ all. both_ways (awaited e.0) (none e.0 l) (all e.0 l e.1)) (sure_by 0 d t)))
        (λ f. f) (cases_Bool (sure m after awaited 1 d))

    -- k steps make an awaited day sure exactly when the least such number is found, at or below k
    pub wait_from : (k d : ℕ) → d < m → sure m after awaited k d ≡ true → (r : ℕ) × (wait m after awaited d ≡ Some r) × (r ≤ k)
    wait_from = levels.rank_from m (sure m after awaited) sure_rises sure_rests sure_starts

    pub wait_reaches : (k d r : ℕ) → d < m → wait m after awaited d ≡ Some r → r ≤ k → sure m after awaited k d ≡ true
    wait_reaches = levels.rank_reaches m (sure m after awaited) sure_rises sure_rests sure_starts

    pub no_wait : (k d : ℕ) → d < m → wait m after awaited d ≡ None → sure m after awaited k d ≡ false
    no_wait = levels.no_rank m (sure m after awaited) sure_rises sure_rests sure_starts
