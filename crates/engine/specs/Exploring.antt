-- Shortest ways: the steps that are allowed, and how far an exploration backwards from the goals has come.
use Rattle.std.specs.Prelude.{◌≡◌, ℕ, ◌+◌, ◌<◌, ◌≤◌, Bool, true, ◌&&◌, List, ◌≢◌, nat_eq, slice_index}
use Rattle.model.specs.Numbers.{tally}
use Rattle.model.specs.Table.{reaches}

-- a step from x to y is allowed: x may be left, x leads to y, and y may be entered
abbrev pub step_by : (ℕ → Bool) → (ℕ → ℕ → Bool) → (ℕ → Bool) → ℕ → ℕ → Bool
step_by leave leads enter x y = leave x && (leads x y && enter y)

-- what stands at place i
abbrev pub at : List ℕ → ℕ → ℕ
at xs i = slice_index xs i

-- from place n on the second list is as the first
abbrev pub SameFrom : ℕ → List ℕ → List ℕ → Type 0
SameFrom n xs ys = (k : ℕ) → n ≤ k → slice_index ys k ≡ slice_index xs k

-- place i holds v, and every other place what it held
abbrev pub PutAt : ℕ → ℕ → List ℕ → List ℕ → Type 0
PutAt i v xs ys = (slice_index ys i ≡ v) × ((k : ℕ) → k ≢ i → slice_index ys k ≡ slice_index xs k)

-- How far an exploration of n points has come. A point is reached where its steps are fewer than n; the queue holds the reached points in the
-- order in which they were reached, and those before the head have brought in all from which a step leads to them. Only private functions
-- cite this.
pub record Explored (n : ℕ) (step : ℕ → ℕ → Bool) (goal : ℕ → Bool) (known : ℕ) (steps queue : ℕ → ℕ) (head tail : ℕ) : Type 0 where
  -- the queue's end is not before its head
  pub order : head ≤ tail
  -- the queue is as long as there are points reached
  pub room : tail + tally n (λ x. nat_eq (steps x) n) ≡ n
  -- the steps of a point not reached are n
  pub limit : (x : ℕ) → x < n → steps x ≤ n
  -- every reached point is in the queue
  pub place : (x : ℕ) → x < n → steps x < n → (i : ℕ) × (i < tail) × (queue i ≡ x)
  -- the queue holds reached points
  pub reached : (i : ℕ) → i < tail → (queue i < n) × (steps (queue i) < n)
  -- no point has more steps than its place in the queue
  pub early : (i : ℕ) → i < tail → steps (queue i) ≤ i
  -- along the queue the steps do not fall
  pub rising : (i j : ℕ) → i ≤ j → j < tail → steps (queue i) ≤ steps (queue j)
  -- no reached point is more than one step further than the head
  pub near : (x : ℕ) → x < n → steps x < n → head < tail → steps x ≤ steps (queue head) + 1
  -- the goals among the first points are reached by 0 steps
  pub goals : (x : ℕ) → x < known → goal x ≡ true → steps x ≡ 0
  -- by so many steps a goal is reached
  pub sound : (x : ℕ) → x < n → steps x < n → reaches n step goal (steps x) x ≡ true
  -- a point from which a step leads to one before the head is reached, one step further at most
  pub closed : (i x : ℕ) → i < head → x < n → step x (queue i) ≡ true → (steps x < n) × (steps x ≤ steps (queue i) + 1)
