-- Ways through points and runs through days: ways out, regions, beginnings of runs, and runs that circle.
use Rattle.std.specs.Prelude.{◌≡◌, ℕ, zero, suc, ◌+◌, ◌<◌, ◌≤◌, Bool, true, false, cond, not, ◌&&◌, List, [], ◌∷◌, length, ◌==◌, slice_index, slice_index_or}
use Rattle.std.specs.Option.{unwrap_or}
use Rattle.model.specs.Logic.{Run}
use Rattle.model.specs.Numbers.{least}

-- A way is its first point and the list of the points after it: its steps are the length of that list.

-- each point of the way leads to the next
abbrev pub Walk : (ℕ → ℕ → Bool) → ℕ → List ℕ → Type 0
Walk leads x [] = Unit {0}
Walk leads x (y ∷ ys) = (leads x y ≡ true) × Walk leads y ys

-- the last point of the way
abbrev pub last_of : ℕ → List ℕ → ℕ
last_of x [] = x
last_of x (y ∷ ys) = last_of y ys

-- every point after the first passes
abbrev pub AfterFirst : (ℕ → Type 0) → List ℕ → Type 0
AfterFirst P [] = Unit {0}
AfterFirst P (y ∷ ys) = P y × AfterFirst P ys

-- every point before the last passes
abbrev pub BeforeLast : (ℕ → Type 0) → ℕ → List ℕ → Type 0
BeforeLast P x [] = Unit {0}
BeforeLast P x (y ∷ ys) = P x × BeforeLast P y ys

-- a way out from x: its last point has left no, and every point after x has right no
pub record WayOut (leads : ℕ → ℕ → Bool) (left right : ℕ → Bool) (x : ℕ) (rest : List ℕ) : Type 0 where
  pub walk : Walk leads x rest
  pub outside : left (last_of x rest) ≡ false
  pub unbarred : AfterFirst (λ y. right y ≡ false) rest

-- a region: a set of points with left yes throughout, and right yes on each point outside it to which one inside leads
pub record Region (n : ℕ) (leads : ℕ → ℕ → Bool) (left right : ℕ → Bool) (A : ℕ → Bool) : Type 0 where
  pub points : (y : ℕ) → A y ≡ true → y < n
  pub throughout : (y : ℕ) → A y ≡ true → left y ≡ true
  pub border : (y z : ℕ) → A y ≡ true → leads y z ≡ true → A z ≡ false → right z ≡ true

-- the beginning of a run from day d: left yes on each day before its last, right yes on its last
pub record Beginning (after : ℕ → ℕ → Bool) (left right : ℕ → Bool) (d : ℕ) (rest : List ℕ) : Type 0 where
  pub walk : Walk after d rest
  pub until : right (last_of d rest) ≡ true
  pub before : BeforeLast (λ e. left e ≡ true) d rest

-- the sequence of days meets an awaited day within k steps; it meets its first day in 0 steps
abbrev pub Meets : (ℕ → Bool) → (ℕ → ℕ) → ℕ → Type 0
Meets awaited day k = (i : ℕ) × (i ≤ k) × (awaited (day i) ≡ true)

-- k steps are enough on every run from day d to meet an awaited day
abbrev pub Enough : (ℕ → ℕ → Bool) → (ℕ → Bool) → ℕ → ℕ → Type 0
Enough after awaited d k = (r : Run after d) → Meets awaited r.day k

-- the least next day answered no
abbrev pub no_day : ℕ → (ℕ → ℕ → Bool) → (ℕ → Bool) → ℕ → ℕ
no_day m after answer d = unwrap_or (least m (λ e. after d e && not (answer e))) 0

-- going from each day to the least next day answered no
abbrev pub no_days : ℕ → (ℕ → ℕ → Bool) → (ℕ → Bool) → ℕ → ℕ → ℕ
no_days m after answer d zero = d
no_days m after answer d (suc i) = no_day m after answer (no_days m after answer d i)

-- the days so gone through are a run without an awaited day, which comes to a repeated day and so circles for ever
pub record Circling (m : ℕ) (after : ℕ → ℕ → Bool) (awaited answer : ℕ → Bool) (d : ℕ) : Type 0 where
  pub goes : (i : ℕ) → after (no_days m after answer d i) (no_days m after answer d (suc i)) ≡ true
  pub never : (i : ℕ) → awaited (no_days m after answer d i) ≡ false
  pub repeats : (i : ℕ) × (j : ℕ) × (i < j) × (j ≤ m) × (no_days m after answer d i ≡ no_days m after answer d j)
      × ((k : ℕ) → no_days m after answer d (i + k) ≡ no_days m after answer d (j + k))

-- going round: the place after k steps from place 0 through the places below `last`, and from the last of them back to `back`
abbrev pub around : ℕ → ℕ → ℕ → ℕ
around back last zero = 0
around back last (suc k) = cond (suc (around back last k) == last) back (suc (around back last k))

-- days that start with d and end with a repeated one; the run that goes through them and so circles for ever has no awaited day
pub record Circles (after : ℕ → ℕ → Bool) (awaited : ℕ → Bool) (d : ℕ) (days : List ℕ) : Type 0 where
  pub last : ℕ
  pub ends : length days ≡ suc last
  pub starts : slice_index_or days 0 0 ≡ d
  pub back : ℕ
  pub earlier : back < last
  pub repeated : slice_index_or days back 0 ≡ slice_index days last
  pub run : Run after d
  pub circling : (k : ℕ) → run.day k ≡ slice_index days (around back last k)
  pub never : (k : ℕ) → awaited (run.day k) ≡ false
