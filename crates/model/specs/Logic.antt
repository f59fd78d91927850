-- The logic: formulas of space and time, and what it means that one is satisfied at a point on a day.
use Rattle.std.specs.Prelude.{◌≡◌, ℕ, suc, ◌<◌, Bool, true, ◌⊎◌}
use Rattle.model.specs.Relations.{Inside, Unending}

-- formulas
pub data Formula : Type 0 where
  -- true everywhere and always
  truth : Formula
  -- the reading of an atom
  atom : ℕ → Formula
  neg : Formula → Formula
  disj : Formula → Formula → Formula
  -- here or at a point that leads here
  near : Formula → Formula
  -- within a region of the first, bordered by the second
  surrounded : Formula → Formula → Formula
  -- on some run, the next day
  next : Formula → Formula
  -- on some run, the first until the second
  until : Formula → Formula → Formula
  -- on every run, some day
  awaited : Formula → Formula

-- a model: a floor's points and relation, a calendar's days and relation, and a reading for each day, point and atom
pub record Model : Type 0 where
  pub points : ℕ
  pub leads : ℕ → ℕ → Bool
  pub days : ℕ
  pub after : ℕ → ℕ → Bool
  pub reading : ℕ → ℕ → ℕ → Bool

-- the relations of a model lie among its points and days, and every day leads to some day
pub record LawfulModel (M : Model) : Type 0 where
  pub floor : Inside M.points M.leads
  pub calendar : Inside M.days M.after
  pub unending : Unending M.days M.after

-- the closure of a set of points: the set, and every point to which one of its points leads
abbrev pub Closure : (ℕ → ℕ → Bool) → (ℕ → Type 0) → ℕ → Type 0
Closure leads set x = set x ⊎ ((y : ℕ) × set y × (leads y x ≡ true))

-- its boundary: the closure less the set
abbrev pub Boundary : (ℕ → ℕ → Bool) → (ℕ → Type 0) → ℕ → Type 0
Boundary leads set x = Closure leads set x × (set x → ⊥)

-- a run from day d: an unending sequence of days that starts with d, each leading to the next
pub record Run (after : ℕ → ℕ → Bool) (d : ℕ) : Type 0 where
  pub day : ℕ → ℕ
  pub starts : day 0 ≡ d
  pub goes : (i : ℕ) → after (day i) (day (suc i)) ≡ true

-- along a sequence of days, the second holds on some day, and the first on each day before
abbrev pub UntilAlong : (ℕ → Type 0) → (ℕ → Type 0) → (ℕ → ℕ) → Type 0
UntilAlong first second day = (n : ℕ) × second (day n) × ((k : ℕ) → k < n → first (day k))

-- the formula is satisfied in the model at point x on day d
abbrev pub Sat : Model → Formula → ℕ → ℕ → Type 0
Sat M truth x d = Unit {0}
Sat M (atom a) x d = M.reading d x a ≡ true
Sat M (neg f) x d = Sat M f x d → ⊥
Sat M (disj f g) x d = Sat M f x d ⊎ Sat M g x d
Sat M (near f) x d = Closure M.leads (λ y. Sat M f y d) x
Sat M (surrounded f g) x d =
    (A : ℕ → Bool) × ((y : ℕ) → A y ≡ true → y < M.points) × (A x ≡ true)
    × ((y : ℕ) → A y ≡ true → Sat M f y d)
    × ((z : ℕ) → Boundary M.leads (λ y. A y ≡ true) z → Sat M g z d)
Sat M (next f) x d = (r : Run M.after d) × Sat M f x (r.day 1)
Sat M (until f g) x d = (r : Run M.after d) × UntilAlong (λ e. Sat M f x e) (λ e. Sat M g x e) r.day
Sat M (awaited f) x d = (r : Run M.after d) → UntilAlong (λ e. Unit {0}) (λ e. Sat M f x e) r.day
