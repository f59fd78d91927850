-- What a floor and a calendar mean: a relation among the numbers below a count.
use Rattle.std.specs.Prelude.{◌≡◌, ℕ, ◌+◌, ◌<◌, Bool, true, false, Option, MatchBool, MatchOption, nat_lt}
use Rattle.model.specs.Numbers.{Least}

-- only points lead anywhere, and only to points
abbrev pub Inside : ℕ → (ℕ → ℕ → Bool) → Type 0
Inside n leads = (p q : ℕ) → leads p q ≡ true → (p < n) × (q < n)

-- the relation read backwards: p comes after q
abbrev pub turned : (ℕ → ℕ → Bool) → ℕ → ℕ → Bool
turned leads p q = leads q p

-- every day leads to some day
abbrev pub Unending : ℕ → (ℕ → ℕ → Bool) → Type 0
Unending n leads = (d : ℕ) → d < n → (e : ℕ) × (leads d e ≡ true)

-- the answer is the least day to which day d leads; the count where d is no day
abbrev pub Morrow : ℕ → (ℕ → ℕ → Bool) → ℕ → ℕ → Type 0
Morrow n leads d e =
    MatchBool (nat_lt d n) ((e < n) × (leads d e ≡ true) × ((k : ℕ) → k < e → leads d k ≡ false)) (e ≡ n)

-- one step of going through the points that pass a test: from s the answer is the least that is left, or none, and t stands behind it. The
-- count of points and the test stay what they were.
abbrev pub MovesOn : {S : Type 0} → (S → ℕ) → (S → ℕ → Bool) → (S → ℕ) → S → Option ℕ → S → Type 0
MovesOn points test from s r t =
    (points t ≡ points s) × (test t ≡ test s) × Least (test s) (from s) (points s) r × MatchOption r (from t ≡ from s) (λ q. from t ≡ q + 1)
