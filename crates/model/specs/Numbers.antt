-- Numbers below a count: whether some or every number passes a test, how many do, and the least or greatest.
use Rattle.std.specs.Prelude.{◌≡◌, ℕ, zero, suc, ◌+◌, ◌<◌, ◌≤◌, min, max, Bool, true, false, cond, ◌&&◌, ◌||◌, Some, None, Option, nat_le}

-- some number below n passes the test
abbrev pub any : ℕ → (ℕ → Bool) → Bool
any zero test = false
any (suc n) test = any n test || test n

-- every number below n passes the test
abbrev pub every : ℕ → (ℕ → Bool) → Bool
every zero test = true
every (suc n) test = every n test && test n

-- some number from `from` on and below `end` passes the test
abbrev pub within : ℕ → ℕ → (ℕ → Bool) → Bool
within from end test = any end (λ k. nat_le from k && test k)

-- how many numbers below n pass the test
abbrev pub tally : ℕ → (ℕ → Bool) → ℕ
tally zero test = 0
tally (suc n) test = tally n test + cond (test n) 1 0

-- the first, or else the second
abbrev pub or_later : Option ℕ → Option ℕ → Option ℕ
or_later None later = later
or_later (Some k) later = Some k

-- the least number below n that passes the test
abbrev pub least : ℕ → (ℕ → Bool) → Option ℕ
least zero test = None
least (suc n) test = or_later (least n test) (cond (test n) (Some n) None)

-- the lower of two values, as far as there are any
abbrev pub lower_of : Option ℕ → Option ℕ → Option ℕ
lower_of None b = b
lower_of (Some a) None = Some a
lower_of (Some a) (Some b) = Some (min a b)

-- the lowest value among the numbers below n that pass the test
abbrev pub lowest : ℕ → (ℕ → Bool) → (ℕ → ℕ) → Option ℕ
lowest zero test value = None
lowest (suc n) test value = lower_of (lowest n test value) (cond (test n) (Some (value n)) None)

-- the highest value among the numbers below n that pass the test; 0 where none does
abbrev pub highest : ℕ → (ℕ → Bool) → (ℕ → ℕ) → ℕ
highest zero test value = 0
highest (suc n) test value = max (highest n test value) (cond (test n) (value n) 0)

-- the answer is the least number from `from` on and below `end` that passes the test, or none where none does
abbrev pub Least : (ℕ → Bool) → ℕ → ℕ → Option ℕ → Type 0
Least test from end None = (k : ℕ) → from ≤ k → k < end → test k ≡ false
Least test from end (Some y) =
    (from ≤ y) × (y < end) × (test y ≡ true) × ((k : ℕ) → from ≤ k → k < y → test k ≡ false)
