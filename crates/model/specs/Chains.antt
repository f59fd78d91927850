-- The chain calendar: each day leads to the next, the last to itself.
use Rattle.std.specs.Prelude.{ℕ, ◌+◌, Bool, ◌&&◌, ◌||◌, ◌==◌, nat_lt}

-- day d of a chain of n days leads to day e
abbrev pub chained : ℕ → ℕ → ℕ → Bool
chained n d e = nat_lt d n && (nat_lt e n && (e == d + 1 || (d + 1 == n && e == d)))
