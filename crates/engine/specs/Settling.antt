-- The settling of waits: a list with a number for each day, the count of days standing for a day that is not settled.
use Rattle.std.specs.Prelude.{◌≡◌, ℕ, ◌+◌, ◌<◌, ◌≤◌, Bool, true, cond, ◌&&◌, ◌⊎◌, List, Some, None, MatchBool, Option, ◌==◌, nat_le, slice_index}
use Rattle.std.specs.Option.{unwrap_or}
use Rattle.model.specs.Numbers.{any, tally, highest}
use Rattle.model.specs.Table.{wait}

-- the days with 0 are awaited
abbrev pub awaited_in : List ℕ → ℕ → Bool
awaited_in waits e = slice_index waits e == 0

-- the day is not settled
abbrev pub open_in : ℕ → List ℕ → ℕ → Bool
open_in n waits e = nat_le n (slice_index waits e)

-- every day has 0 or the count
abbrev pub Marked : ℕ → List ℕ → Type 0
Marked n waits = (d : ℕ) → d < n → (slice_index waits d ≡ 0) ⊎ (slice_index waits d ≡ n)

-- every day has the count or the least number of steps that is enough
abbrev pub Sound : ℕ → (ℕ → ℕ → Bool) → (ℕ → Bool) → List ℕ → Type 0
Sound n after awaited waits = (d : ℕ) → d < n → (slice_index waits d ≡ n) ⊎ (wait n after awaited d ≡ Some (slice_index waits d))

-- every day has the least number of steps that is enough, and the count where no number is
abbrev pub Settled : ℕ → (ℕ → ℕ → Bool) → (ℕ → Bool) → List ℕ → Type 0
Settled n after awaited waits = (d : ℕ) → d < n → slice_index waits d ≡ unwrap_or (wait n after awaited d) n

-- one more than the highest number among the days after d, where all are settled
abbrev pub next_wait : ℕ → (ℕ → ℕ → Bool) → List ℕ → ℕ → Option ℕ
next_wait n after waits d =
    cond (any n (λ e. after d e && open_in n waits e)) None (Some (1 + highest n (λ e. after d e) (λ e. slice_index waits e)))

-- how many days are not settled
abbrev pub open_count : ℕ → List ℕ → ℕ
open_count n waits = tally n (λ e. open_in n waits e)

-- nothing is changed, and no day from d on can be settled
abbrev pub AtRest : ℕ → (ℕ → ℕ → Bool) → ℕ → List ℕ → List ℕ → Type 0
AtRest n after d before waits =
    (waits ≡ before) × ((e : ℕ) → d ≤ e → e < n → open_in n before e ≡ true → next_wait n after before e ≡ None)

-- what a pass from the last day down to d makes of the numbers
pub record Passed (n : ℕ) (after : ℕ → ℕ → Bool) (d : ℕ) (before waits : List ℕ) (changed : Bool) : Type 0 where
  pub sound : Sound n after (awaited_in before) waits
  -- the same days are awaited
  pub same : (e : ℕ) → awaited_in waits e ≡ awaited_in before e
  -- fewer days are left, or nothing is changed
  pub went : MatchBool changed (open_count n waits < open_count n before) (AtRest n after d before waits)
