-- Masks: numbers whose bits stand for days, one mask for each day of a calendar.
use Rattle.std.specs.Prelude.{ℕ, ◌/◌, ◌%◌, ◌^◌, Bool, List, ◌==◌, slice_index}

-- bit k of the mask is set
abbrev pub bit : ℕ → ℕ → Bool
bit mask k = mask / 2 ^ k % 2 == 1

-- day e stands in the mask of day d
abbrev pub masked : List ℕ → ℕ → ℕ → Bool
masked masks d e = bit (slice_index masks d) e
