use Rattle.std.proofs.Common.{◌≡◌, ℕ}
use Rattle.engine.specs.Settling.{awaited_in, Sound, open_count}
use Rattle.engine.proofs.awaited.settle.Given as goal

-- the numbers are sound, for the same awaited days
abbrev pub invariant-loop : goal.invariant-loop
invariant-loop g l =
    Sound (g.C.Floor.points l.calendar) (g.C.Floor.leads l.calendar) (awaited_in l.initial.waits) l.waits
    × ((e : ℕ) → awaited_in l.waits e ≡ awaited_in l.initial.waits e)

-- the days that are not settled
abbrev pub decreases-loop : goal.decreases-loop
decreases-loop g l = open_count (g.C.Floor.points l.calendar) l.waits
