use Rattle.std.proofs.Common.{take}
use Rattle.journal.specs.Worlds.{world_of, Life}
use Rattle.journal.proofs.replaying.perform.Given as goal

-- the first i events made the world as it is
abbrev pub invariant-loop-i : goal.invariant-loop-i
invariant-loop-i g l =
    Life (g.F.Floor.points l.floor) (g.F.Floor.leads l.floor) (g.C.Floor.points l.calendar) (g.C.Floor.leads l.calendar)
    (world_of l.initial.survey l.initial.readings l.initial.lines l.initial.findings l.initial.strip) (take l.i l.events)
    (world_of l.survey l.readings l.lines l.findings l.strip)
