use Rattle.engine.specs.Settling.{Passed}
use Rattle.engine.proofs.awaited.pass.Given as goal

-- the days from d on are passed
abbrev pub invariant-loop-d : goal.invariant-loop-d
invariant-loop-d g l = Passed (g.C.Floor.points l.calendar) (g.C.Floor.leads l.calendar) l.d l.initial.waits l.waits l.changed
