use Rattle.std.proofs.Common.{◌≡◌, is_some}
use Rattle.model.specs.Showing.{trace}
use Rattle.engine.specs.Exploring.{step_by, at}
use Rattle.engine.proofs.trace.Descent.holds.Given as goal

-- the trace holds if the rest of it, by k steps from x, does
abbrev pub invariant-loop-k : goal.invariant-loop-k
invariant-loop-k g l =
    let n = g.F.Floor.points l.self.floor.now in
    let step = step_by (g.R.Rules.leave l.self.rules.now) (g.F.Floor.leads l.self.floor.now) (g.R.Rules.enter l.self.rules.now) in
    let goal = g.R.Rules.goal l.self.rules.now in
    is_some (trace n step goal (at l.self.own.now) l.self.answer l.steps l.start) ≡ is_some (trace n step goal (at l.self.own.now) l.self.answer l.k l.x)
