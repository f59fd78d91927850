use Rattle.std.proofs.Common.{◌-◌, [], unwrap_or}
use Rattle.model.specs.Showing.{trace, written_on}
use Rattle.engine.specs.Exploring.{step_by, at}
use Rattle.engine.proofs.Tracing.{ToCome}
use Rattle.engine.proofs.trace.Descent.write.Given as goal

-- the first i points are written, and the rest of the trace, from x, is still to come
abbrev pub invariant-loop-i : goal.invariant-loop-i
invariant-loop-i g l =
    let n = g.F.Floor.points l.self.floor.now in
    let step = step_by (g.R.Rules.leave l.self.rules.now) (g.F.Floor.leads l.self.floor.now) (g.R.Rules.enter l.self.rules.now) in
    let goal = g.R.Rules.goal l.self.rules.now in
    ToCome n step goal (at l.self.own.now) l.self.answer (l.steps - l.i) l.x l.i (written_on (unwrap_or (trace n step goal (at l.self.own.now) l.self.answer l.steps l.start) []) l.initial.strip) l.strip
