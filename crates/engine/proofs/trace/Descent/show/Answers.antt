-- A trace that holds has one point more than steps.
use Rattle.std.proofs.Common.{sym}
use Rattle.model.specs.Table.{number}
use Rattle.engine.specs.Exploring.{step_by, at}
use Rattle.engine.proofs.Tracing.{trace_counts}
use Rattle.engine.proofs.trace.Descent.show.Goals as goal

pub returns : goal.returns
returns g c =
    let f = c.args.self.now.floor.now in
    let r = c.args.self.now.rules.now in
    let step = step_by (g.R.Rules.leave r) (g.F.Floor.leads f) (g.R.Rules.enter r) in
    let own = c.args.self.now.own.now in
    record {
      count = sym (trace_counts (g.F.Floor.points f) step (g.R.Rules.goal r) (at own) c.args.self.now.answer (number (at own c.args.start)) c.args.start (sym c.if-not-holds.ensures));
      strip = c.write.ensures;
    }
