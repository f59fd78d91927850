-- The points to which x leads are gone through from the least on.
use Rattle.std.proofs.Common.{◌&&◌, eqb, sym, ◌∙◌, rules}
use Rattle.engine.specs.Exploring.{at}
use Rattle.engine.proofs.Tracing.{find_met, as_steps, stays}
use Rattle.engine.proofs.trace.Descent.next_lower.Goals as goal

pub returns-then-not-may_leave : goal.returns-then-not-may_leave
returns-then-not-may_leave g c =
    let s = c.args.self.now in
    let r = s.rules.now in
    stays (g.F.Floor.points s.floor.now) (g.R.Rules.leave r) (g.R.Rules.enter r) (g.F.Floor.leads s.floor.now) (at s.own.now) c.args.x c.args.wanted (sym c.if-not-may_leave.ensures)

pub returns : goal.returns
returns g c =
    let s = c.args.self.now in
    let r = s.rules.now in
    let n = g.F.Floor.points s.floor.now in
    let leads = g.F.Floor.leads s.floor.now in
    find_met (λ i. g.F.Floor.points i.floor.now) (λ i. g.F.Floor.leads i.floor.now i.point) (λ i. i.from) c.find.new.self n (leads c.args.x) (λ y. g.R.Rules.enter r y && eqb (at s.own.now y) c.args.wanted)
    (search rules) (search rules) (search rules) c.find.ensures.ran (λ y q h. search rules) (λ y q h. search rules)
    ∙ as_steps n (g.R.Rules.leave r) (g.R.Rules.enter r) leads (at s.own.now) c.args.x c.args.wanted (sym c.if-not-may_leave.ensures)
