-- The next days are gone through from the least on.
use Rattle.std.proofs.Common.{not, rules}
use Rattle.model.specs.Table.{says_yes}
use Rattle.engine.specs.Exploring.{at}
use Rattle.engine.proofs.Tracing.{find_met}
use Rattle.engine.proofs.circle.next_no.Goals as goal

pub returns : goal.returns
returns g c =
    let f = c.args.calendar.now in
    find_met (λ i. g.C.Floor.points i.floor.now) (λ i. g.C.Floor.leads i.floor.now i.point) (λ i. i.from) c.find.new.self (g.C.Floor.points f) (g.C.Floor.leads f c.args.d) (λ e. not (says_yes (at c.args.own.now e)))
    (search rules) (search rules) (search rules) c.find.ensures.ran (λ e q h. search rules) (λ e q h. search rules)
