-- There are at most one day more than the calendar has.
use Rattle.std.proofs.Common.{suc, [], take, sym, arith}
use Rattle.model.specs.Table.{says_yes}
use Rattle.engine.specs.Exploring.{at}
use Rattle.engine.specs.Strips.{next_no}
use Rattle.engine.proofs.Circling.{circle_fits}
use Rattle.engine.proofs.circle.show_circle.Goals as goal

pub write_front-requires : goal.write_front-requires
write_front-requires g c =
    let m = g.C.Floor.points c.args.calendar.now in
    let round = c.in_ok-round.round in
    let fits = circle_fits (next_no m (g.C.Floor.leads c.args.calendar.now) (at c.args.own.now)) (λ e. says_yes (at c.args.left.now e)) (suc m) [] c.args.start (take round.count round.days) (sym c.in_ok-round.ensures) in
    omega arith
