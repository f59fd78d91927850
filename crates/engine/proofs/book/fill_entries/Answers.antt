-- Where everything is in order all lines are filled in, and the table's words say where each formula is satisfied.
use Rattle.std.proofs.Common.{length}
use Rattle.model.specs.Books.{model_of}
use Rattle.model.proofs.Refusals.{in_order}
use Rattle.model.proofs.Satisfied.{holds_means}
use Rattle.engine.proofs.book.fill_entries.Goals as goal

pub fill_lines-requires-clause-lawful : goal.fill_lines-requires-clause-lawful
fill_lines-requires-clause-lawful g c =
    let k = c.args.numbers in
    (in_order k.points k.days k.lines (g.F.Floor.points c.args.floor.now) (g.C.Floor.points c.args.calendar.now) (length c.args.readings.now) c.args.lines.now (length c.args.findings.now) c.requires).lawful

pub returns : goal.returns
returns g c =
    let n = g.F.Floor.points c.args.floor.now in
    let m = g.C.Floor.points c.args.calendar.now in
    let k = c.args.numbers in
    let o = in_order k.points k.days k.lines n m (length c.args.readings.now) c.args.lines.now (length c.args.findings.now) c.requires in
    let M = model_of n (g.F.Floor.leads c.args.floor.now) m (g.C.Floor.leads c.args.calendar.now) c.args.readings.now in
    record {
      holds = c.fill_lines.ensures.holds;
      means = holds_means M c.args.lines.now k.lines (record { floor = g.met.F.Floor.inside c.args.floor.now; calendar = g.met.C.Floor.inside c.args.calendar.now; unending = g.met.C.Calendar.unending c.args.calendar.now }) o.lawful c.fill_lines.new.findings c.fill_lines.ensures.holds;
      surplus = c.fill_lines.ensures.surplus;
    }
