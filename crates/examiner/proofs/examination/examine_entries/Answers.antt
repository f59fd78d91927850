-- The counts of the floor and of the calendar are those of the survey.
use Rattle.std.proofs.Common.{length}
use Rattle.model.proofs.Refusals.{in_order}
use Rattle.examiner.proofs.Verdicts.{accepted, false_at}
use Rattle.examiner.proofs.examination.examine_entries.Goals as goal

pub returns-in-Some : goal.returns-in-Some
returns-in-Some g c =
    let k = c.args.numbers in
    let n = g.F.Floor.points c.args.floor.now in
    let m = g.C.Floor.points c.args.calendar.now in
    let o = in_order k.points k.days k.lines n m (length c.args.readings.now) c.args.lines.now (length c.args.findings.now) c.requires in
    false_at k.points k.days n m k.lines (g.F.Floor.leads c.args.floor.now) (g.C.Floor.leads c.args.calendar.now) c.args.readings.now c.args.lines.now c.args.findings.now o.floor o.calendar c.in-Some.place c.in-Some.ensures

pub returns-in-None : goal.returns-in-None
returns-in-None g c =
    let k = c.args.numbers in
    let n = g.F.Floor.points c.args.floor.now in
    let m = g.C.Floor.points c.args.calendar.now in
    let o = in_order k.points k.days k.lines n m (length c.args.readings.now) c.args.lines.now (length c.args.findings.now) c.requires in
    accepted k.points k.days n m k.lines (g.F.Floor.leads c.args.floor.now) (g.C.Floor.leads c.args.calendar.now) c.args.readings.now c.args.lines.now c.args.findings.now o.floor o.calendar c.in-None.ensures
