-- What is written is shown; where nothing is, the words fail.
use Rattle.std.proofs.Common.{◌≡◌, sym, rules}
use Rattle.std.specs.Option.{ok_or}
use Rattle.model.specs.declared.refusal.Refusal.TheVariants.{FalseEntry}
use Rattle.engine.proofs.ShowRefusals.{shown_by}
use Rattle.engine.proofs.showing.Asked.show.Goals as goal

pub returns : goal.returns
returns g c =
    let s = c.args.self.now in
    let k = s.numbers in
    let f = s.floor.now in
    let h = s.calendar.now in
    let is : c.ok_or.result ≡ ok_or c.write.result FalseEntry = search rules in
    rw is (shown_by k.points k.days k.lines (g.F.Floor.points f) (g.F.Floor.leads f) (g.C.Floor.points h) (g.C.Floor.leads h) s.lines.now s.findings.now s.at.line s.at.day s.at.point c.args.strip.now (sym c.in_ok-check.ensures) c.write.new.strip c.write.result c.write.ensures)
