-- Line by line, each from those below it.
use Rattle.std.proofs.Common.{◌≡◌, ◌*◌, ◌<◌, take, sym, ◌∙◌, inr, add-mul, one-mul, arith}
use Rattle.std.proofs.lemmas.List.{get_or-take, length-take-le}
use Rattle.model.specs.Lines.{line_at}
use Rattle.model.proofs.OperandsRead.{read_so, operands_below}
use Rattle.model.proofs.Unfolding.{Placed}
use Rattle.engine.proofs.LinesFilled.{line_more}
use Rattle.engine.proofs.filling.Store.fill_lines.Goals as goal

pub loop-i-preserved : goal.loop-i-preserved
loop-i-preserved g c =
    let n = g.F.Floor.points c.args.self.now.floor.now in
    let m = g.C.Floor.points c.args.self.now.calendar.now in
    let i = c.loop-i.i in
    let lines = c.args.lines.now in
    let h : i < c.args.count = omega (arith, length-take-le c.args.count lines (omega arith)) in
    let line = line_at lines i in
    let same : line_at (take c.args.count lines) i ≡ line = get_or-take c.args.count lines i _ h in
    let row = c.in-Some.row in
    let named = sym (rw same at c.in-Some.ensures) in
    let operands = read_so i line line.kind (c.requires.lawful i h) row named in
    let p : Placed lines i = record { row = row; named = named; below = operands_below row.kind i line.left line.right operands } in (
      line_more n m (g.F.Floor.leads c.args.self.now.floor.now) (g.C.Floor.leads c.args.self.now.calendar.now) c.args.self.now.readings.now lines i p c.loop-i.findings c.fill_kind.new.findings c.loop-i.invariant.0 (rw same at c.fill_kind.ensures),
      (λ k h. c.fill_kind.ensures.others k (inr (omega (arith, add-mul i 1 (m * n), one-mul (m * n)))) ∙ c.loop-i.invariant.1 k (omega (arith, add-mul i 1 (m * n), one-mul (m * n)))),
    )
