-- One day more.
use Rattle.std.proofs.Common.{◌≡◌, length, arith}
use Rattle.model.specs.Table.{Plane}
use Rattle.engine.specs.Filling.{next_word, yes_at}
use Rattle.engine.proofs.Filled.{day_fits, row_more}
use Rattle.engine.proofs.lower_line.LowerLine.fill_next.Goals as goal

pub loop-d-preserved : goal.loop-d-preserved
loop-d-preserved g c =
    let s = c.args.self.now in
    let n = s.points in
    let m = g.C.Floor.points c.args.calendar.now in
    let d = c.loop-d.d in
    let fits = day_fits d m n (omega arith) in
    let row = c.next_day.new.line in
    let wide : length row ≡ n = omega arith in
    let plane : Plane = λ e x. next_word m (g.C.Floor.leads c.args.calendar.now) (λ f. yes_at n s.words.now f x) e in
    row_more d n plane c.loop-d.line row (omega arith) wide (λ x h. c.next_day.ensures x (omega arith)) c.loop-d.invariant
