-- One point more.
use Rattle.std.proofs.Common.{◌≡◌, ℕ, refl, subst, arith}
use Rattle.model.specs.Table.{until_word, Plane}
use Rattle.engine.specs.Filling.{yes_at}
use Rattle.engine.proofs.Columned.{Columns, columns_more, columns_all}
use Rattle.engine.proofs.lower_line.LowerLine.fill_until.Goals as goal

pub loop-x-preserved : goal.loop-x-preserved
loop-x-preserved g c =
    let s = c.args.self.now in
    let n = s.points in
    let m = g.C.Floor.points c.args.calendar.now in
    let plane : Plane = λ d y. until_word m (g.C.Floor.leads c.args.calendar.now) (λ e. yes_at n s.words.now e y) (λ e. yes_at n c.args.right.now.words.now e y) d in
    columns_more n m c.loop-x.x plane (λ d. plane d c.loop-x.x) c.loop-x.line c.until_point.new.line (omega arith) (λ d h. refl) c.loop-x.invariant c.until_point.ensures

pub returns : goal.returns
returns g c =
    let s = c.args.self.now in
    let n = s.points in
    let m = g.C.Floor.points c.args.calendar.now in
    let plane : Plane = λ d y. until_word m (g.C.Floor.leads c.args.calendar.now) (λ e. yes_at n s.words.now e y) (λ e. yes_at n c.args.right.now.words.now e y) d in
    let e : c.loop-x.x ≡ n = omega arith in
    columns_all n m plane c.loop-x.line (omega arith) (subst (λ (x : ℕ). Columns n m x plane c.loop-x.line) e c.loop-x.invariant)
