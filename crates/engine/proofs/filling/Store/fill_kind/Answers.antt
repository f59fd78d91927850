-- The line is made from what stands below it, and the rest of the book stays.
use Rattle.std.proofs.Common.{◌≡◌, ℕ, ◌+◌, ◌*◌, ◌/◌, ◌%◌, ◌<◌, length, ap, ap₂, ◌∙◌, arith}
use Rattle.std.proofs.lemmas.List.{length-take-le}
use Rattle.model.specs.Books.{finding_in, model_of}
use Rattle.model.specs.Table.{kind_plane}
use Rattle.model.proofs.OperandsRead.{operands_below}
use Rattle.model.proofs.Solution.{plane_same}
use Rattle.engine.specs.Filling.{in_order}
use Rattle.engine.proofs.Filled.{written_put}
use Rattle.engine.proofs.LineWords.{in_days, in_points, stands_below}
use Rattle.engine.proofs.filling.Store.fill_kind.Goals as goal

pub returns : goal.returns
returns g c =
    let n = g.F.Floor.points c.args.self.now.floor.now in
    let m = g.C.Floor.points c.args.self.now.calendar.now in
    let some = g.met.F.Floor.some c.args.self.now.floor.now in
    let M = model_of n (g.F.Floor.leads c.args.self.now.floor.now) m (g.C.Floor.leads c.args.self.now.calendar.now) c.args.self.now.readings.now in
    let i = c.args.i in
    let l = c.args.line.left in
    let r = c.args.line.right in
    let old = c.args.findings.now in
    let below = c.split_at_mut-below.result.0.now in
    let parts = c.split_at_mut-below.ensures in
    let line = c.fill_line.new.words in
    let size : c.count.result * c.count-2.result ≡ m * n = ap₂ (λ a b. a * b) c.count.ensures c.count-2.ensures in
    let base : i * (c.count.result * c.count-2.result) ≡ i * (m * n) = ap (λ a. i * a) size in
    let wide : length line ≡ m * n = omega (arith, length-take-le (c.count.result * c.count-2.result) c.split_at_mut-below.result.1.now (omega arith)) in
    let same : (j d x : ℕ) → j < i → d < m → x < n → finding_in below n m j d x ≡ finding_in old n m j d x = λ j d x hj hd hx.
    let before = stands_below n m i j d x hj hd hx in parts.by_index.0 ((j * m + d) * n + x) 0 (omega arith) in
    rw (parts.front, parts.back, c.count.ensures, c.count-2.ensures)
    (written_put (i * (m * n)) (m * n) (in_order n (kind_plane M c.args.kind (finding_in old n m) l r)) old line c.requires.held wide
    (λ k h. c.fill_line.ensures k (omega arith)
    ∙ plane_same M c.args.kind (finding_in below n m) (finding_in old n m) i l r same (operands_below c.args.kind i l r c.requires.operands) (k / n) (k % n) (in_days n m some old k h) (in_points n m some old k h)))
