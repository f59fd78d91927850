-- The inverse divides exactly.
use Rattle.std.proofs.Common.{◌*◌, ◌/◌, ap, ◌∙◌, arith}
use Rattle.model.proofs.Inverses.{row_is}
use Rattle.model.proofs.grid.Grid.row.Goals as goal

pub returns : goal.returns
returns c =
    let cols = c.args.self.now.cols in
    ap (λ m. c.args.p * m / 4294967296) c.args.self.now.exact ∙ row_is cols c.args.p (omega arith) (omega arith) (omega arith)
