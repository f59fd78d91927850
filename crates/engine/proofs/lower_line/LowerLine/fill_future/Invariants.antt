use Rattle.model.specs.Table.{awaited_word}
use Rattle.engine.specs.Filling.{yes_at}
use Rattle.engine.proofs.Columned.{Columns}
use Rattle.engine.proofs.lower_line.LowerLine.fill_future.Given as goal

-- the words of the points before x are written
abbrev pub invariant-loop-x : goal.invariant-loop-x
invariant-loop-x g l =
    let n = l.self.points in
    let m = g.C.Floor.points l.calendar in
    Columns n m l.x (λ d y. awaited_word m (g.C.Floor.leads l.calendar) (λ e. yes_at n l.self.words.now e y) d) l.line
