use Rattle.std.proofs.Common.{◌≡◌, ℕ, length, get_or, subst, arith}
use Rattle.engine.specs.Filling.{Column, day_word}
use Rattle.engine.proofs.Columned.{column_more}
use Rattle.engine.proofs.Filled.{day_fits}
use Rattle.engine.proofs.column.write_column.Goals as goal

pub loop-d-preserved : goal.loop-d-preserved
loop-d-preserved c =
    let steps = c.args.steps.now in
    let l = c.loop-d in
    let fits = day_fits l.d (length steps) c.args.points (omega arith) in
    column_more c.args.points l.d c.args.x c.day_word.result (λ e. day_word (length steps) (get_or steps e 0)) c.args.line.now l.line (omega arith) (omega arith) c.day_word.ensures l.invariant

pub returns : goal.returns
returns c =
    let steps = c.args.steps.now in
    let e : c.loop-d.d ≡ length steps = omega arith in
    subst (λ (k : ℕ). Column c.args.points k c.args.x (λ d. day_word (length steps) (get_or steps d 0)) c.args.line.now c.loop-d.line) e c.loop-d.invariant
