-- The words of a line at one point are the book's.
use Rattle.std.proofs.Common.{◌∙◌, arith}
use Rattle.engine.proofs.LineWords.{word_is}
use Rattle.engine.proofs.kinds_shown.Entry.point_words.Goals as goal

pub returns : goal.returns
returns g c =
    let s = c.args.self.now in
    let within = c.lower.ensures.within in
    λ e h. (rw within.0 at c.column.ensures) e (omega arith) ∙ word_is _ _ s.findings.now c.args.line _ c.lower.ensures.words e s.at.point h s.point
