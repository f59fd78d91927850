-- The words of a line on one day are the book's.
use Rattle.std.proofs.Common.{◌∙◌, arith}
use Rattle.engine.proofs.LineWords.{word_is}
use Rattle.engine.proofs.kinds_shown.Entry.day_words.Goals as goal

pub returns : goal.returns
returns g c =
    let s = c.args.self.now in
    let within = c.lower.ensures.within in
    record {
      size = c.day.ensures.size ∙ within.0;
      words = λ y h. (rw within.0 at c.day.ensures.words) y (omega arith) ∙ word_is _ _ s.findings.now c.args.line _ c.lower.ensures.words s.at.day y s.day h;
    }
