use Rattle.std.proofs.Common.{◌∙◌, ap}
use Rattle.examiner.proofs.words.Findings.word.Goals as goal

pub returns : goal.returns
returns c = c.word_at.ensures ∙ ap (λ words. words c.args.at.point) c.day_words.ensures
