use Rattle.std.proofs.Common.{sym, ◌∙◌, arith}
use Rattle.std.proofs.lemmas.Bool.{le-ltb}
use Rattle.examiner.proofs.BookWords.{past_bits}
use Rattle.examiner.proofs.words.has_bit.Goals as goal

pub returns-else-a-lt32 : goal.returns-else-a-lt32
returns-else-a-lt32 c = le-ltb c.args.a 32 (omega arith) ∙ sym (past_bits c.args.word c.args.a (omega arith) (omega arith))
