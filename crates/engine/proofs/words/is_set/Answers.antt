use Rattle.std.proofs.Common.{sym, ◌∙◌, ⊎_elim, arith}
use Rattle.std.proofs.lemmas.Bool.{cases_Bool, le-ltb}
use Rattle.model.specs.Masks.{bit}
use Rattle.model.proofs.Masks.{bit_below}
use Rattle.engine.proofs.words.is_set.Goals as goal

pub returns-else-d-lt64 : goal.returns-else-d-lt64
returns-else-d-lt64 c =
    le-ltb c.args.d 64 (omega arith) ∙ sym (⊎_elim (λ t. absurd (omega (arith, bit_below 64 c.args.mask c.args.d c.ranges.mask.fits t))) (λ f. f) (cases_Bool (bit c.args.mask c.args.d)))
