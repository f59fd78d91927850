use Rattle.model.proofs.Bounded.{bounds}
use Rattle.model.proofs.theorems.numbers_are_bounded.Goals as goal

pub returns : goal.returns
returns c = bounds
