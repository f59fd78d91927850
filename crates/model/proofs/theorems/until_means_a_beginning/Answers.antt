use Rattle.model.proofs.Paths.{until_law}
use Rattle.model.proofs.theorems.until_means_a_beginning.Goals as goal

pub returns : goal.returns
returns c = until_law
