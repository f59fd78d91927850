use Rattle.model.proofs.Paths.{surrounded_law}
use Rattle.model.proofs.theorems.surrounded_means_no_way_out.Goals as goal

pub returns : goal.returns
returns c = surrounded_law
