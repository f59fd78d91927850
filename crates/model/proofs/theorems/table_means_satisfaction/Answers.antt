use Rattle.model.proofs.Satisfied.{satisfaction}
use Rattle.model.proofs.theorems.table_means_satisfaction.Goals as goal

pub returns : goal.returns
returns c = satisfaction
