use Rattle.model.proofs.Solution.{one_solution}
use Rattle.model.proofs.theorems.entry_rule_has_one_solution.Goals as goal

pub returns : goal.returns
returns c = one_solution
