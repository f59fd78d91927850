use Rattle.std.proofs.lemmas.Bool.Decides.{nat_tests}
use Rattle.std.proofs.Common.{arith}
use Rattle.model.proofs.checks.check_whole.Goals as goal

pub returns-then-readings-size : goal.returns-then-readings-size
returns-then-readings-size g c = grind (arith, nat_tests)
