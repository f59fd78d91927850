use Rattle.model.proofs.Futures.{every_future_law}
use Rattle.model.proofs.theorems.awaited_means_every_future.Goals as goal

pub returns : goal.returns
returns c = every_future_law
