use Rattle.model.proofs.SmallHeaps.{small_heaps}
use Rattle.model.proofs.theorems.small_heaps_are_as_worked_by_hand.Goals as goal

pub returns : goal.returns
returns c = small_heaps
