-- One bit more in the mask of `from` is one link more.
use Rattle.std.proofs.Common.{arith}
use Rattle.std.proofs.lemmas.Nat.{one_shl}
use Rattle.model.proofs.Masks.{masked_more}
use Rattle.model.proofs.link_calendar.link.Goals as goal

pub returns : goal.returns
returns c = rw (one_shl c.args.to 64 (omega arith)) (masked_more c.args.masks.now c.args.from c.args.to (omega arith))
