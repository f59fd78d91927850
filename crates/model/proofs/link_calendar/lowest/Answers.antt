-- The bits from `from` on are those of the mask shifted down.
use Rattle.std.proofs.Common.{arith}
use Rattle.model.proofs.Masks.{least_none, least_some}
use Rattle.model.proofs.link_calendar.lowest.Goals as goal

pub returns-then-rest-eq0 : goal.returns-then-rest-eq0
returns-then-rest-eq0 c k h below = least_none c.args.mask c.args.from (omega arith) k h

pub returns : goal.returns
returns c = least_some 64 c.args.mask c.args.from (omega arith) (omega arith)
