-- A number passes the count exactly where the closure says so.
use Rattle.std.proofs.Common.{leb, rules, tests}
use Rattle.model.proofs.Chains.{any_of_slice}
use Rattle.model.proofs.links.passes_count.Goals as goal

pub returns : goal.returns
returns c = any_of_slice (leb c.args.count) 0 c.args.pairs.now c.iter.ensures.rest c.any.ensures.ran (λ x t q k. search (rules, tests))
