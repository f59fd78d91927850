-- A search over the words says it of their places.
use Rattle.std.proofs.Common.{rules, tests}
use Rattle.model.specs.Table.{says_yes}
use Rattle.model.proofs.Chains.{any_of_slice}
use Rattle.engine.proofs.near.has_yes.Goals as goal

pub returns : goal.returns
returns c = any_of_slice says_yes 0 c.args.left.now c.iter.ensures.rest c.any.ensures.ran (λ x t q k. search (rules, tests))
