-- Each turn adds one pair to both rows of masks.
use Rattle.std.proofs.Common.{◌+◌, ◌*◌, ◌&&◌, ◌||◌, eqb, ap₂, ◌∙◌, sym, arith}
use Rattle.std.proofs.Math.Bool.{and_comm}
use Rattle.model.specs.Links.{pair_from, pair_to}
use Rattle.model.proofs.Masks.{masked_none}
use Rattle.model.proofs.Pairs.{cut_from, cut_to, listed_more}
use Rattle.model.proofs.link_calendar.masks_of.Goals as goal

pub loop-pair-init : goal.loop-pair-init
loop-pair-init c = (masked_none 64, masked_none 64)

pub link-requires-clause-from : goal.link-requires-clause-from
link-requires-clause-from c =
    let k = c.loop-pair.pair-index in
    rw (cut_from _ c.args.pairs.now k c.as_chunks.ensures.front (omega arith)) (c.requires (2 * k) (omega arith))

pub link-requires-clause-to : goal.link-requires-clause-to
link-requires-clause-to c =
    let k = c.loop-pair.pair-index in
    rw (cut_to _ c.args.pairs.now k c.as_chunks.ensures.front (omega arith)) (c.requires (2 * k + 1) (omega arith))

pub link-requires-in-loop-pair-clause-from : goal.link-requires-in-loop-pair-clause-from
link-requires-in-loop-pair-clause-from c =
    let k = c.loop-pair.pair-index in
    rw (cut_to _ c.args.pairs.now k c.as_chunks.ensures.front (omega arith)) (c.requires (2 * k + 1) (omega arith))

pub link-requires-in-loop-pair-clause-to : goal.link-requires-in-loop-pair-clause-to
link-requires-in-loop-pair-clause-to c =
    let k = c.loop-pair.pair-index in
    rw (cut_from _ c.args.pairs.now k c.as_chunks.ensures.front (omega arith)) (c.requires (2 * k) (omega arith))

pub loop-pair-preserved : goal.loop-pair-preserved
loop-pair-preserved c =
    let pairs = c.args.pairs.now in
    let k = c.loop-pair.pair-index in
    let from = cut_from _ pairs k c.as_chunks.ensures.front (omega arith) in
    let to = cut_to _ pairs k c.as_chunks.ensures.front (omega arith) in (
      λ p q. c.link.ensures p q ∙ (ap₂ (λ a b. a || b) (c.loop-pair.invariant.0 p q) (ap₂ (λ f t. eqb f p && eqb t q) from to) ∙ sym (listed_more pairs k p q)),
      λ p q. c.link-in-loop-pair.ensures p q ∙ (ap₂ (λ a b. a || b) (c.loop-pair.invariant.1 p q) (ap₂ (λ t f. eqb t p && eqb f q) to from ∙ and_comm (eqb (pair_to pairs k) p) (eqb (pair_from pairs k) q)) ∙ sym (listed_more pairs k q p)),
    )
