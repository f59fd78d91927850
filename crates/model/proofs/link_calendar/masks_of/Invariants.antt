use Rattle.std.proofs.Common.{◌≡◌, ℕ}
use Rattle.model.specs.Masks.{masked}
use Rattle.model.proofs.Pairs.{listed_first}
use Rattle.model.proofs.link_calendar.masks_of.Given as goal

-- the masks hold the pairs so far
abbrev pub invariant-loop-pair : goal.invariant-loop-pair
invariant-loop-pair l =
    ((p q : ℕ) → masked l.next p q ≡ listed_first l.pairs l.pair-index p q) × ((p q : ℕ) → masked l.prev p q ≡ listed_first l.pairs l.pair-index q p)
