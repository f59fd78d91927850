use Rattle.std.proofs.Common.{◌≡◌, ℕ, ◌<◌, get_or}
use Rattle.model.specs.Table.{says_yes, near_word}
use Rattle.engine.proofs.near.near_day.Given as goal

-- the words of the points before x are written
abbrev pub invariant-loop-x : goal.invariant-loop-x
invariant-loop-x g l = (y : ℕ) → y < l.x → get_or l.line y 0 ≡ near_word (g.F.Floor.points l.floor) (g.F.Floor.leads l.floor) (λ z. says_yes (get_or l.left z 0)) y
