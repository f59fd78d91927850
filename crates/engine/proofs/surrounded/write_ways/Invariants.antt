use Rattle.std.proofs.Common.{◌≡◌, ℕ, ◌<◌, get_or}
use Rattle.engine.specs.Filling.{way_word}
use Rattle.engine.proofs.surrounded.write_ways.Given as goal

-- the words of the points before x are written
abbrev pub invariant-loop-x : goal.invariant-loop-x
invariant-loop-x l = (y : ℕ) → y < l.x → get_or l.line y 0 ≡ way_word l.points (get_or l.steps y 0)
