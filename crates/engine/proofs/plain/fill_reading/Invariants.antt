use Rattle.std.proofs.Common.{◌≡◌, ℕ, ◌<◌, get_or}
use Rattle.model.specs.Masks.{bit}
use Rattle.model.specs.Table.{word}
use Rattle.engine.proofs.plain.fill_reading.Given as goal

-- the words before k are written
abbrev pub invariant-loop-k : goal.invariant-loop-k
invariant-loop-k l = (j : ℕ) → j < l.k → get_or l.line j 0 ≡ word (bit (get_or l.readings j 0) l.atom) 0
