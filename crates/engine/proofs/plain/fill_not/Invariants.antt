use Rattle.std.proofs.Common.{◌≡◌, ℕ, ◌<◌, not, get_or}
use Rattle.model.specs.Table.{word, says_yes}
use Rattle.engine.proofs.plain.fill_not.Given as goal

-- the words before k are written
abbrev pub invariant-loop-k : goal.invariant-loop-k
invariant-loop-k l = (j : ℕ) → j < l.k → get_or l.line j 0 ≡ word (not (says_yes (get_or l.left j 0))) 0
