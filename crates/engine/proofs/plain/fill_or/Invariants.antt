use Rattle.std.proofs.Common.{◌≡◌, ℕ, ◌<◌, ◌||◌, get_or}
use Rattle.model.specs.Table.{word, says_yes}
use Rattle.engine.proofs.plain.fill_or.Given as goal

-- the words before k are written
abbrev pub invariant-loop-k : goal.invariant-loop-k
invariant-loop-k l = (j : ℕ) → j < l.k → get_or l.line j 0 ≡ word (says_yes (get_or l.left j 0) || says_yes (get_or l.right j 0)) 0
