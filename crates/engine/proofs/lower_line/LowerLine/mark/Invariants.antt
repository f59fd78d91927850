use Rattle.std.proofs.Common.{◌≡◌, ℕ, ◌<◌, get_or, cond}
use Rattle.engine.specs.Filling.{yes_at}
use Rattle.engine.proofs.lower_line.LowerLine.mark.Given as goal

-- the days before d are marked
abbrev pub invariant-loop-d : goal.invariant-loop-d
invariant-loop-d l = (e : ℕ) → e < l.d → get_or l.waits e 0 ≡ cond (yes_at l.self.points l.self.words.now e l.x) 0 l.days
