use Rattle.std.proofs.Common.{◌≡◌, ℕ, ◌+◌, ◌*◌, ◌<◌, length, get_or}
use Rattle.engine.proofs.lower_line.LowerLine.column.Given as goal

-- the words of the days before d are read
abbrev pub invariant-loop-d : goal.invariant-loop-d
invariant-loop-d l = ((e : ℕ) → e < l.d → get_or l.column e 0 ≡ get_or l.self.words.now (e * l.self.points + l.x) 0) × (length l.column ≡ 64)
