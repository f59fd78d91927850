use Rattle.std.proofs.Common.{◌≡◌, ℕ, ◌<◌, ◌≤◌, false}
use Rattle.model.specs.Masks.{bit}
use Rattle.engine.specs.Filling.{yes_at}
use Rattle.engine.proofs.lower_line.LowerLine.answers.Given as goal

-- the answers of the days before d are read, and no other bit is set
abbrev pub invariant-loop-d : goal.invariant-loop-d
invariant-loop-d l =
    ((e : ℕ) → e < l.d → bit l.answers e ≡ yes_at l.self.points l.self.words.now e l.x)
    × ((e : ℕ) → l.d ≤ e → bit l.answers e ≡ false)
