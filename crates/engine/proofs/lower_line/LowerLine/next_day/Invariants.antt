use Rattle.std.proofs.Common.{◌≡◌, ℕ, ◌<◌, get_or}
use Rattle.engine.specs.Filling.{next_word, yes_at}
use Rattle.engine.proofs.lower_line.LowerLine.next_day.Given as goal

-- the words of the points before x are written
abbrev pub invariant-loop-x : goal.invariant-loop-x
invariant-loop-x g l = (y : ℕ) → y < l.x → get_or l.line y 0 ≡ next_word (g.C.Floor.points l.calendar) (g.C.Floor.leads l.calendar) (λ e. yes_at l.self.points l.self.words.now e y) l.d
