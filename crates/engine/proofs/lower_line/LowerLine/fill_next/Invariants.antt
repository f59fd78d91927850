use Rattle.std.proofs.Common.{◌≡◌, ℕ, ◌*◌, ◌<◌, get_or}
use Rattle.engine.specs.Filling.{in_order, next_word, yes_at}
use Rattle.engine.proofs.lower_line.LowerLine.fill_next.Given as goal

-- the words of the days before d are written
abbrev pub invariant-loop-d : goal.invariant-loop-d
invariant-loop-d g l =
    let n = l.self.points in
    (k : ℕ) → k < l.d * n → get_or l.line k 0 ≡ in_order n (λ d x. next_word (g.C.Floor.points l.calendar) (g.C.Floor.leads l.calendar) (λ e. yes_at n l.self.words.now e x) d) k
