use Rattle.std.proofs.Common.{◌≡◌, ℕ, ◌*◌, ◌<◌, get_or}
use Rattle.model.specs.Table.{near_word}
use Rattle.engine.specs.Filling.{in_order, yes_at}
use Rattle.engine.proofs.lower_line.LowerLine.fill_near.Given as goal

-- the words of the days before d are written
abbrev pub invariant-loop-d : goal.invariant-loop-d
invariant-loop-d g l =
    let n = l.self.points in
    (k : ℕ) → k < l.d * n → get_or l.line k 0 ≡ in_order n (λ d. near_word (g.F.Floor.points l.floor) (g.F.Floor.leads l.floor) (yes_at l.self.points l.self.words.now d)) k
