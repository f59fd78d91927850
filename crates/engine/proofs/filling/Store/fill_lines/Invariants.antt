use Rattle.std.proofs.Common.{◌≡◌, ℕ, ◌*◌, ◌≤◌, get_or}
use Rattle.model.specs.Books.{model_of, BookHolds}
use Rattle.engine.proofs.filling.Store.fill_lines.Given as goal

-- the first i lines hold the table's words, and what comes after them is as it was
abbrev pub invariant-loop-i : goal.invariant-loop-i
invariant-loop-i g l =
    let n = g.F.Floor.points l.self.floor.now in
    let m = g.C.Floor.points l.self.calendar.now in
    BookHolds (model_of n (g.F.Floor.leads l.self.floor.now) m (g.C.Floor.leads l.self.calendar.now) l.self.readings.now) l.lines l.i l.findings
    × ((k : ℕ) → l.i * (m * n) ≤ k → get_or l.findings k 0 ≡ get_or l.initial.findings k 0)
