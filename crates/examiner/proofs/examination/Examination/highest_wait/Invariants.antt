use Rattle.std.proofs.Common.{◌≡◌, ℕ, ◌<◌, ◌≤◌, true}
use Rattle.model.specs.Numbers.{highest}
use Rattle.model.specs.Table.{says_yes, number}
use Rattle.examiner.specs.Read.{words_of}
use Rattle.examiner.proofs.examination.Examination.highest_wait.Given as goal

-- the next days that have been gone through are yes, and this is their highest number
abbrev pub invariant-loop-e : goal.invariant-loop-e
invariant-loop-e g l =
    (g.C.Floor.points l.e-iterator.floor.now ≡ l.self.findings.numbers.days)
    × (g.C.Floor.leads l.e-iterator.floor.now l.e-iterator.point ≡ g.C.Floor.leads l.self.calendar.now l.fn.own.day)
    × (l.e-iterator.from ≤ l.self.findings.numbers.days)
    × (l.highest ≡ highest l.e-iterator.from (λ e. g.C.Floor.leads l.self.calendar.now l.fn.own.day e) (λ e. number (words_of l.self.findings l.fn.own.line e l.fn.own.point)))
    × ((e : ℕ) → e < l.e-iterator.from → g.C.Floor.leads l.self.calendar.now l.fn.own.day e ≡ true → says_yes (words_of l.self.findings l.fn.own.line e l.fn.own.point) ≡ true)
