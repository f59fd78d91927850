-- The days are gone through from the least on.
use Rattle.std.proofs.Common.{◌≡◌, ℕ, None, Some, rules}
use Rattle.examiner.specs.FalsePlaces.{FalsePoint}
use Rattle.examiner.specs.Read.{words_of, model_for}
use Rattle.examiner.proofs.FirstFalse.{first_mapped, day_found}
use Rattle.examiner.proofs.examination.Examination.false_day.Goals as goal

pub returns : goal.returns
returns g c =
    let s = c.args.self.now in
    let M = model_for s.findings (g.F.Floor.leads s.floor.now) (g.C.Floor.leads s.calendar.now) s.readings.now in
    let no : ℕ → Type 0 = λ d. FalsePoint M c.args.line (words_of s.findings) c.args.i d None in
    let yes : ℕ → ℕ × ℕ → Type 0 = λ d p. (p.0 ≡ d) × FalsePoint M c.args.line (words_of s.findings) c.args.i d (Some p.1) in
    day_found M (words_of s.findings) c.args.line c.args.i c.find_map.result
    (first_mapped s.findings.numbers.days _ no yes c.find_map.result c.find_map.ensures.runs (λ a r q h. search rules) (λ d h. search rules) (λ d p h. search rules))
