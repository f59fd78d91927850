-- The lines are gone through from the least on.
use Rattle.std.proofs.Common.{◌≡◌, ℕ, None, Some, rules}
use Rattle.model.specs.declared.answers.Place.{Place}
use Rattle.model.specs.Lines.{line_at}
use Rattle.examiner.specs.FalsePlaces.{FalseDay}
use Rattle.examiner.specs.Read.{words_of, model_for}
use Rattle.examiner.proofs.FirstFalse.{first_mapped, line_found}
use Rattle.examiner.proofs.examination.Examination.false_line.Goals as goal

pub returns : goal.returns
returns g c =
    let s = c.args.self.now in
    let M = model_for s.findings (g.F.Floor.leads s.floor.now) (g.C.Floor.leads s.calendar.now) s.readings.now in
    let no : ℕ → Type 0 = λ i. FalseDay M (line_at c.args.lines.now i) (words_of s.findings) i None in
    let yes : ℕ → Place → Type 0 = λ i p. (p.line ≡ i) × FalseDay M (line_at c.args.lines.now i) (words_of s.findings) i (Some (p.day, p.point)) in
    line_found M (words_of s.findings) c.args.lines.now s.findings.numbers.lines c.find_map.result
    (first_mapped s.findings.numbers.lines _ no yes c.find_map.result c.find_map.ensures.runs (λ a r q h. search rules) (λ d h. search rules) (λ d p h. search rules))
