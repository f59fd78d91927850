-- The points are gone through from the least on.
use Rattle.std.proofs.Common.{ℕ, rules}
use Rattle.std.proofs.lemmas.Iterator.{first_from_Range}
use Rattle.examiner.specs.FalsePlaces.{TrueAt}
use Rattle.examiner.specs.Read.{words_of, model_for}
use Rattle.examiner.proofs.FirstFalse.{point_found}
use Rattle.examiner.proofs.examination.Examination.false_point.Goals as goal

pub returns : goal.returns
returns g c =
    let s = c.args.self.now in
    let M = model_for s.findings (g.F.Floor.leads s.floor.now) (g.C.Floor.leads s.calendar.now) s.readings.now in
    let right : ℕ → Type 0 = λ x. TrueAt M c.args.line (words_of s.findings) c.args.i c.args.d x in
    point_found M (words_of s.findings) c.args.line c.args.i c.args.d c.find.result
    (first_from_Range _ c.find.new.self _ c.find.result (λ x. right x → ⊥) right c.find.ensures.ran (λ x q h. search rules) (λ x q h. search rules))
