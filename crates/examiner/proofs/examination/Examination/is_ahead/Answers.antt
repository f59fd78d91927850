-- The next days are gone through from the least on, by the book's words at the point.
use Rattle.std.proofs.Common.{ℕ, Bool, ◌&&◌, ◌∙◌, ap, rules}
use Rattle.model.specs.Numbers.{any}
use Rattle.model.specs.Table.{says_yes}
use Rattle.examiner.specs.Read.{by_day}
use Rattle.examiner.proofs.Neighbours.{any_met}
use Rattle.examiner.proofs.examination.Examination.is_ahead.Goals as goal

pub returns : goal.returns
returns g c =
    let s = c.args.self.now in
    let n = s.findings.numbers.days in
    let row : ℕ → Bool = g.C.Floor.leads s.calendar.now c.args.left.day in
    any_met (λ i. g.C.Floor.points i.floor.now) (λ i. g.C.Floor.leads i.floor.now i.point) (λ i. i.from) c.any.new.self n row (λ e. says_yes (by_day c.point_words-words.result e))
    (search rules) (search rules) (search rules) c.any.ensures.ran (λ x q h. search rules) (λ x q h. search rules)
    ∙ ap (λ (w : ℕ → ℕ). any n (λ e. row e && says_yes (w e))) c.point_words-words.ensures
