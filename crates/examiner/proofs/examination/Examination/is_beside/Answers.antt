-- The points that lead here are gone through from the least on, by the book's words of the day.
use Rattle.std.proofs.Common.{ℕ, Bool, ◌&&◌, slice_index, ◌∙◌, ap, rules}
use Rattle.model.specs.Numbers.{any}
use Rattle.model.specs.Relations.{turned}
use Rattle.model.specs.Table.{says_yes}
use Rattle.examiner.proofs.Neighbours.{any_met}
use Rattle.examiner.proofs.examination.Examination.is_beside.Goals as goal

pub returns : goal.returns
returns g c =
    let s = c.args.self.now in
    let n = s.findings.numbers.points in
    let row : ℕ → Bool = turned (g.F.Floor.leads s.floor.now) c.args.left.point in
    any_met (λ i. g.F.Floor.points i.floor.now) (λ i. turned (g.F.Floor.leads i.floor.now) i.point) (λ i. i.from) c.any.new.self n row (λ y. says_yes (slice_index c.day_words-words.result.now y))
    (search rules) (search rules) (search rules) c.any.ensures.ran (λ x q h. search rules) (λ x q h. search rules)
    ∙ ap (λ (w : ℕ → ℕ). any n (λ y. row y && says_yes (w y))) c.day_words-words.ensures
