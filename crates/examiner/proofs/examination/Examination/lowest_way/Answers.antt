-- The words of the day are the book's; the candidates are tested in another grouping.
use Rattle.std.proofs.Common.{ℕ, not, ◌&&◌, ◌∙◌, ap₂}
use Rattle.model.specs.Numbers.{lowest}
use Rattle.model.specs.Table.{says_yes, number}
use Rattle.examiner.specs.Read.{words_of}
use Rattle.examiner.proofs.Neighbours.{lowest_grouped}
use Rattle.examiner.proofs.examination.Examination.lowest_way.Goals as goal

pub returns : goal.returns
returns g c =
    let s = c.args.self.now in
    let n = g.F.Floor.points s.floor.now in
    let row = g.F.Floor.leads s.floor.now c.args.own.point in
    let right : ℕ → ℕ = words_of s.findings c.args.right.line c.args.right.day in
    let own : ℕ → ℕ = words_of s.findings c.args.own.line c.args.own.day in
    c.lowest.ensures
    ∙ ap₂ (λ (r o : ℕ → ℕ). lowest n (λ y. row y && (not (says_yes (r y)) && not (says_yes (o y)))) (λ y. number (o y))) c.day_words.ensures c.day_words-2.ensures
    ∙ lowest_grouped n s.findings.numbers.points row (λ y. not (says_yes (right y))) (λ y. not (says_yes (own y))) (λ y. number (own y)) s.points
