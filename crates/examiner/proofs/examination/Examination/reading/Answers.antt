-- Where the reckoning stops, the book has ended.
use Rattle.std.proofs.Common.{◌+◌, ◌-◌, ◌*◌, ◌^◌, ◌≤◌, length, slice_index, ◌∙◌, ap, ℕ, rules}
use Rattle.model.specs.Masks.{bit}
use Rattle.examiner.proofs.BookWords.{capped_place}
use Rattle.examiner.proofs.examination.Examination.reading.Goals as goal

pub returns : goal.returns
returns g c =
    let top = 2 ^ 64 - 1 in
    let words = c.args.self.now.readings.now in
    let x = c.args.at.point in
    let few : length words ≤ top = search rules in
    c.has_bit.ensures
    ∙ ap (λ w. bit w c.args.atom)
    (c.word_at.ensures ∙ ap (λ (w : ℕ → ℕ). w x) c.words_from.ensures ∙ ap (λ b. slice_index words (b + x)) c.saturating_mul-before.ensures ∙ capped_place words top (c.args.at.day * c.args.self.now.findings.numbers.points) x few)
