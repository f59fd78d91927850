-- Where the reckoning stops, the book has ended.
use Rattle.std.proofs.Common.{◌≡◌, ◌+◌, ◌-◌, ◌*◌, ◌^◌, ◌≤◌, min, length, slice_index, ◌∙◌, ap, rules, arith}
use mathlib.Core.Path.{fun_ext}
use Rattle.examiner.proofs.BookWords.{capped_product, capped_place}
use Rattle.examiner.proofs.words.Findings.day_words.Goals as goal

pub returns : goal.returns
returns c =
    let top = 2 ^ 64 - 1 in
    let s = c.args.self.now in
    let words = s.words.now in
    let n = s.numbers.points in
    let row = c.args.at.line * s.numbers.days + c.args.at.day in
    let few : length words ≤ top = search rules in
    let r : c.saturating_add-day.result ≡ min row top = omega (arith, c.saturating_mul.ensures) in
    let q : c.saturating_mul-2.result ≡ min (row * n) top = c.saturating_mul-2.ensures ∙ ap (λ b. min (b * n) top) r ∙ capped_product top row n s.numbers.somepoints in
    c.words_from.ensures ∙ fun_ext (λ y. ap (λ b. slice_index words (b + y)) q ∙ capped_place words top (row * n) y few)
