-- The number is one that the code can hold, so nothing is cut off it.
use Rattle.std.proofs.Common.{◌≡◌, ◌-◌, ◌^◌, ◌≤◌, min, length, slice_index, take, drop, ◌∙◌, ap, rules, arith}
use mathlib.Core.Path.{fun_ext}
use Rattle.examiner.proofs.BookWords.{words_from}
use Rattle.examiner.proofs.words.words_from.Goals as goal

pub returns : goal.returns
returns c =
    let top = 2 ^ 64 - 1 in
    let words = c.args.words.now in
    let few : length words ≤ top = search rules in
    let k : c.min.result ≡ min (min c.args.k top) (length words) = omega (arith, c.min.ensures) in
    fun_ext (λ y. ap (λ b. slice_index (take (length words - b) (drop b words)) y) k ∙ words_from words top c.args.k y few)
