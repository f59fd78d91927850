-- Each next day's word stands as many words further as there are points.
use Rattle.std.proofs.Common.{◌≡◌, ℕ, ◌+◌, ◌*◌, slice_index, ◌∙◌, ap, arith, add-mul}
use mathlib.Core.Path.{fun_ext}
use Rattle.examiner.proofs.words.Findings.point_words.Goals as goal

pub returns : goal.returns
returns c =
    let s = c.args.self.now in
    let n = s.numbers.points in
    let x = c.args.at.point in
    let a = c.args.at.line * s.numbers.days in
    let place : (e : ℕ) → (a + 0) * n + (x + e * n) ≡ (a + e) * n + x = λ e. omega (arith, add-mul a e n, add-mul a 0 n) in
    fun_ext (λ e.
    ap (λ (w : ℕ → ℕ). w (e * n)) c.words_from.ensures
    ∙ ap (λ (w : ℕ → ℕ). w (x + e * n)) c.day_words.ensures
    ∙ ap (λ i. slice_index s.words.now i) (place e))
