-- A search among the next days says whether left is yes on one.
use Rattle.std.proofs.Common.{ℕ, Bool, ap, ◌∙◌, rules, tests, arith}
use Rattle.model.specs.Table.{word}
use Rattle.engine.specs.Filling.{yes_at}
use Rattle.engine.proofs.MadeWords.{yes_made}
use Rattle.engine.proofs.Moving.{asks_after, any_after}
use Rattle.engine.proofs.lower_line.LowerLine.next_word.Goals as goal

pub any-requires-clause-callable : goal.any-requires-clause-callable
any-requires-clause-callable g c =
    let s = c.args.self.now in
    let start = c.after.ensures in
    asks_after g.C.Floor.points g.C.Floor.leads c.args.calendar.now c.args.d c.after.result start.floor start.point _ (λ y q h. search (rules, tests)) (λ y h. search (rules, tests, arith))

pub returns : goal.returns
returns g c =
    let s = c.args.self.now in
    let start = c.after.ensures in
    let left : ℕ → Bool = λ e. yes_at s.points s.words.now e c.args.x in
    let found = any_after g.C.Floor.points g.C.Floor.leads c.args.calendar.now c.args.d c.after.result start.floor start.point _ left _ c.any.new.self c.any.result start.from c.any.ensures.ran (λ y q h. search (rules, tests)) (λ y q h. search (rules, tests)) in
    c.from.ensures ∙ yes_made c.any.result ∙ ap (λ b. word b 0) found
