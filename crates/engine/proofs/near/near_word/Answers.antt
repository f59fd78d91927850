-- A search among the points that lead here says whether left is yes at one.
use Rattle.std.proofs.Common.{ℕ, ◌*◌, ◌<◌, Bool, length, get_or, ap, ◌∙◌, rules, tests, arith}
use Rattle.std.proofs.lemmas.Bool.{ne_eqb}
use Rattle.model.specs.Table.{says_yes}
use Rattle.engine.proofs.MadeWords.{near_made}
use Rattle.engine.proofs.Moving.{asks_before, any_before}
use Rattle.engine.proofs.Nearness.{near_by}
use Rattle.engine.proofs.near.near_word.Goals as goal

pub any-near-requires-clause-callable : goal.any-near-requires-clause-callable
any-near-requires-clause-callable g c =
    let start = c.before-2.ensures in
    asks_before g.F.Floor.points g.F.Floor.leads c.args.floor.now c.args.x c.before-2.result start.floor start.point _ (λ y q h. search (rules, tests))
    (λ y h. let held : y < length c.args.left.now = omega arith in search (rules, arith))

pub returns : goal.returns
returns g c =
    let start = c.before-2.ensures in
    let left : ℕ → Bool = λ y. says_yes (get_or c.args.left.now y 0) in
    let near = any_before g.F.Floor.points g.F.Floor.leads c.args.floor.now c.args.x c.before-2.result start.floor start.point _ left _ c.any-near.new.self c.any-near.result start.from c.any-near.ensures.ran (λ y q h. search (rules, tests)) (λ y q h. search (rules, tests)) in
    ap (λ w. 3 * w) c.from.ensures ∙ near_made c.any-near.result
    ∙ near_by (g.F.Floor.points c.args.floor.now) (g.F.Floor.leads c.args.floor.now) left c.args.x (ne_eqb _ 1 c.if-left-x-eq1.false) c.any-near.result near
