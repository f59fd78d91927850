-- Where left is yes nowhere, so is near.
use Rattle.std.proofs.Common.{◌≡◌, ℕ, ◌<◌, Bool, false, length, get_or, sym, ap, ◌∙◌, rules, arith}
use Rattle.model.specs.Numbers.{any}
use Rattle.model.specs.Table.{says_yes}
use Rattle.model.proofs.Numbers.{any_none}
use Rattle.engine.proofs.Nearness.{near_nowhere}
use Rattle.engine.proofs.near.near_day.Goals as goal

pub returns-then-not-has_yes : goal.returns-then-not-has_yes
returns-then-not-has_yes g c =
    let n = g.F.Floor.points c.args.floor.now in
    let left : ℕ → Bool = λ y. says_yes (get_or c.args.left.now y 0) in
    let none : any n left ≡ false = ap (λ k. any k left) (sym c.requires.0) ∙ sym c.if-not-has_yes.ensures in
    let zero : (k : ℕ) → k < length c.fill.new.self → get_or c.fill.new.self k 0 ≡ 0 = search rules in
    let nowhere : (y : ℕ) → y < n → left y ≡ false = any_none n left none in
    λ k h. zero k h ∙ near_nowhere n (g.F.Floor.leads c.args.floor.now) left k (nowhere k (omega arith)) (λ y l _. nowhere y l)
