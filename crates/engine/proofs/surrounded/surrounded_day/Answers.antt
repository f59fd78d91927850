-- The exploration's steps, written as words.
use Rattle.std.proofs.Common.{◌≡◌, ℕ, Bool, length, get_or, refl, ◌∙◌, subst, arith}
use Rattle.model.specs.Table.{says_yes}
use Rattle.engine.specs.Filling.{Made, way_word}
use Rattle.engine.proofs.WaysFilled.{ways_are}
use Rattle.engine.proofs.surrounded.surrounded_day.Goals as goal

pub returns : goal.returns
returns g c =
    let n = g.F.Floor.points c.args.floor.now in
    let steps = c.explore.new.room.steps in
    let left : ℕ → Bool = λ y. says_yes (get_or c.args.left.now y 0) in
    let right : ℕ → Bool = λ y. says_yes (get_or c.args.right.now y 0) in
    let is : length c.args.line.now ≡ n = c.requires in
    let made : Made (λ x. way_word n (get_or steps x 0)) c.write_ways.new.line = subst (λ (k : ℕ). Made (λ x. way_word k (get_or steps x 0)) c.write_ways.new.line) is c.write_ways.ensures in
    λ x h. made x h ∙ ways_are n (g.F.Floor.leads c.args.floor.now) left right left right (λ x. get_or steps x 0) (λ y l. refl) (λ y l. refl) c.explore.ensures.shortest x (omega arith)
