-- The goals first, and then all from which they are reached; without goals nothing is.
use Rattle.std.proofs.Common.{◌≡◌, length, ◌∙◌, arith}
use Rattle.std.proofs.lemmas.List.{length-take-le}
use Rattle.engine.specs.Exploring.{step_by, at, Explored}
use Rattle.engine.proofs.Exploring.{shortest}
use Rattle.engine.proofs.Filled.{put_after}
use Rattle.engine.proofs.exploration.explore.Goals as goal

pub follow-requires : goal.follow-requires
follow-requires g c =
    let rules = c.args.rules.now in
    rw c.count-count.ensures at (c.reach_goals.ensures.goals (step_by (g.R.Rules.leave rules) (g.F.Floor.leads c.args.floor.now) (g.R.Rules.enter rules)))

pub returns-else-room-gt0 : goal.returns-else-room-gt0
returns-else-room-gt0 g c =
    let rules = c.args.rules.now in
    let n = g.F.Floor.points c.args.floor.now in
    let step = step_by (g.R.Rules.leave rules) (g.F.Floor.leads c.args.floor.now) (g.R.Rules.enter rules) in
    let goal = g.R.Rules.goal rules in
    let left = c.reach_goals.new.room in
    let none : left.reached ≡ 0 = omega arith in
    let state : Explored n step goal n (at left.steps) (at left.queue) 0 0 = rw (c.count-count.ensures, none) at (c.reach_goals.ensures.goals step) in
    let count = c.count-count.result in
    let old = c.args.room.now.steps in
    let filled = c.fill.new.self in
    let few = g.met.F.Floor.few c.args.floor.now in
    let size : length filled ≡ count = omega (arith, length-take-le count old (omega arith)) in
    record {
      shortest = shortest n step goal 0 (at left.steps) (at left.queue) state;
      rest = λ k h. c.reach_goals.ensures.rest k (omega arith) ∙ put_after 0 count old filled (omega arith) size k (omega arith);
    }
