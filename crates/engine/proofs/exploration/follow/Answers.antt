-- At the end of the queue, and where all points that can be reached are, nothing is missing.
use Rattle.std.proofs.Common.{◌≡◌, ℕ, true, arith}
use Rattle.std.proofs.lemmas.Bool.{and_parts}
use Rattle.engine.specs.Exploring.{step_by, at, Explored}
use Rattle.engine.proofs.AllReached.{all_reached}
use Rattle.engine.proofs.Exploring.{shortest}
use Rattle.engine.proofs.exploration.follow.Goals as goal

pub returns-after-loop-head : goal.returns-after-loop-head
returns-after-loop-head g c =
    let l = c.loop-head in
    let n = g.F.Floor.points c.args.floor.now in
    let step = step_by (g.R.Rules.leave c.args.rules.now) (g.F.Floor.leads c.args.floor.now) (g.R.Rules.enter c.args.rules.now) in
    let goal = g.R.Rules.goal c.args.rules.now in
    let e : l.head ≡ l.room.reached = omega (arith, l.invariant.0.order) in
    let state : Explored n step goal n (at l.room.steps) (at l.room.queue) l.room.reached l.room.reached = rw e at l.invariant.0 in
    record { shortest = shortest n step goal l.room.reached (at l.room.steps) (at l.room.queue) state; rest = l.invariant.1 }

pub returns-else-room-most : goal.returns-else-room-most
returns-else-room-most g c =
    let l = c.loop-head in
    let n = g.F.Floor.points c.args.floor.now in
    let leave = g.R.Rules.leave c.args.rules.now in
    let step = step_by leave (g.F.Floor.leads c.args.floor.now) (g.R.Rules.enter c.args.rules.now) in
    let goal = g.R.Rules.goal c.args.rules.now in
    let left_first : (x y : ℕ) → step x y ≡ true → leave x ≡ true = λ x y s. (and_parts (leave x) _ s).0 in
    let most = rw c.count.ensures at c.most_reached-most.ensures in
    let state = all_reached n step leave goal left_first l.head l.room.reached (at l.room.steps) (at l.room.queue) l.invariant.0 (omega arith) in
    record { shortest = shortest n step goal l.room.reached (at l.room.steps) (at l.room.queue) state; rest = l.invariant.1 }
