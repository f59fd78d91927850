use Rattle.std.proofs.Common.{◌-◌}
use Rattle.engine.specs.Exploring.{step_by, at, SameFrom, Explored}
use Rattle.engine.proofs.exploration.follow.Given as goal

-- the points before the head have brought in those before them
abbrev pub invariant-loop-head : goal.invariant-loop-head
invariant-loop-head g l =
    Explored (g.F.Floor.points l.floor) (step_by (g.R.Rules.leave l.rules) (g.F.Floor.leads l.floor) (g.R.Rules.enter l.rules)) (g.R.Rules.goal l.rules)
    (g.F.Floor.points l.floor) (at l.room.steps) (at l.room.queue) l.head l.room.reached
    × SameFrom (g.F.Floor.points l.floor) l.initial.room.steps l.room.steps

-- the points that have not come to the head
abbrev pub decreases-loop-head : goal.decreases-loop-head
decreases-loop-head g l = g.F.Floor.points l.floor - l.head
