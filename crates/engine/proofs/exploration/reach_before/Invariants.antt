use Rattle.std.proofs.Common.{◌≡◌}
use Rattle.model.specs.Relations.{turned}
use Rattle.engine.specs.Exploring.{step_by, at, SameFrom}
use Rattle.engine.proofs.Exploring.{Entering}
use Rattle.engine.proofs.exploration.reach_before.Given as goal

-- the points before the iterator's place are looked at
abbrev pub invariant-loop-x : goal.invariant-loop-x
invariant-loop-x g l =
    (g.F.Floor.points l.x-iterator.floor.now ≡ g.F.Floor.points l.floor)
    × (turned (g.F.Floor.leads l.x-iterator.floor.now) l.x-iterator.point ≡ turned (g.F.Floor.leads l.floor) l.y)
    × Entering (g.F.Floor.points l.floor) (step_by (g.R.Rules.leave l.rules) (g.F.Floor.leads l.floor) (g.R.Rules.enter l.rules)) (g.R.Rules.goal l.rules)
    (at l.room.steps) (at l.room.queue) l.head l.room.reached l.y l.value l.x-iterator.from
    × SameFrom (g.F.Floor.points l.floor) l.initial.room.steps l.room.steps
