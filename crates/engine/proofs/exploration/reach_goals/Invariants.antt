use Rattle.engine.specs.Exploring.{SameFrom}
use Rattle.engine.proofs.Exploring.{Begun}
use Rattle.engine.proofs.exploration.reach_goals.Given as goal

-- the goals before x are reached
abbrev pub invariant-loop-x : goal.invariant-loop-x
invariant-loop-x g l =
    Begun l.count (g.R.Rules.goal l.rules) l.x l.room.reached l.room.steps l.room.queue × SameFrom l.count l.initial.room.steps l.room.steps
