-- Each goal is reached in its turn.
use Rattle.std.proofs.Common.{◌<◌, refl, ◌∙◌, arith}
use Rattle.engine.proofs.Exploring.{begun_none, begun_left, begun_skip, begun_more, begun_end}
use Rattle.engine.proofs.exploration.reach_goals.Goals as goal
use Rattle.engine.proofs.exploration.reach_goals.Goals.{then-is_goal, else-is_goal}

pub loop-x-init : goal.loop-x-init
loop-x-init g c = (
  rw c.requires.none.1 (begun_none c.args.count (g.R.Rules.goal c.args.rules.now) c.args.room.now.steps c.args.room.now.queue c.requires.none.0),
  λ k h. refl,
)

pub reach-requires : goal.reach-requires
reach-requires g c =
    let l = c.loop-x in
    let left = begun_left c.args.count (g.R.Rules.goal c.args.rules.now) l.x l.room.reached l.room.steps l.room.queue (omega arith) l.invariant.0 in
    (omega arith, omega arith)

pub loop-x-preserved : goal.loop-x-preserved
loop-x-preserved g c =
    let l = c.loop-x in
    let n = c.args.count in
    let goal = g.R.Rules.goal c.args.rules.now in
    let steps = l.room.steps in
    let queue = l.room.queue in
    let below : l.x < n = omega arith in
    let left = begun_left n goal l.x l.room.reached steps queue below l.invariant.0 in
    elim c.if-is_goal.branch [
      | then-is_goal w ↦
          rw w.room-is (
            rw w.reach.ensures.counted
                (begun_more n goal l.x l.room.reached steps queue below l.invariant.0 w.reach.new.self.steps w.reach.new.self.queue w.reach.ensures.noted w.reach.ensures.queued w.if-is_goal.ensures),
            λ k h. w.reach.ensures.noted.1 k (omega arith) ∙ l.invariant.1 k h,
          )
      | else-is_goal w ↦
          rw w.room-is (begun_skip n goal l.x l.room.reached steps queue below l.invariant.0 w.if-is_goal.ensures, l.invariant.1)
    ]

pub returns : goal.returns
returns g c =
    let l = c.loop-x in
    record {
      goals = begun_end c.args.count (g.R.Rules.goal c.args.rules.now) l.x l.room.reached l.room.steps l.room.queue (omega arith) l.invariant.0;
      rest = l.invariant.1;
    }
