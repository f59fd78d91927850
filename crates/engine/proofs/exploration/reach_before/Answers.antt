-- Each point that leads to the head is reached in its turn, or is reached already, or may not be left.
use Rattle.std.proofs.Common.{◌≡◌, ◌<◌, true, Some, None, get_or, sym, ◌∙◌, arith}
use Rattle.std.proofs.lemmas.Bool.{both_ways}
use Rattle.engine.specs.Exploring.{step_by, at}
use Rattle.engine.proofs.Exploring.{a_step, not_left, not_led, place_left, enter_skip, enter_reach, enter_end}
use Rattle.engine.proofs.Moving.{told}
use Rattle.engine.proofs.exploration.reach_before.Goals as goal
use Rattle.engine.proofs.exploration.reach_before.Goals.{else-room-x-via-then-room-x+else-may_leave, else-room-x-via-else-room-x}

pub reach-requires : goal.reach-requires
reach-requires g c =
    let l = c.loop-x in
    let floor = c.args.floor.now in
    let rules = c.args.rules.now in
    let n = g.F.Floor.points floor in
    let step = step_by (g.R.Rules.leave rules) (g.F.Floor.leads floor) (g.R.Rules.enter rules) in
    let few = g.met.F.Floor.few floor in
    let next = told l.x-iterator.from (Some c.in-Some.x) l.invariant.0 l.invariant.1 c.in-Some.ensures.steps.2 in
    let left = place_left n step (g.R.Rules.goal rules) n c.args.head l.room.reached (at l.room.steps) (at l.room.queue) l.invariant.2.state c.in-Some.x next.1 (c.if-room-x.true ∙ c.count-count.ensures) in
    (omega arith, omega arith)

pub loop-x-preserved : goal.loop-x-preserved
loop-x-preserved g c =
    let l = c.loop-x in
    let floor = c.args.floor.now in
    let rules = c.args.rules.now in
    let n = g.F.Floor.points floor in
    let leave = g.R.Rules.leave rules in
    let leads = g.F.Floor.leads floor in
    let enter = g.R.Rules.enter rules in
    let step = step_by leave leads enter in
    let steps = l.room.steps in
    let x = c.in-Some.x in
    let y = get_or c.args.room.now.queue c.args.head 0 in
    let next = told l.x-iterator.from (Some x) l.invariant.0 l.invariant.1 c.in-Some.ensures.steps.2 in
    let old : step x y ≡ true → get_or steps x 0 < n = λ s.
    elim c.else-room-x.branch [
      | else-room-x-via-then-room-x+else-may_leave w ↦ absurd (both_ways (step x y) (not_left leave leads enter x y (sym w.if-may_leave.ensures)) s)
      | else-room-x-via-else-room-x w ↦ omega (arith, l.invariant.2.state.limit x next.1, w.if-room-x.false, c.count-count.ensures)
    ] in (
      c.in-Some.ensures.steps.0 ∙ l.invariant.0,
      c.in-Some.ensures.steps.1 ∙ l.invariant.1,
      rw c.in-Some.ensures.steps.3
          (enter_skip n step (g.R.Rules.goal rules) (at steps) (at l.room.queue) c.args.head l.room.reached y _ l.x-iterator.from l.invariant.2 x next.1
          (λ k h b. not_led leave leads enter k y (next.3 k h b)) old),
      l.invariant.3,
    )

pub loop-x-preserved-then-may_leave : goal.loop-x-preserved-then-may_leave
loop-x-preserved-then-may_leave g c =
    let l = c.loop-x in
    let floor = c.args.floor.now in
    let rules = c.args.rules.now in
    let n = g.F.Floor.points floor in
    let leave = g.R.Rules.leave rules in
    let leads = g.F.Floor.leads floor in
    let enter = g.R.Rules.enter rules in
    let x = c.in-Some.x in
    let y = get_or c.args.room.now.queue c.args.head 0 in
    let next = told l.x-iterator.from (Some x) l.invariant.0 l.invariant.1 c.in-Some.ensures.steps.2 in
    let noted = c.reach.ensures.noted in
    let queued = c.reach.ensures.queued in (
      c.in-Some.ensures.steps.0 ∙ l.invariant.0,
      c.in-Some.ensures.steps.1 ∙ l.invariant.1,
      rw (c.in-Some.ensures.steps.3, c.reach.ensures.counted)
          (enter_reach n (step_by leave leads enter) (g.R.Rules.goal rules) (at l.room.steps) (at l.room.queue) c.args.head l.room.reached y _ l.x-iterator.from l.invariant.2 x next.1
          (λ k h b. not_led leave leads enter k y (next.3 k h b)) (c.if-room-x.true ∙ c.count-count.ensures)
          (a_step leave leads enter x y (sym c.if-may_leave.ensures) next.2 (sym c.if-may_enter.ensures))
          (at c.reach.new.self.steps) (at c.reach.new.self.queue) noted.0 noted.1 queued.0 queued.1),
      λ k h. noted.1 k (omega (arith, next.1)) ∙ l.invariant.3 k h,
    )

pub returns-in-None : goal.returns-in-None
returns-in-None g c =
    let l = c.loop-x in
    let floor = c.args.floor.now in
    let rules = c.args.rules.now in
    let leave = g.R.Rules.leave rules in
    let leads = g.F.Floor.leads floor in
    let enter = g.R.Rules.enter rules in
    let y = get_or c.args.room.now.queue c.args.head 0 in
    let none = told l.x-iterator.from None l.invariant.0 l.invariant.1 c.in-None.ensures.steps.2 in
    record {
      state = enter_end (g.F.Floor.points floor) (step_by leave leads enter) (g.R.Rules.goal rules) (at l.room.steps) (at l.room.queue) c.args.head l.room.reached y _ l.x-iterator.from l.invariant.2
          (λ x h b. not_led leave leads enter x y (none x h b));
      rest = l.invariant.3;
    }
