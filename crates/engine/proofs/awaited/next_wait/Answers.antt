-- The days after d are met in their order.
use Rattle.std.proofs.Common.{◌≡◌, Some, None, max, get_or, sym, ap, ◌∙◌, arith}
use Rattle.engine.proofs.Moving.{told}
use Rattle.engine.proofs.Settling.{next_open, open_more, highest_more, next_all}
use Rattle.engine.proofs.awaited.next_wait.Goals as goal

pub returns-then-wait-days : goal.returns-then-wait-days
returns-then-wait-days g c =
    let calendar = c.args.calendar.now in
    let i = c.loop-e.invariant in
    let next = told c.loop-e.e-iterator.from (Some c.in-Some.e) i.0 i.1 c.in-Some.ensures.steps.2 in
    next_open (g.C.Floor.points calendar) (g.C.Floor.leads calendar) c.args.waits.now c.args.d c.in-Some.e next.1 next.2 (omega arith)

pub loop-e-preserved : goal.loop-e-preserved
loop-e-preserved g c =
    let calendar = c.args.calendar.now in
    let n = g.C.Floor.points calendar in
    let after = g.C.Floor.leads calendar in
    let waits = c.args.waits.now in
    let l = c.loop-e in
    let i = l.invariant in
    let from = l.e-iterator.from in
    let e = c.in-Some.e in
    let next = told from (Some e) i.0 i.1 c.in-Some.ensures.steps.2 in
    let more = highest_more n after waits c.args.d from e next.0 next.2 next.3 in
    let higher : c.max-highest.result ≡ max l.highest (get_or waits e 0) = omega arith in (
      c.in-Some.ensures.steps.0 ∙ i.0,
      c.in-Some.ensures.steps.1 ∙ i.1,
      rw c.in-Some.ensures.steps.3 (omega arith),
      omega arith,
      rw c.in-Some.ensures.steps.3 (higher ∙ ap (λ x. max x (get_or waits e 0)) i.4 ∙ sym more),
      rw c.in-Some.ensures.steps.3 (open_more n after waits c.args.d from e next.0 next.3 (omega arith) i.5),
    )

pub returns : goal.returns
returns g c =
    let calendar = c.args.calendar.now in
    let l = c.loop-e in
    let i = l.invariant in
    let none = told l.e-iterator.from None i.0 i.1 c.in-None.ensures.steps.2 in
    next_all (g.C.Floor.points calendar) (g.C.Floor.leads calendar) c.args.waits.now c.args.d l.e-iterator.from l.highest i.2 none i.4 i.5
