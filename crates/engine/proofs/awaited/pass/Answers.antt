-- Each day is settled or left as it is.
use Rattle.std.proofs.Common.{◌≡◌, ◌+◌, ◌-◌, subst, arith}
use Rattle.engine.specs.Settling.{Passed}
use Rattle.engine.proofs.Settling.{passed_settled}
use Rattle.engine.proofs.awaited.pass.Goals as goal

pub loop-d-preserved-in-Some : goal.loop-d-preserved-in-Some
loop-d-preserved-in-Some g c =
    let calendar = c.args.calendar.now in
    let n = g.C.Floor.points calendar in
    let after = g.C.Floor.leads calendar in
    let l = c.loop-d in
    let e : l.d ≡ l.d - 1 + 1 = omega arith in
    passed_settled n after (l.d - 1) c.args.waits.now l.waits (g.met.C.Floor.inside calendar) (g.met.C.Calendar.unending calendar) (omega arith) (omega arith) (omega arith)
    c.in-Some.wait c.in-Some.ensures l.changed (subst (λ d. Passed n after d c.args.waits.now l.waits l.changed) e l.invariant)
