use Rattle.model.specs.Table.{says_yes}
use Rattle.engine.specs.Exploring.{at}
use Rattle.engine.specs.Strips.{next_no}
use Rattle.engine.proofs.Circling.{Going}
use Rattle.engine.proofs.circle.go_round.Given as goal

-- the first i days are gone through, and d is the next
abbrev pub invariant-loop-i : goal.invariant-loop-i
invariant-loop-i g l =
    let m = g.C.Floor.points l.calendar in
    Going m (next_no m (g.C.Floor.leads l.calendar) (at l.own)) (λ e. says_yes (at l.left e)) l.start l.i l.days l.d
