use Rattle.std.proofs.Common.{◌≡◌, ◌≤◌, false, ◌&&◌, get_or}
use Rattle.model.specs.Numbers.{any, highest}
use Rattle.engine.specs.Settling.{open_in}
use Rattle.engine.proofs.awaited.next_wait.Given as goal

-- the days before the iterator's place that come after d are settled, and this is their highest wait
abbrev pub invariant-loop-e : goal.invariant-loop-e
invariant-loop-e g l =
    let n = g.C.Floor.points l.calendar in
    let after = g.C.Floor.leads l.calendar in
    let from = l.e-iterator.from in
    (g.C.Floor.points l.e-iterator.floor.now ≡ n)
    × (g.C.Floor.leads l.e-iterator.floor.now l.e-iterator.point ≡ after l.d)
    × (from ≤ n)
    × (l.highest ≤ n)
    × (l.highest ≡ highest from (after l.d) (λ e. get_or l.waits e 0))
    × (any from (λ e. after l.d e && open_in n l.waits e) ≡ false)
