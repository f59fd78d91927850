-- Each pass starts from what the one before it left; the last one changes nothing.
use Rattle.std.proofs.Common.{refl}
use Rattle.engine.proofs.Settling.{sound_first, sound_same, sound_on, same_on, settled_at_rest}
use Rattle.engine.proofs.awaited.settle.Goals as goal

pub loop-init : goal.loop-init
loop-init g c =
    let calendar = c.args.calendar.now in
    (sound_first (g.C.Floor.points calendar) (g.C.Floor.leads calendar) c.args.waits.now (g.met.C.Floor.some calendar) c.requires.marked, λ e. refl)

pub pass-requires-clause-sound : goal.pass-requires-clause-sound
pass-requires-clause-sound g c =
    let calendar = c.args.calendar.now in
    sound_same (g.C.Floor.points calendar) (g.C.Floor.leads calendar) c.args.waits.now c.loop.waits c.loop.invariant.1 c.loop.invariant.0

pub loop-preserved : goal.loop-preserved
loop-preserved g c =
    let calendar = c.args.calendar.now in
    let n = g.C.Floor.points calendar in
    let after = g.C.Floor.leads calendar in
    let first = c.args.waits.now in
    let l = c.loop in
    let last = c.pass.new.waits in
    (sound_on n after first l.waits last c.pass.result c.pass.ensures l.invariant.1, same_on n after first l.waits last c.pass.result c.pass.ensures l.invariant.1)

pub returns : goal.returns
returns g c =
    let calendar = c.args.calendar.now in
    settled_at_rest (g.C.Floor.points calendar) (g.C.Floor.leads calendar) (g.met.C.Floor.inside calendar) (g.met.C.Calendar.unending calendar) (g.met.C.Floor.some calendar) c.args.waits.now c.loop.waits c.pass.new.waits c.loop-test.ensures c.loop.invariant.1
