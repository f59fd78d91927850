-- Event by event.
use Rattle.std.proofs.Common.{false, List, get_or, take, sym, refl, ap, ◌∙◌, subst}
use Rattle.std.proofs.lemmas.List.{get_or_default, take_all}
use Rattle.journal.specs.declared.event.Event.{Event}
use Rattle.journal.specs.declared.event.Event.TheVariants.{Record, Work}
use Rattle.journal.specs.Worlds.{World, world_of, fits, Life}
use Rattle.journal.proofs.Lives.{life_more}
use Rattle.journal.proofs.replaying.perform.Goals as goal

-- what the prover takes for an element past the end
blank : Event
blank = Record (record { day = 0; point = 0; atom = 0 }) false

pub loop-i-init : goal.loop-i-init
loop-i-init g c = refl

pub loop-i-preserved : goal.loop-i-preserved
unfolding blank
loop-i-preserved g c =
    let n = g.F.Floor.points c.args.floor.now in
    let leads = g.F.Floor.leads c.args.floor.now in
    let m = g.C.Floor.points c.args.calendar.now in
    let after = g.C.Floor.leads c.args.calendar.now in
    let p = c.in-Ok.ensures in
    life_more n leads m after c.args.events.now c.loop-i.i blank (world_of c.args.survey c.args.readings.now c.args.lines.now c.args.findings.now c.args.strip.now)
    (world_of c.loop-i.survey c.loop-i.readings c.loop-i.lines c.loop-i.findings c.loop-i.strip) c.in-Ok.pair.1
    (world_of c.in-Ok.pair.0 c.step.new.readings c.step.new.lines c.step.new.findings c.step.new.strip)
    c.loop-i-test.true c.loop-i.invariant p.0 p.1

pub returns-in-Err : goal.returns-in-Err
unfolding blank
returns-in-Err g c =
    let n = g.F.Floor.points c.args.floor.now in
    let leads = g.F.Floor.leads c.args.floor.now in
    let m = g.C.Floor.points c.args.calendar.now in
    let after = g.C.Floor.leads c.args.calendar.now in
    let events = c.args.events.now in
    let w = world_of c.args.survey c.args.readings.now c.args.lines.now c.args.findings.now c.args.strip.now in
    let p = c.in-Err.ensures in
    record {
      life = subst (λ (u : World). Life n leads m after w (take c.loop-i.i events) u) (sym p.1) c.loop-i.invariant;
      stop = (
        c.loop-i-test.true,
        ap (λ (u : World). fits u.worked (get_or events c.loop-i.i Work)) p.1 ∙ ap (fits (world_of c.loop-i.survey c.loop-i.readings c.loop-i.lines c.loop-i.findings c.loop-i.strip).worked) (get_or_default events c.loop-i.i Work blank c.loop-i-test.true) ∙ p.0,
      );
    }

pub returns : goal.returns
returns g c =
    let n = g.F.Floor.points c.args.floor.now in
    let leads = g.F.Floor.leads c.args.floor.now in
    let m = g.C.Floor.points c.args.calendar.now in
    let after = g.C.Floor.leads c.args.calendar.now in
    let events = c.args.events.now in
    let w = world_of c.args.survey c.args.readings.now c.args.lines.now c.args.findings.now c.args.strip.now in
    let v = world_of c.loop-i.survey c.loop-i.readings c.loop-i.lines c.loop-i.findings c.loop-i.strip in
    record { life = subst (λ (es : List Event). Life n leads m after w es v) (take_all c.loop-i.i events c.loop-i-test.false) c.loop-i.invariant; stop = tt }
