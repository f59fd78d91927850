-- The ledger and the world agree at the opening and after every event that was performed, and so the law holds.
use Rattle.std.proofs.Common.{◌≡◌, ℕ, false, List, sym, refl}
use Rattle.model.specs.declared.line.Line.{Line}
use Rattle.journal.specs.Ledgers.{opening, ledger_after}
use Rattle.journal.specs.Replays.{performed, Opened, Lived}
use Rattle.journal.specs.Worlds.{World, world_of}
use Rattle.journal.specs.declared.survey.Survey.TheVariants as state
use Rattle.journal.proofs.Agreement.{agrees_opening, agrees_life}
use Rattle.journal.proofs.WholeLife.{whole_life}
use Rattle.journal.proofs.replaying.replay.Goals as goal

-- a world with the opening's numbers
numbered : (readings : List ℕ) (lines : List Line) (findings strip : List ℕ) (p d k n m : ℕ) → p ≡ n → d ≡ m → k ≡ 0
    → ◌≡◌ {A = World} (record { worked = false; points = p; days = d; count = k; readings = readings; lines = lines; findings = findings; strip = strip }) (record { worked = false; points = n; days = m; count = 0; readings = readings; lines = lines; findings = findings; strip = strip })
numbered readings lines findings strip p d k n m a b c = rw (a, b, c) refl

pub returns : goal.returns
returns g c =
    let n = g.F.Floor.points c.args.floor.now in
    let leads = g.F.Floor.leads c.args.floor.now in
    let m = g.C.Floor.points c.args.calendar.now in
    let after = g.C.Floor.leads c.args.calendar.now in
    let readings = c.args.readings.now in
    let lines = c.args.lines.now in
    let findings = c.args.findings.now in
    let strip = c.args.strip.now in
    let events = c.args.events.now in
    let e = c.in_ok-open.ensures in
    let o = c.in_ok-open.open in
    let w = world_of (state.Open o) c.open.new.readings lines findings strip in
    let v = world_of c.perform.result.survey c.perform.new.readings c.perform.new.lines c.perform.new.findings c.perform.new.strip in
    let opened : Opened n m readings lines findings strip w = record {
      is = numbered c.open.new.readings lines findings strip o.numbers.points o.numbers.days o.numbers.lines n m e.points e.days e.lines;
      cleared = e.cleared;
      long = c.open.auto.readings;
    } in
    let lived : Lived n leads m after w events c.perform.result.stopped v = c.perform.ensures in
    let done = performed c.perform.result.stopped events in
    let agrees = agrees_life n leads m after done (opening n m) w v (agrees_opening n leads m after readings lines findings strip w (sym e.refusal) opened) lived.life in
    record {
      refusal = e.refusal;
      kept = tt;
      lived = (w, opened, lived);
      law = whole_life n leads m after (g.met.F.Floor.inside c.args.floor.now) (g.met.C.Floor.inside c.args.calendar.now) (g.met.C.Calendar.unending c.args.calendar.now) (ledger_after (opening n m) done) v agrees;
    }
