-- What a replay of a list of events comes to.
use Rattle.std.specs.Prelude.{◌≡◌, ℕ, ◌*◌, ◌<◌, Bool, false, List, length, take, Some, None, Option, slice_index_or}
use Rattle.model.specs.declared.line.Line.{Line}
use Rattle.engine.specs.Filling.{Written}
use Rattle.journal.specs.declared.event.Event.{Event}
use Rattle.journal.specs.declared.event.Event.TheVariants.{Work}
use Rattle.journal.specs.Worlds.{World, fits, Life}

-- the world that an opening makes: an open survey without lines, every word of its readings zero, and all else as it was
pub record Opened (n m : ℕ) (readings : List ℕ) (lines : List Line) (findings strip : List ℕ) (w : World) : Type 0 where
  pub is : w ≡ record { worked = false; points = n; days = m; count = 0; readings = w.readings; lines = lines; findings = findings; strip = strip }
  pub cleared : Written 0 (m * n) (λ _. 0) readings w.readings
  pub long : length w.readings ≡ length readings

-- the events that were performed: all of them, or those before the one that did not fit
abbrev pub performed : Option ℕ → List Event → List Event
performed None events = events
performed (Some i) events = take i events

-- the number is that of an event that does not fit the state in which the survey then is
abbrev pub Stopped : Option ℕ → List Event → World → Type 0
Stopped None events w = Unit {0}
Stopped (Some i) events w = (i < length events) × (fits w.worked (slice_index_or events i Work) ≡ false)

-- the events that were performed made this world, and the next one, if any, does not fit
pub record Lived (n : ℕ) (leads : ℕ → ℕ → Bool) (m : ℕ) (after : ℕ → ℕ → Bool) (w : World) (events : List Event) (stopped : Option ℕ) (v : World) : Type 0 where
  pub life : Life n leads m after w (performed stopped events) v
  pub stop : Stopped stopped events v
