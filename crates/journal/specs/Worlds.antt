-- A survey with its books and its strip, and what one event makes of them, by what each call answers and leaves.
use Rattle.std.specs.Prelude.{◌≡◌, ℕ, ◌+◌, Bool, true, false, not, List, [], ◌∷◌, length, Some, None, Ok, Err, Option, Result, slice_set}
use Rattle.std.specs.Option.{unwrap_or}
use Rattle.model.specs.declared.answers.Finding.{Finding}
use Rattle.model.specs.declared.answers.Verdict.{Verdict}
use Rattle.model.specs.declared.line.Line.{Line}
use Rattle.model.specs.declared.refusal.Refusal.{Refusal}
use Rattle.model.specs.Books.{model_of, finding_in, WorkedOut}
use Rattle.model.specs.Calls.{answer, unless_refused, record_refusal, recorded, gauge_refusal, reaches_level, phrase_refusal, ask_refusal, finding_of}
use Rattle.model.specs.Examining as examining
use Rattle.model.specs.Refusals.{whole_refusal}
use Rattle.model.specs.Showing.{trail, show_refusal, written_on}
use Rattle.journal.specs.Ledgers.{line_of}
use Rattle.journal.specs.declared.event.Answer.{Answer}
use Rattle.journal.specs.declared.event.Answer.TheVariants.{Recorded, Phrased, Worked, Asked, Shown, Examined, Reopened}
use Rattle.journal.specs.declared.event.Event.{Event}
use Rattle.journal.specs.declared.event.Event.TheVariants.{Record, Gauge, Phrase, Work, Ask, Show, Examine, ExamineOther, Reopen}
use Rattle.journal.specs.declared.survey.Survey.{Survey}
use Rattle.journal.specs.declared.survey.Survey.TheVariants as state

-- a survey's state and numbers, its three books, and the strip
pub record World : Type 0 where
  pub worked : Bool
  pub points : ℕ
  pub days : ℕ
  pub count : ℕ
  pub readings : List ℕ
  pub lines : List Line
  pub findings : List ℕ
  pub strip : List ℕ

-- a survey with these books and this strip
abbrev pub world_of : Survey → List ℕ → List Line → List ℕ → List ℕ → World
world_of (state.Open s) readings lines findings strip = record {
  worked = false;
  points = s.numbers.points;
  days = s.numbers.days;
  count = s.numbers.lines;
  readings = readings;
  lines = lines;
  findings = findings;
  strip = strip;
}
world_of (state.Worked s) readings lines findings strip = record {
  worked = true;
  points = s.numbers.points;
  days = s.numbers.days;
  count = s.numbers.lines;
  readings = readings;
  lines = lines;
  findings = findings;
  strip = strip;
}

-- the world with another part
abbrev pub with_readings : List ℕ → World → World
with_readings readings w = record { worked = w.worked; points = w.points; days = w.days; count = w.count; readings = readings; lines = w.lines; findings = w.findings; strip = w.strip }

abbrev pub with_lines : ℕ → List Line → World → World
with_lines count lines w = record { worked = w.worked; points = w.points; days = w.days; count = count; readings = w.readings; lines = lines; findings = w.findings; strip = w.strip }

abbrev pub with_findings : Bool → List ℕ → World → World
with_findings worked findings w = record { worked = worked; points = w.points; days = w.days; count = w.count; readings = w.readings; lines = w.lines; findings = findings; strip = w.strip }

abbrev pub with_strip : List ℕ → World → World
with_strip strip w = record { worked = w.worked; points = w.points; days = w.days; count = w.count; readings = w.readings; lines = w.lines; findings = w.findings; strip = strip }

-- the event does not fit the state, and the compiler would stop it: asking, showing or reopening an open survey, and recording, gauging, phrasing or working a worked one
abbrev pub fits : Bool → Event → Bool
fits worked (Record at value) = not worked
fits worked (Gauge at tenths level) = not worked
fits worked (Phrase kind left right) = not worked
fits worked Work = not worked
fits worked (Ask place) = worked
fits worked (Show place) = worked
fits worked Examine = true
fits worked (ExamineOther book) = true
fits worked Reopen = worked

-- what ask answers of an entry
abbrev pub asked : World → ℕ → ℕ → ℕ → Result Finding Refusal
asked w line day point =
    answer (ask_refusal w.points w.days w.count (length w.findings) line day point) (finding_of (finding_in w.findings w.points w.days line day point))

-- the rest is on a floor of n points and a calendar of m days
module _ (n : ℕ) (leads : ℕ → ℕ → Bool) (m : ℕ) (after : ℕ → ℕ → Bool) where
  -- what is shown of an entry, where the findings book does not fail it
  abbrev pub shown : World → ℕ → ℕ → ℕ → Option (List ℕ)
  shown w line day point = trail w.points leads w.days after w.lines (finding_in w.findings w.points w.days) line day point

  -- why an entry is not shown on a strip of that length
  abbrev pub not_shown : World → ℕ → ℕ → ℕ → ℕ → Option Refusal
  not_shown w line day point strip =
      show_refusal w.points w.days w.count n m w.lines (length w.findings) line day point (finding_in w.findings w.points w.days line day point) strip (shown w line day point)

  -- what show answers, and what it leaves of a strip
  abbrev pub show_answer : World → ℕ → ℕ → ℕ → List ℕ → Result ℕ Refusal
  show_answer w line day point strip = answer (not_shown w line day point (length strip)) (length (unwrap_or (shown w line day point) []))

  abbrev pub show_strip : World → ℕ → ℕ → ℕ → List ℕ → List ℕ
  show_strip w line day point strip = unless_refused (not_shown w line day point (length strip)) (written_on (unwrap_or (shown w line day point) []) strip) strip

  -- why a survey with that findings book cannot be worked or examined
  abbrev pub not_whole : World → List ℕ → Option Refusal
  not_whole w findings = whole_refusal w.points w.days w.count n m (length w.readings) w.lines (length findings)

  -- what examine answers of a findings book
  abbrev pub Judges : World → List ℕ → Verdict → Type 0
  Judges w findings verdict =
      examining.Examined (not_whole w findings) (model_of n leads m after w.readings) w.lines w.count findings verdict

  -- what work makes of the world: nothing where it is refused, else every entry is written and the survey is worked
  abbrev pub Works : Option Refusal → World → World → Type 0
  Works (Some why) w v = v ≡ w
  Works None w v =
      (v ≡ with_findings true v.findings w) × (length v.findings ≡ length w.findings)
      × WorkedOut (model_of n leads m after w.readings) w.lines w.count w.findings v.findings

  -- what an event that fits makes of the world, and what it answers
  abbrev pub Stepped : World → Event → Answer → World → Type 0
  Stepped w (Record at value) a v =
      (a ≡ Recorded (answer (record_refusal w.points w.days (length w.readings) at.day at.point at.atom) tt))
      × (v ≡ with_readings (unless_refused (record_refusal w.points w.days (length w.readings) at.day at.point at.atom) (recorded w.points at.day at.point at.atom value w.readings) w.readings) w)
  Stepped w (Gauge at tenths level) a v =
      (a ≡ Recorded (answer (gauge_refusal w.points w.days (length w.readings) at.day at.point at.atom tenths level) tt))
      × (v ≡ with_readings (unless_refused (gauge_refusal w.points w.days (length w.readings) at.day at.point at.atom tenths level) (recorded w.points at.day at.point at.atom (reaches_level tenths level) w.readings) w.readings) w)
  Stepped w (Phrase kind left right) a v =
      (a ≡ Phrased (answer (phrase_refusal (length w.lines) w.count (line_of kind left right)) w.count))
      × (v ≡ with_lines (unless_refused (phrase_refusal (length w.lines) w.count (line_of kind left right)) (w.count + 1) w.count) (unless_refused (phrase_refusal (length w.lines) w.count (line_of kind left right)) (slice_set w.lines w.count (line_of kind left right)) w.lines) w)
  Stepped w Work a v = (a ≡ Worked (answer (not_whole w w.findings) tt)) × Works (not_whole w w.findings) w v
  Stepped w (Ask place) a v = (a ≡ Asked (asked w place.line place.day place.point)) × (v ≡ w)
  Stepped w (Show place) a v =
      (a ≡ Shown (show_answer w place.line place.day place.point w.strip)) × (v ≡ with_strip (show_strip w place.line place.day place.point w.strip) w)
  Stepped w Examine a v = ((verdict : Verdict) × (a ≡ Examined verdict) × Judges w w.findings verdict) × (v ≡ w)
  Stepped w (ExamineOther book) a v = ((verdict : Verdict) × (a ≡ Examined verdict) × Judges w book.now verdict) × (v ≡ w)
  Stepped w Reopen a v = (a ≡ Reopened) × (v ≡ with_findings false w.findings w)

  -- what performing an event comes to, with the world that a survey then makes with the books: where the event fits, what its call made and answered; else nothing
  abbrev pub Performs : World → Event → (Survey → World) → Result (Survey × Answer) Survey → Type 0
  Performs w event made (Ok p) = (fits w.worked event ≡ true) × Stepped w event p.1 (made p.0)
  Performs w event made (Err s) = (fits w.worked event ≡ false) × (made s ≡ w)

  -- what a list of events makes of the world, each fitting the state that it finds
  abbrev pub Life : World → List Event → World → Type 0
  Life w [] v = v ≡ w
  Life w (event ∷ events) v =
      (a : Answer) × (u : World) × (fits w.worked event ≡ true) × Stepped w event a u × Life u events v
