-- The ledger: what the arguments of the events alone make of a survey's readings and lines, without any answer or book.
use Rattle.std.specs.Prelude.{ℕ, Bool, false, cond, ◌&&◌, List, [], ◌∷◌, ◌++◌, length, Option, ◌==◌, nat_le}
use Rattle.model.specs.declared.line.Line.{Line}
use Rattle.model.specs.declared.refusal.Refusal.{Refusal}
use Rattle.model.specs.declared.refusal.Refusal.TheVariants.{LinesFull}
use Rattle.model.specs.Calls.{on_map, on_scale, reaches_level, unless_refused}
use Rattle.model.specs.Logic.{Model}
use Rattle.model.specs.Refusals.{where_so, or_else, line_refusal}
use Rattle.journal.specs.declared.event.Event.{Event}
use Rattle.journal.specs.declared.event.Event.TheVariants.{Record, Gauge, Phrase, Work, Ask, Show, Examine, ExamineOther, Reopen}

pub record Ledger : Type 0 where
  pub points : ℕ
  pub days : ℕ
  pub reading : ℕ → ℕ → ℕ → Bool
  pub lines : List Line

-- at the opening every reading is no, and there are no lines
abbrev pub opening : ℕ → ℕ → Ledger
opening points days = record { points = points; days = days; reading = λ d x a. false; lines = [] }

-- one reading has its new yes or no
abbrev pub with_reading : ℕ → ℕ → ℕ → Bool → Ledger → Ledger
with_reading day point atom value L = record {
  points = L.points;
  days = L.days;
  reading = λ d x a. cond (d == day && (x == point && a == atom)) value (L.reading d x a);
  lines = L.lines;
}

-- one line more at the end
abbrev pub with_line : Line → Ledger → Ledger
with_line line L = record { points = L.points; days = L.days; reading = L.reading; lines = L.lines ++ line ∷ [] }

-- a line by its parts
abbrev pub line_of : ℕ → ℕ → ℕ → Line
line_of kind left right = record { kind = kind; left = left; right = right }

-- a line is refused after 64 lines, or where it is not lawful
abbrev pub ledger_refusal : Ledger → Line → Option Refusal
ledger_refusal L line = or_else (where_so (nat_le 64 (length L.lines)) LinesFull) (line_refusal (length L.lines) line)

-- what an event makes of the ledger: record and gauge give one reading its new yes or no, phrase adds a line at the end; where the arguments or the number of lines are refused nothing changes, and the other events never change it
abbrev pub noted : Ledger → Event → Ledger
noted L (Record at value) = cond (on_map L.points L.days at.day at.point at.atom) (with_reading at.day at.point at.atom value L) L
noted L (Gauge at tenths level) =
    cond (on_map L.points L.days at.day at.point at.atom && on_scale tenths level) (with_reading at.day at.point at.atom (reaches_level tenths level) L) L
noted L (Phrase kind left right) = unless_refused (ledger_refusal L (line_of kind left right)) (with_line (line_of kind left right) L) L
noted L Work = L
noted L (Ask place) = L
noted L (Show place) = L
noted L Examine = L
noted L (ExamineOther book) = L
noted L Reopen = L

-- what a list of events makes of it, in order
abbrev pub ledger_after : Ledger → List Event → Ledger
ledger_after L [] = L
ledger_after L (event ∷ events) = ledger_after (noted L event) events

-- the model of a ledger on a floor of n points and a calendar of m days
abbrev pub ledger_model : ℕ → (ℕ → ℕ → Bool) → ℕ → (ℕ → ℕ → Bool) → Ledger → Model
ledger_model n leads m after L = record { points = n; leads = leads; days = m; after = after; reading = L.reading }
