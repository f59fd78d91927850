-- The books: where a reading and a finding stand.
use Rattle.std.specs.Prelude.{◌≡◌, ℕ, ◌+◌, ◌*◌, ◌<◌, ◌≤◌, Bool, true, ◌↔◌, List, slice_index}
use Rattle.model.specs.declared.line.Line.{Line}
use Rattle.model.specs.Entries.{Obeys, Holds}
use Rattle.model.specs.Lines.{formula_of}
use Rattle.model.specs.Logic.{Model, Sat}
use Rattle.model.specs.Masks.{bit}
use Rattle.model.specs.Table.{says_yes, Plane}

-- the reading of an atom on day d at point x: a bit of the word at d × points + x
abbrev pub reading_in : List ℕ → ℕ → ℕ → ℕ → ℕ → Bool
reading_in readings points d x a = bit (slice_index readings (d * points + x)) a

-- the finding of line i on day d at point x: the word at (i × days + d) × points + x
abbrev pub finding_in : List ℕ → ℕ → ℕ → ℕ → Plane
finding_in findings points days i d x = slice_index findings ((i * days + d) * points + x)

-- the model of a floor, a calendar and a readings book
abbrev pub model_of : ℕ → (ℕ → ℕ → Bool) → ℕ → (ℕ → ℕ → Bool) → List ℕ → Model
model_of points leads days after readings =
    record { points = points; leads = leads; days = days; after = after; reading = reading_in readings points }

-- the findings book holds the table's word at each place of the first `count` lines
abbrev pub BookHolds : Model → List Line → ℕ → List ℕ → Type 0
BookHolds M lines count findings = Holds M lines count (finding_in findings M.points M.days)

-- the findings book obeys the entry rule there; its words are below 2 ^ 32, so a result of 2 ^ 32 or more matches none
abbrev pub BookObeys : Model → List Line → ℕ → List ℕ → Type 0
BookObeys M lines count findings = Obeys M lines count (finding_in findings M.points M.days)

-- what working the first `count` lines makes of a findings book: the table's word everywhere, so yes exactly where the line's formula is satisfied, and the surplus as it was
pub record WorkedOut (M : Model) (lines : List Line) (count : ℕ) (old new : List ℕ) : Type 0 where
  pub holds : BookHolds M lines count new
  pub means : (i d x : ℕ) → i < count → d < M.days → x < M.points
      → (says_yes (finding_in new M.points M.days i d x) ≡ true) ↔ Sat M (formula_of lines i) x d
  pub surplus : (k : ℕ) → count * (M.days * M.points) ≤ k → slice_index new k ≡ slice_index old k
