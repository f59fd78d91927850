-- The first false place of a day, of a line and of the lines, if there is one.
use Rattle.std.specs.Prelude.{◌≡◌, ℕ, ◌<◌, List, Some, None, Option}
use Rattle.model.specs.declared.answers.Place.{Place}
use Rattle.model.specs.declared.line.Line.{Line}
use Rattle.model.specs.Entries.{row_entry}
use Rattle.model.specs.Kinds.{kind_row}
use Rattle.model.specs.Lines.{line_at}
use Rattle.model.specs.Logic.{Model}
use Rattle.model.specs.Table.{Plane}

-- the word that the entry rule wants of a line that is number i, on day d at point x
abbrev pub wanted : Model → Line → (ℕ → Plane) → ℕ → Plane
wanted M line words i d x = row_entry M (kind_row line.kind) words line (words i) d x

-- the book has that word there
abbrev pub TrueAt : Model → Line → (ℕ → Plane) → ℕ → ℕ → ℕ → Type 0
TrueAt M line words i d x = words i d x ≡ wanted M line words i d x

-- the first false point of line i on day d
unfoldable pub FalsePoint : Model → Line → (ℕ → Plane) → ℕ → ℕ → Option ℕ → Type 0
FalsePoint M line words i d None = (x : ℕ) → x < M.points → TrueAt M line words i d x
FalsePoint M line words i d (Some x) =
    (x < M.points) × (TrueAt M line words i d x → ⊥) × ((y : ℕ) → y < x → TrueAt M line words i d y)

-- the first false day of line i, and its first false point
unfoldable pub FalseDay : Model → Line → (ℕ → Plane) → ℕ → Option (ℕ × ℕ) → Type 0
FalseDay M line words i None = (d : ℕ) → d < M.days → FalsePoint M line words i d None
FalseDay M line words i (Some p) =
    (p.0 < M.days) × FalsePoint M line words i p.0 (Some p.1) × ((e : ℕ) → e < p.0 → FalsePoint M line words i e None)

-- the first false line among the first `count`, its first false day and that day's first false point
unfoldable pub FalseLine : Model → List Line → (ℕ → Plane) → ℕ → Option Place → Type 0
FalseLine M lines words count None = (i : ℕ) → i < count → FalseDay M (line_at lines i) words i None
FalseLine M lines words count (Some p) =
    (p.line < count)
    × FalseDay M (line_at lines p.line) words p.line (Some (p.day, p.point))
    × ((j : ℕ) → j < p.line → FalseDay M (line_at lines j) words j None)
