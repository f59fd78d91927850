-- What examine answers: a refusal, or else whether every entry is as the entry rule wants it, or the first that is not.
use Rattle.std.specs.Prelude.{◌≡◌, ℕ, ◌<◌, ◌⊎◌, List, Some, None, Option}
use Rattle.model.specs.declared.answers.Verdict.{Verdict}
use Rattle.model.specs.declared.answers.Verdict.TheVariants.{Accepted, FalseAt, Refused}
use Rattle.model.specs.declared.line.Line.{Line}
use Rattle.model.specs.declared.refusal.Refusal.{Refusal}
use Rattle.model.specs.Books.{finding_in, BookObeys}
use Rattle.model.specs.Entries.{entry}
use Rattle.model.specs.Logic.{Model}
use Rattle.model.specs.Refusals.{number_of}
use Rattle.model.specs.Table.{Plane}

-- the number of a verdict: 0 where the book is accepted, 14 where an entry is false
abbrev pub verdict_number : Verdict → ℕ
verdict_number Accepted = 0
verdict_number (FalseAt place) = 14
verdict_number (Refused why) = number_of why

-- the entry of line j, day e and point y comes before that of line i, day d and point x
abbrev pub Earlier : ℕ → ℕ → ℕ → ℕ → ℕ → ℕ → Type 0
Earlier j e y i d x = (j < i) ⊎ ((j ≡ i) × ((e < d) ⊎ ((e ≡ d) × (y < x))))

-- the first false place of a findings book: its word is not the one that the entry rule wants, and the word of every earlier place is
pub record FirstFalse (M : Model) (lines : List Line) (count : ℕ) (words : ℕ → Plane) (i d x : ℕ) : Type 0 where
  pub in_lines : i < count
  pub in_days : d < M.days
  pub in_points : x < M.points
  pub wrong : words i d x ≡ entry M lines words i d x → ⊥
  pub earlier : (j e y : ℕ) → e < M.days → y < M.points → Earlier j e y i d x → words j e y ≡ entry M lines words j e y

-- what examine answers of a findings book: the refusal where there is one; else it accepts a book that obeys the entry rule everywhere, and names the first false place of any other
abbrev pub Examined : Option Refusal → Model → List Line → ℕ → List ℕ → Verdict → Type 0
Examined (Some why) M lines count findings verdict = verdict ≡ Refused why
Examined None M lines count findings Accepted = BookObeys M lines count findings
Examined None M lines count findings (FalseAt place) =
    FirstFalse M lines count (finding_in findings M.points M.days) place.line place.day place.point
Examined None M lines count findings (Refused why) = ⊥
