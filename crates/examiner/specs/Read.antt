-- What an examination reads: the words of the findings book, and the model.
use Rattle.std.specs.Prelude.{ℕ, ◌*◌, Bool, List, slice_index}
use Rattle.examiner.specs.declared.words.Findings.{Findings}
use Rattle.examiner.specs.declared.words.PointWords.{PointWords}
use Rattle.model.specs.Books.{finding_in, model_of}
use Rattle.model.specs.Logic.{Model}
use Rattle.model.specs.Table.{Plane}

-- the words of a findings book, by line, day and point
abbrev pub words_of : Findings → ℕ → Plane
words_of findings = finding_in findings.words.now findings.numbers.points findings.numbers.days

-- the model of a floor and a calendar with so many points and days as the book's survey, and of the readings
abbrev pub model_for : Findings → (ℕ → ℕ → Bool) → (ℕ → ℕ → Bool) → List ℕ → Model
model_for findings leads after readings =
    model_of findings.numbers.points leads findings.numbers.days after readings

-- the words of a line at one point, by the day
abbrev pub by_day : PointWords → ℕ → ℕ
by_day column e = slice_index column.words.now (e * column.points)
