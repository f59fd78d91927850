-- The table of kinds: for each kind of line its letter, and what its left and right must be.
use Rattle.std.specs.Prelude.{ℕ, cond, List, [], ◌∷◌, Some, None, Option, ◌==◌}
use Rattle.model.specs.declared.kind.Kind.{Kind}
use Rattle.model.specs.declared.kind.Kind.TheVariants.{Truth, Reading, Not, Or, Near, Surrounded, Next, Until, Awaited}
use Rattle.model.specs.declared.kind.Operand.{Operand}
use Rattle.model.specs.declared.kind.Operand.TheVariants.{Unused, Atom, Lower}
use Rattle.model.specs.declared.kind.KindRow.{KindRow}

-- a row of the table: letter, kind, left, right
abbrev row : ℕ → Kind → Operand → Operand → KindRow
row letter kind left right = record { letter = letter; kind = kind; left = left; right = right }

-- the letters are T P ! O N S X U F
abbrev pub kinds : List KindRow
kinds =
    row 84 Truth Unused Unused
    ∷ row 80 Reading Atom Unused
    ∷ row 33 Not Lower Unused
    ∷ row 79 Or Lower Lower
    ∷ row 78 Near Lower Unused
    ∷ row 83 Surrounded Lower Lower
    ∷ row 88 Next Lower Unused
    ∷ row 85 Until Lower Lower
    ∷ row 70 Awaited Lower Unused
    ∷ []

-- the first row with that letter
abbrev pub row_among : List KindRow → ℕ → Option KindRow
row_among [] letter = None
row_among (r ∷ rs) letter = cond (r.letter == letter) (Some r) (row_among rs letter)

-- the row of a letter, or none where the letter is not in the table
abbrev pub kind_row : ℕ → Option KindRow
kind_row letter = row_among kinds letter
