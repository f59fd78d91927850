-- Lines: when one is lawful, and the formula that it stands for.
use Rattle.std.specs.Prelude.{◌≡◌, ℕ, zero, suc, ◌<◌, Bool, true, false, cond, ◌&&◌, List, Some, None, Option, ◌==◌, nat_lt, slice_index_or}
use Rattle.model.specs.declared.kind.Kind.{Kind}
use Rattle.model.specs.declared.kind.Kind.TheVariants.{Truth, Reading, Not, Or, Near, Surrounded, Next, Until, Awaited}
use Rattle.model.specs.declared.kind.Operand.{Operand}
use Rattle.model.specs.declared.kind.Operand.TheVariants.{Unused, Atom, Lower}
use Rattle.model.specs.declared.kind.KindRow.{KindRow}
use Rattle.model.specs.declared.line.Line.{Line}
use Rattle.model.specs.Kinds.{kind_row}
use Rattle.model.specs.Logic.{Formula, truth, atom, neg, disj, near, surrounded, next, until, awaited}

-- line number i of a list; past its end a blank one, which is of no kind
abbrev pub line_at : List Line → ℕ → Line
line_at lines i = slice_index_or lines i (record { kind = 0; left = 0; right = 0 })

-- the operand of line i is as its kind wants it
abbrev pub operand_ok : Operand → ℕ → ℕ → Bool
operand_ok Unused i value = value == 0
operand_ok Atom i value = nat_lt value 32
operand_ok Lower i value = nat_lt value i

-- the letter is in the table, and both operands are as its row wants them
abbrev pub row_ok : Option KindRow → ℕ → Line → Bool
row_ok None i line = false
row_ok (Some row) i line = operand_ok row.left i line.left && operand_ok row.right i line.right

abbrev pub line_ok : ℕ → Line → Bool
line_ok i line = row_ok (kind_row line.kind) i line

-- the first `count` lines of the list are lawful
abbrev pub LawfulLines : List Line → ℕ → Type 0
LawfulLines lines count = (i : ℕ) → i < count → line_ok i (line_at lines i) ≡ true

-- the operands of line i are as its kind reads them: lower lines, or an atom
abbrev pub Operands : Kind → ℕ → ℕ → ℕ → Type 0
Operands Truth i left right = Unit {0}
Operands Reading i left right = left < 32
Operands Not i left right = left < i
Operands Or i left right = (left < i) × (right < i)
Operands Near i left right = left < i
Operands Surrounded i left right = (left < i) × (right < i)
Operands Next i left right = left < i
Operands Until i left right = (left < i) × (right < i)
Operands Awaited i left right = left < i

-- what each of the first k lines has, built from what the lines below it have
abbrev pub built : {A : Type 0} → A → ((ℕ → A) → ℕ → A) → ℕ → ℕ → A
built none step zero i = none
built none step (suc k) i = cond (i == k) (step (built none step k) k) (built none step k i)

-- the formula of a kind, over the formulas of the lines below
abbrev pub kind_formula : Kind → (ℕ → Formula) → ℕ → ℕ → Formula
kind_formula Truth lower left right = truth
kind_formula Reading lower left right = atom left
kind_formula Not lower left right = neg (lower left)
kind_formula Or lower left right = disj (lower left) (lower right)
kind_formula Near lower left right = near (lower left)
kind_formula Surrounded lower left right = surrounded (lower left) (lower right)
kind_formula Next lower left right = next (lower left)
kind_formula Until lower left right = until (lower left) (lower right)
kind_formula Awaited lower left right = awaited (lower left)

abbrev pub row_formula : Option KindRow → (ℕ → Formula) → Line → Formula
row_formula None lower line = truth
row_formula (Some row) lower line = kind_formula row.kind lower line.left line.right

-- the formula of line i
abbrev pub formula_of : List Line → ℕ → Formula
formula_of lines i =
    built truth (λ lower k. row_formula (kind_row (line_at lines k).kind) lower (line_at lines k)) (suc i) i
