-- What the operands of a lawful line are: as its kind reads them, and so lower lines where they are lines.
use Rattle.std.proofs.Common.{◌≡◌, ℕ, true, false, Some, Option, refl, subst}
use Rattle.std.proofs.lemmas.Bool.{both_ways}
use Rattle.model.specs.declared.kind.Kind.{Kind}
use Rattle.model.specs.declared.kind.Kind.TheVariants.{Truth, Reading, Not, Or, Near, Surrounded, Next, Until, Awaited}
use Rattle.model.specs.declared.kind.KindRow.{KindRow}
use Rattle.model.specs.declared.line.Line.{Line}
use Rattle.model.specs.Kinds.{kinds, kind_row}
use Rattle.model.specs.Lines.{row_ok, Operands}
use Rattle.model.proofs.Unfolding.{Below, among, left_below, both_below}

-- a lawful line's operands are as its kind reads them
abbrev ReadSo : ℕ → Line → Option KindRow → Type 0
ReadSo i line o = row_ok o i line ≡ true → (row : KindRow) → o ≡ Some row → Operands row.kind i line.left line.right

same_row : (a b : KindRow) → ◌≡◌ {A = Option KindRow} (Some a) (Some b) → a ≡ b
same_row a b e = cc

by_row : (i : ℕ) (line : Line) (r : KindRow) → (row_ok (Some r) i line ≡ true → Operands r.kind i line.left line.right) → ReadSo i line (Some r)
by_row i line r f h row e = subst (λ (q : KindRow). Operands q.kind i line.left line.right) (same_row r row e) (f h)

pub read_so : (i : ℕ) (line : Line) (letter : ℕ) → ReadSo i line (kind_row letter)
read_so i line =
    among (ReadSo i line) kinds (λ h. absurd (both_ways false refl h)) (
      by_row i line _ (λ h. tt),
      (
        by_row i line _ (left_below 32 line.left _),
        (
          by_row i line _ (left_below i line.left _),
          (
            by_row i line _ (both_below i line.left line.right),
            (
              by_row i line _ (left_below i line.left _),
              (
                by_row i line _ (both_below i line.left line.right),
                (
                  by_row i line _ (left_below i line.left _),
                  (
                    by_row i line _ (both_below i line.left line.right),
                    (by_row i line _ (left_below i line.left _), tt),
                  ),
                ),
              ),
            ),
          ),
        ),
      ),
    )

-- and so the lines among them are lower ones
pub operands_below : (kind : Kind) (i l r : ℕ) → Operands kind i l r → Below kind i l r
operands_below Truth i l r o = tt
operands_below Reading i l r o = tt
operands_below Not i l r o = o
operands_below Or i l r o = o
operands_below Near i l r o = o
operands_below Surrounded i l r o = o
operands_below Next i l r o = o
operands_below Until i l r o = o
operands_below Awaited i l r o = o
