-- What the table and the formula of a lawful line are, over those of the lines below it.
use Rattle.std.proofs.Common.{◌≡◌, ℕ, zero, suc, ◌<◌, Bool, true, false, ◌&&◌, eqb, ltb, List, [], ◌∷◌, Some, None, Option, sym, refl, ap, ◌∙◌, ⊎_elim, arith}
use Rattle.std.proofs.lemmas.Bool.{cases_eq, both_ways, eq-eqb, ne_eqb, and_parts, ltb-true, cond-true, cond-false, cond_both}
use Rattle.std.specs.List.{AllByRecursion as All}
use Rattle.model.specs.declared.kind.Kind.{Kind}
use Rattle.model.specs.declared.kind.Kind.TheVariants.{Truth, Reading, Not, Or, Near, Surrounded, Next, Until, Awaited}
use Rattle.model.specs.declared.kind.KindRow.{KindRow}
use Rattle.model.specs.declared.line.Line.{Line}
use Rattle.model.specs.Kinds.{kinds, row_among, kind_row}
use Rattle.model.specs.Lines.{line_at, row_ok, LawfulLines, built, kind_formula, row_formula, formula_of}
use Rattle.model.specs.Logic.{Model, Formula, truth}
use Rattle.model.specs.Table.{Plane, kind_plane, row_plane, table}

-- what is built for line j does not change once it is built
pub built_at : {A : Type 0} (none : A) (step : (ℕ → A) → ℕ → A) (k j : ℕ) → j < k → built none step k j ≡ step (built none step j) j
built_at none step zero j h = absurd (omega arith)
built_at none step (suc k) j h =
    ⊎_elim (λ (e : j ≡ k). rw e (cond-true (eqb k k) _ _ (eq-eqb k k refl)))
    (λ (ne : j ≡ k → ⊥). cond-false (eqb j k) _ _ (ne_eqb j k ne) ∙ built_at none step k j (omega arith)) (cases_eq j k)

-- what is built for line j is the same at every later stage
pub built_stable : {A : Type 0} (none : A) (step : (ℕ → A) → ℕ → A) (k j : ℕ) → j < k → built none step k j ≡ built none step (suc j) j
built_stable none step k j h = built_at none step k j h ∙ sym (built_at none step (suc j) j (omega arith))

-- what holds without a row and with each row of a list holds with the row of any letter
pub among : (P : Option KindRow → Type 0) (rows : List KindRow) → P None → All (λ r. P (Some r)) rows → (letter : ℕ) → P (row_among rows letter)
among P [] none all letter = none
among P (r ∷ rows) none all letter =
    cond_both (eqb r.letter letter) (Some r) (row_among rows letter) P (λ _. all.0) (λ _. among P rows none all.1 letter)

-- the operands that a kind takes for lines are lines below line i
abbrev pub Below : Kind → ℕ → ℕ → ℕ → Type 0
Below Truth i left right = Unit {0}
Below Reading i left right = Unit {0}
Below Not i left right = left < i
Below Or i left right = (left < i) × (right < i)
Below Near i left right = left < i
Below Surrounded i left right = (left < i) × (right < i)
Below Next i left right = left < i
Below Until i left right = (left < i) × (right < i)
Below Awaited i left right = left < i

-- line i has a row in the table of kinds, and the lines that it names are below it
pub record Placed (lines : List Line) (i : ℕ) : Type 0 where
  pub row : KindRow
  pub named : kind_row (line_at lines i).kind ≡ Some row
  pub below : Below row.kind i (line_at lines i).left (line_at lines i).right

-- what a lawful row gives: itself, and the lines below
abbrev pub Lawful : ℕ → Line → Option KindRow → Type 0
Lawful i line o = row_ok o i line ≡ true → (row : KindRow) × (o ≡ Some row) × Below row.kind i line.left line.right

-- operands that pass the test are lines below
pub left_below : (i left : ℕ) (other : Bool) → (ltb left i && other) ≡ true → left < i
left_below i left other h = ltb-true left i (and_parts (ltb left i) other h).0

pub both_below : (i left right : ℕ) → (ltb left i && ltb right i) ≡ true → (left < i) × (right < i)
both_below i left right h = let parts = and_parts (ltb left i) (ltb right i) h in (ltb-true left i parts.0, ltb-true right i parts.1)

-- the row of any letter gives that
pub lawful_row : (i : ℕ) (line : Line) (letter : ℕ) → Lawful i line (kind_row letter)
lawful_row i line =
    among (Lawful i line) kinds (λ h. absurd (both_ways false refl h)) (
      (λ _. (_, refl, tt)),
      (
        (λ _. (_, refl, tt)),
        (
          (λ h. (_, refl, left_below i line.left _ h)),
          (
            (λ h. (_, refl, both_below i line.left line.right h)),
            (
              (λ h. (_, refl, left_below i line.left _ h)),
              (
                (λ h. (_, refl, both_below i line.left line.right h)),
                (
                  (λ h. (_, refl, left_below i line.left _ h)),
                  (
                    (λ h. (_, refl, both_below i line.left line.right h)),
                    ((λ h. (_, refl, left_below i line.left _ h)), tt),
                  ),
                ),
              ),
            ),
          ),
        ),
      ),
    )

-- every lawful line is placed so
pub placed : (lines : List Line) (count : ℕ) → LawfulLines lines count → (i : ℕ) → i < count → Placed lines i
placed lines count lawful i h =
    let w = lawful_row i (line_at lines i) (line_at lines i).kind (lawful i h) in
    record { row = w.0; named = w.1; below = w.2 }

-- the words of a kind depend on the lines below only
plane_below : (M : Model) (kind : Kind) (lower lower' : ℕ → Plane) (i left right : ℕ) → ((j : ℕ) → j < i → lower j ≡ lower' j) → Below kind i left right → (d x : ℕ) → kind_plane M kind lower left right d x ≡ kind_plane M kind lower' left right d x
plane_below M Truth lower lower' i left right same b d x = refl
plane_below M Reading lower lower' i left right same b d x = refl
plane_below M Not lower lower' i left right same b d x = rw (same left b)
plane_below M Or lower lower' i left right same b d x = rw (same left b.0, same right b.1)
plane_below M Near lower lower' i left right same b d x = rw (same left b)
plane_below M Surrounded lower lower' i left right same b d x = rw (same left b.0, same right b.1)
plane_below M Next lower lower' i left right same b d x = rw (same left b)
plane_below M Until lower lower' i left right same b d x = rw (same left b.0, same right b.1)
plane_below M Awaited lower lower' i left right same b d x = rw (same left b)

-- and so does its formula
formula_below : (kind : Kind) (lower lower' : ℕ → Formula) (i left right : ℕ) → ((j : ℕ) → j < i → lower j ≡ lower' j) → Below kind i left right → kind_formula kind lower left right ≡ kind_formula kind lower' left right
formula_below Truth lower lower' i left right same b = refl
formula_below Reading lower lower' i left right same b = refl
formula_below Not lower lower' i left right same b = rw (same left b)
formula_below Or lower lower' i left right same b = rw (same left b.0, same right b.1)
formula_below Near lower lower' i left right same b = rw (same left b)
formula_below Surrounded lower lower' i left right same b = rw (same left b.0, same right b.1)
formula_below Next lower lower' i left right same b = rw (same left b)
formula_below Until lower lower' i left right same b = rw (same left b.0, same right b.1)
formula_below Awaited lower lower' i left right same b = rw (same left b)

-- the words of a line are those of its kind, over the words of the lines below
pub table_at : (M : Model) (lines : List Line) (i : ℕ) (p : Placed lines i) (d x : ℕ) → table M lines i d x ≡ kind_plane M p.row.kind (table M lines) (line_at lines i).left (line_at lines i).right d x
table_at M lines i p d x =
    let step : (ℕ → Plane) → ℕ → Plane = λ lower k. row_plane M (kind_row (line_at lines k).kind) lower (line_at lines k) in
    ap (λ (q : Plane). q d x) (built_at (λ d x. 0) step (suc i) i (omega arith))
    ∙ ap (λ o. row_plane M o (built (λ d x. 0) step i) (line_at lines i) d x) p.named
    ∙ plane_below M p.row.kind (built (λ d x. 0) step i) (table M lines) i (line_at lines i).left (line_at lines i).right (built_stable (λ d x. 0) step i) p.below d x

-- the formula of a line is that of its kind, over the formulas of the lines below
pub formula_at : (lines : List Line) (i : ℕ) (p : Placed lines i) → formula_of lines i ≡ kind_formula p.row.kind (formula_of lines) (line_at lines i).left (line_at lines i).right
formula_at lines i p =
    let step : (ℕ → Formula) → ℕ → Formula = λ lower k. row_formula (kind_row (line_at lines k).kind) lower (line_at lines k) in
    built_at truth step (suc i) i (omega arith)
    ∙ ap (λ o. row_formula o (built truth step i) (line_at lines i)) p.named
    ∙ formula_below p.row.kind (built truth step i) (formula_of lines) i (line_at lines i).left (line_at lines i).right (built_stable truth step i) p.below
