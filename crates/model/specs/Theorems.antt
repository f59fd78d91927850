-- The theorems that tie the table, the entry rule and the logic together. Each is named in the contract of a public function.
use Rattle.std.specs.Prelude.{◌≡◌, ℕ, suc, ◌^◌, ◌<◌, ◌≤◌, Bool, true, false, not, ◌&&◌, ◌↔◌, List, [], ◌∷◌, length, Some}
use Rattle.model.specs.declared.kind.Kind.{Kind}
use Rattle.model.specs.declared.kind.Kind.TheVariants.{Truth, Reading, Not, Or, Near, Surrounded, Next, Until, Awaited}
use Rattle.model.specs.declared.kind.KindRow.{KindRow}
use Rattle.model.specs.declared.line.Line.{Line}
use Rattle.model.specs.Entries.{Obeys, Holds}
use Rattle.model.specs.Kinds.{kind_row}
use Rattle.model.specs.Lines.{LawfulLines, line_at, formula_of}
use Rattle.model.specs.Logic.{Model, LawfulModel, Sat}
use Rattle.model.specs.Numbers.{least}
use Rattle.model.specs.Relations.{Inside, Unending}
use Rattle.model.specs.Showing.{trace, circle}
use Rattle.model.specs.Table.{says_yes, number, surrounded_word, until_word, awaited_word, Plane, table}
use Rattle.model.specs.Ways.{WayOut, Region, Beginning, Enough, Circling, Circles}

-- the table says yes exactly where the line's formula is satisfied
abbrev pub Satisfaction : Type 0
Satisfaction =
    (M : Model) (lines : List Line) (count : ℕ) → LawfulModel M → LawfulLines lines count
    → (i d x : ℕ) → i < count → d < M.days → x < M.points
    → (says_yes (table M lines i d x) ≡ true) ↔ Sat M (formula_of lines i) x d

-- what a surrounded entry's word w says of point x: no exactly when there is a way out; its number is then the steps of one, and every other has at least as many; yes exactly when a region holds x
pub record SurroundedMeans (n : ℕ) (leads : ℕ → ℕ → Bool) (left right : ℕ → Bool) (x w : ℕ) : Type 0 where
  pub no_by_a_way : (says_yes w ≡ false) ↔ ((rest : List ℕ) × WayOut leads left right x rest)
  pub steps_of_one : says_yes w ≡ false → (rest : List ℕ) × WayOut leads left right x rest × (length rest ≡ number w)
  pub fewest : (rest : List ℕ) → WayOut leads left right x rest → number w ≤ length rest
  pub yes_by_a_region : (says_yes w ≡ true) ↔ ((A : ℕ → Bool) × Region n leads left right A × (A x ≡ true))

abbrev pub SurroundedLaw : Type 0
SurroundedLaw =
    (n : ℕ) (leads : ℕ → ℕ → Bool) → Inside n leads → (left right : ℕ → Bool) (x : ℕ) → x < n
    → SurroundedMeans n leads left right x (surrounded_word n leads left right x)

-- what an until entry's word w says of day d: yes exactly when a run begins with left yes until right is; its number is then the fewest days of such a beginning
pub record UntilMeans (after : ℕ → ℕ → Bool) (left right : ℕ → Bool) (d w : ℕ) : Type 0 where
  pub yes_by_a_beginning : (says_yes w ≡ true) ↔ ((rest : List ℕ) × Beginning after left right d rest)
  pub days_of_one : says_yes w ≡ true → (rest : List ℕ) × Beginning after left right d rest × (length rest ≡ number w)
  pub fewest : (rest : List ℕ) → Beginning after left right d rest → number w ≤ length rest

abbrev pub UntilLaw : Type 0
UntilLaw =
    (m : ℕ) (after : ℕ → ℕ → Bool) → Inside m after → (left right : ℕ → Bool) (d : ℕ) → d < m
    → UntilMeans after left right d (until_word m after left right d)

-- what an every-future entry's word w says of day d, given the answers for all days: yes exactly when some number of steps is enough on every run, and its number is the least such; where it is no, going from each day to the least next day answered no circles without an awaited day
pub record EveryFutureMeans (m : ℕ) (after : ℕ → ℕ → Bool) (awaited answer : ℕ → Bool) (d w : ℕ) : Type 0 where
  pub yes_by_a_bound : (says_yes w ≡ true) ↔ ((k : ℕ) × Enough after awaited d k)
  pub enough : says_yes w ≡ true → Enough after awaited d (number w)
  pub least_bound : (k : ℕ) → Enough after awaited d k → number w ≤ k
  pub circles : says_yes w ≡ false → Circling m after awaited answer d

abbrev pub EveryFutureLaw : Type 0
EveryFutureLaw =
    (m : ℕ) (after : ℕ → ℕ → Bool) → Inside m after → Unending m after → (awaited : ℕ → Bool) (d : ℕ) → d < m
    → EveryFutureMeans m after awaited (λ e. says_yes (awaited_word m after awaited e)) d (awaited_word m after awaited d)

-- words obey the entry rule everywhere exactly when they are the table's everywhere
abbrev pub OneSolution : Type 0
OneSolution =
    (M : Model) (lines : List Line) (count : ℕ) → LawfulModel M → LawfulLines lines count
    → (words : ℕ → Plane) → Obeys M lines count words ↔ Holds M lines count words

-- a surrounded number is below the count of points, an until or every-future number below the count of days, any other at most 1
abbrev pub kind_bound : Model → Kind → ℕ
kind_bound M Truth = 2
kind_bound M Reading = 2
kind_bound M Not = 2
kind_bound M Or = 2
kind_bound M Near = 2
kind_bound M Surrounded = M.points
kind_bound M Next = 2
kind_bound M Until = M.days
kind_bound M Awaited = M.days

-- every number of the table is below its kind's bound, and every word fits 32 bits
abbrev pub Bounds : Type 0
Bounds =
    (M : Model) (lines : List Line) (i d x : ℕ) (row : KindRow) → kind_row (line_at lines i).kind ≡ Some row
    → 1 ≤ M.points → 1 ≤ M.days → M.points ≤ 4096 → M.days ≤ 4096
    → (number (table M lines i d x) < kind_bound M row.kind) × (table M lines i d x < 2 ^ 32)

-- what is shown where the words of a line are the table's: of a surrounded no a way out with its number of steps, of an until yes a beginning with its number of days, of an every-future no days that circle without an awaited day
pub record ShownLaw : Type 0 where
  pub surrounded : (n : ℕ) (leads : ℕ → ℕ → Bool) (left right : ℕ → Bool) (own : ℕ → ℕ)
      → ((y : ℕ) → y < n → own y ≡ surrounded_word n leads left right y) → (x : ℕ) → x < n → says_yes (own x) ≡ false
      → (rest : List ℕ) × (trace n (λ y z. leads y z && not (right z)) (λ y. not (left y)) own false (number (own x)) x ≡ Some (x ∷ rest))
      × WayOut leads left right x rest × (length rest ≡ number (own x))
  pub until : (m : ℕ) (after : ℕ → ℕ → Bool) (left right : ℕ → Bool) (own : ℕ → ℕ)
      → ((e : ℕ) → e < m → own e ≡ until_word m after left right e) → (d : ℕ) → d < m → says_yes (own d) ≡ true
      → (rest : List ℕ) × (trace m (λ e f. left e && after e f) right own true (number (own d)) d ≡ Some (d ∷ rest))
      × Beginning after left right d rest × (length rest ≡ number (own d))
  pub every_future : (m : ℕ) (after : ℕ → ℕ → Bool) → Inside m after → Unending m after → (awaited : ℕ → Bool) (own : ℕ → ℕ)
      → ((e : ℕ) → e < m → own e ≡ awaited_word m after awaited e) → (d : ℕ) → d < m → says_yes (own d) ≡ false
      → (days : List ℕ) × (circle (λ e. least m (λ f. after e f && not (says_yes (own f)))) awaited (suc m) [] d ≡ Some days)
      × Circles after awaited d days
