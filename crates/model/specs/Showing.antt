-- What show writes, by the words of a findings book: a way out, the days until right, or days that circle.
use Rattle.std.specs.Prelude.{◌≡◌, ℕ, zero, suc, ◌+◌, Bool, true, false, cond, not, ◌&&◌, ◌||◌, List, [], ◌∷◌, ◌++◌, length, drop, is_some, Some, None, Option, Result, ◌==◌, nat_lt}
use Rattle.std.specs.Option.{option_map, unwrap_or}
use Rattle.model.specs.declared.kind.Kind.{Kind}
use Rattle.model.specs.declared.kind.Kind.TheVariants.{Truth, Reading, Not, Or, Near, Surrounded, Next, Until, Awaited}
use Rattle.model.specs.declared.kind.KindRow.{KindRow}
use Rattle.model.specs.declared.line.Line.{Line}
use Rattle.model.specs.declared.refusal.Refusal.{Refusal}
use Rattle.model.specs.declared.refusal.Refusal.TheVariants.{ShortBook, OutOfRange, NothingToShow, ShortStrip, FalseEntry}
use Rattle.model.specs.Books.{finding_in}
use Rattle.model.specs.Calls.{answer, unless_refused, is_entry}
use Rattle.model.specs.Kinds.{kind_row}
use Rattle.model.specs.Lines.{line_at}
use Rattle.model.specs.Numbers.{least}
use Rattle.model.specs.Refusals.{where_so, or_else, counts_refusal, lines_refusal, lines_short, findings_short}
use Rattle.model.specs.Table.{word, says_yes, number, Plane}

-- go on from the number found, if one was
abbrev pub go_on : {A : Type 0} → Option ℕ → (ℕ → Option A) → Option A
go_on None next = None
go_on (Some y) next = next y

-- from x, by k steps: each goes to the least of the n numbers to which a step leads and whose word has that answer with a number one lower; at number 0 there must be a goal. None where the words fail it
abbrev pub trace : ℕ → (ℕ → ℕ → Bool) → (ℕ → Bool) → (ℕ → ℕ) → Bool → ℕ → ℕ → Option (List ℕ)
trace n step goal own answer zero x = cond (goal x) (Some (x ∷ [])) None
trace n step goal own answer (suc k) x =
    option_map (λ rest. x ∷ rest) (go_on (least n (λ y. step x y && own y == word answer k)) (λ y. trace n step goal own answer k y))

-- the number stands in the list
abbrev pub stands_in : ℕ → List ℕ → Bool
stands_in d [] = false
stands_in d (e ∷ es) = e == d || stands_in d es

-- from day d, after the days gone through before, from each day to the next, up to and with the first repeated one, within so many days; none of them may be awaited. None where that fails
abbrev pub circle : (ℕ → Option ℕ) → (ℕ → Bool) → ℕ → List ℕ → ℕ → Option (List ℕ)
circle next awaited zero before d = None
circle next awaited (suc more) before d =
    cond (stands_in d before) (Some (before ++ d ∷ []))
    (cond (awaited d) None (go_on (next d) (λ e. circle next awaited more (before ++ d ∷ []) e)))

-- which answer of a kind can be shown: a surrounded no, an until yes, an every-future no
abbrev pub shows : Kind → Bool → Bool
shows Truth answer = false
shows Reading answer = false
shows Not answer = false
shows Or answer = false
shows Near answer = false
shows Surrounded answer = not answer
shows Next answer = false
shows Until answer = answer
shows Awaited answer = not answer

-- how long a strip has to be: number + 1, and days + 1 for every-future
abbrev pub strip_needed : Kind → ℕ → ℕ → ℕ
strip_needed Truth days number = number + 1
strip_needed Reading days number = number + 1
strip_needed Not days number = number + 1
strip_needed Or days number = number + 1
strip_needed Near days number = number + 1
strip_needed Surrounded days number = number + 1
strip_needed Next days number = number + 1
strip_needed Until days number = number + 1
strip_needed Awaited days number = days + 1

-- what is shown of line i on day d at point x, by its kind and the words; none where the words fail it
abbrev pub kind_trail : ℕ → (ℕ → ℕ → Bool) → ℕ → (ℕ → ℕ → Bool) → Kind → (ℕ → Plane) → ℕ → ℕ → ℕ → ℕ → ℕ → Option (List ℕ)
kind_trail n leads m after Truth words left right i d x = None
kind_trail n leads m after Reading words left right i d x = None
kind_trail n leads m after Not words left right i d x = None
kind_trail n leads m after Or words left right i d x = None
kind_trail n leads m after Near words left right i d x = None
kind_trail n leads m after Surrounded words left right i d x =
    trace n (λ y z. leads y z && not (says_yes (words right d z))) (λ y. not (says_yes (words left d y))) (λ y. words i d y) false (number (words i d x)) x
kind_trail n leads m after Next words left right i d x = None
kind_trail n leads m after Until words left right i d x =
    trace m (λ e f. says_yes (words left e x) && after e f) (λ e. says_yes (words right e x)) (λ e. words i e x) true (number (words i d x)) d
kind_trail n leads m after Awaited words left right i d x =
    circle (λ e. least m (λ f. after e f && not (says_yes (words i f x)))) (λ e. says_yes (words left e x)) (suc m) [] d

abbrev pub row_trail : ℕ → (ℕ → ℕ → Bool) → ℕ → (ℕ → ℕ → Bool) → Option KindRow → (ℕ → Plane) → Line → ℕ → ℕ → ℕ → Option (List ℕ)
row_trail n leads m after None words line i d x = None
row_trail n leads m after (Some row) words line i d x = kind_trail n leads m after row.kind words line.left line.right i d x

-- what is shown of line i on day d at point x of a lines book
abbrev pub trail : ℕ → (ℕ → ℕ → Bool) → ℕ → (ℕ → ℕ → Bool) → List Line → (ℕ → Plane) → ℕ → ℕ → ℕ → Option (List ℕ)
trail n leads m after lines words i d x = row_trail n leads m after (kind_row (line_at lines i).kind) words (line_at lines i) i d x

-- the kind has nothing to show of that answer; the strip is too short; the words fail what is to be shown
abbrev pub row_show_refusal : Option KindRow → ℕ → ℕ → ℕ → Option (List ℕ) → Option Refusal
row_show_refusal None days word strip shown = Some NothingToShow
row_show_refusal (Some row) days word strip shown =
    or_else (where_so (not (shows row.kind (says_yes word))) NothingToShow)
    (or_else (where_so (nat_lt strip (strip_needed row.kind days (number word))) ShortStrip) (where_so (not (is_some shown)) FalseEntry))

-- show: the counts, a lines book and a findings book of that length, line, day and point in range, the lines of the book, and then what there is to show
abbrev pub show_refusal : ℕ → ℕ → ℕ → ℕ → ℕ → List Line → ℕ → ℕ → ℕ → ℕ → ℕ → ℕ → Option (List ℕ) → Option Refusal
show_refusal points days count n m lines findings i d x word strip shown =
    or_else (counts_refusal points days n m)
    (or_else (where_so (lines_short (length lines) || findings_short points days count findings) ShortBook)
    (or_else (where_so (not (is_entry points days count i d x)) OutOfRange)
    (or_else (lines_refusal lines count) (row_show_refusal (kind_row (line_at lines i).kind) days word strip shown))))

-- the strip with the numbers written at its front
abbrev pub written_on : List ℕ → List ℕ → List ℕ
written_on shown strip = shown ++ drop (length shown) strip

-- what the findings book of a survey shows of an entry
abbrev pub book_trail : ℕ → (ℕ → ℕ → Bool) → ℕ → (ℕ → ℕ → Bool) → List Line → List ℕ → ℕ → ℕ → ℕ → Option (List ℕ)
book_trail points leads days after lines findings i d x = trail points leads days after lines (finding_in findings points days) i d x

-- why an entry of a survey is not shown by its books, with a floor of n points, a calendar of m days and a strip of that length
abbrev pub book_refusal : ℕ → ℕ → ℕ → ℕ → ℕ → List Line → List ℕ → ℕ → ℕ → ℕ → ℕ → Option (List ℕ) → Option Refusal
book_refusal points days count n m lines findings i d x strip shown =
    show_refusal points days count n m lines (length findings) i d x (finding_in findings points days i d x) strip shown

-- show: what it answers, and what it leaves of the strip
pub record Shown (points days count n : ℕ) (leads : ℕ → ℕ → Bool) (m : ℕ) (after : ℕ → ℕ → Bool) (lines : List Line) (findings : List ℕ) (i d x : ℕ) (old new : List ℕ) (r : Result ℕ Refusal) : Type 0 where
  -- the refusal, or else how many numbers are written
  pub answered : r ≡ answer (book_refusal points days count n m lines findings i d x (length old) (book_trail points leads days after lines findings i d x))
      (length (unwrap_or (book_trail points leads days after lines findings i d x) []))
  -- the numbers at the front, and nothing changed by a refusal
  pub strip : new ≡ unless_refused (book_refusal points days count n m lines findings i d x (length old) (book_trail points leads days after lines findings i d x))
      (written_on (unwrap_or (book_trail points leads days after lines findings i d x) []) old) old
