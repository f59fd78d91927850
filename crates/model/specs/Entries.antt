-- The entry rule: the word that an entry must have, given the other words of the book.
use Rattle.std.specs.Prelude.{◌≡◌, ℕ, ◌+◌, ◌<◌, Bool, true, false, cond, not, ◌&&◌, ◌||◌, List, Some, None, Option}
use Rattle.model.specs.declared.kind.Kind.{Kind}
use Rattle.model.specs.declared.kind.Kind.TheVariants.{Truth, Reading, Not, Or, Near, Surrounded, Next, Until, Awaited}
use Rattle.model.specs.declared.kind.KindRow.{KindRow}
use Rattle.model.specs.declared.line.Line.{Line}
use Rattle.model.specs.Kinds.{kind_row}
use Rattle.model.specs.Lines.{line_at}
use Rattle.model.specs.Logic.{Model}
use Rattle.model.specs.Numbers.{every, lowest, highest}
use Rattle.model.specs.Table.{word, says_yes, number, Plane, kind_plane, table}

-- one more than the lowest number found, with that answer; the word where none was found
abbrev pub one_more : Bool → ℕ → Option ℕ → ℕ
one_more answer none None = none
one_more answer none (Some k) = word answer (1 + k)

-- with left no the word is 0; otherwise the candidates are the points that x leads to with right no: if all are yes the word is 1, else no and one more than the lowest number of a no candidate
abbrev pub surrounded_entry : ℕ → (ℕ → ℕ → Bool) → (ℕ → Bool) → (ℕ → Bool) → (ℕ → ℕ) → ℕ → ℕ
surrounded_entry n leads left right own x =
    cond (left x) (one_more false (word true 0) (lowest n (λ y. (leads x y && not (right y)) && not (says_yes (own y))) (λ y. number (own y)))) (word false 0)

-- with right yes the word is 1; else with left no it is 0; otherwise yes and one more than the lowest number of a yes next day, or 0 without one
abbrev pub until_entry : ℕ → (ℕ → ℕ → Bool) → (ℕ → Bool) → (ℕ → Bool) → (ℕ → ℕ) → ℕ → ℕ
until_entry m after left right own d =
    cond (right d) (word true 0) (cond (left d) (one_more true (word false 0) (lowest m (λ e. after d e && says_yes (own e)) (λ e. number (own e)))) (word false 0))

-- with left yes the word is 1; if every next day is yes, yes and one more than their highest number; else 0
abbrev pub awaited_entry : ℕ → (ℕ → ℕ → Bool) → (ℕ → Bool) → (ℕ → ℕ) → ℕ → ℕ
awaited_entry m after awaited own d =
    cond (awaited d) (word true 0) (cond (every m (λ e. not (after d e) || says_yes (own e))) (word true (1 + highest m (λ e. after d e) (λ e. number (own e)))) (word false 0))

-- the word that a kind wants, over the words of the lines below and of the line itself; the kinds that look at no other entry of their own line follow the table
abbrev pub kind_entry : Model → Kind → (ℕ → Plane) → ℕ → ℕ → Plane → Plane
kind_entry M Truth lower left right own d x = kind_plane M Truth lower left right d x
kind_entry M Reading lower left right own d x = kind_plane M Reading lower left right d x
kind_entry M Not lower left right own d x = kind_plane M Not lower left right d x
kind_entry M Or lower left right own d x = kind_plane M Or lower left right d x
kind_entry M Near lower left right own d x = kind_plane M Near lower left right d x
kind_entry M Surrounded lower left right own d x =
    surrounded_entry M.points M.leads (λ y. says_yes (lower left d y)) (λ y. says_yes (lower right d y)) (λ y. own d y) x
kind_entry M Next lower left right own d x = kind_plane M Next lower left right d x
kind_entry M Until lower left right own d x =
    until_entry M.days M.after (λ e. says_yes (lower left e x)) (λ e. says_yes (lower right e x)) (λ e. own e x) d
kind_entry M Awaited lower left right own d x = awaited_entry M.days M.after (λ e. says_yes (lower left e x)) (λ e. own e x) d

abbrev pub row_entry : Model → Option KindRow → (ℕ → Plane) → Line → Plane → Plane
row_entry M None lower line own d x = 0
row_entry M (Some row) lower line own d x = kind_entry M row.kind lower line.left line.right own d x

-- the word that the entry of line i on day d at point x must have, given all words
abbrev pub entry : Model → List Line → (ℕ → Plane) → ℕ → Plane
entry M lines words i d x = row_entry M (kind_row (line_at lines i).kind) words (line_at lines i) (words i) d x

-- the words obey the entry rule at every place of the first `count` lines
abbrev pub Obeys : Model → List Line → ℕ → (ℕ → Plane) → Type 0
Obeys M lines count words =
    (i d x : ℕ) → i < count → d < M.days → x < M.points → words i d x ≡ entry M lines words i d x

-- the words are the table's at every place of the first `count` lines
abbrev pub Holds : Model → List Line → ℕ → (ℕ → Plane) → Type 0
Holds M lines count words =
    (i d x : ℕ) → i < count → d < M.days → x < M.points → words i d x ≡ table M lines i d x
