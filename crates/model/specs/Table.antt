-- The table: for each kind of line the yes or no and the number of every entry, computed.
use Rattle.std.specs.Prelude.{ℕ, zero, suc, ◌+◌, ◌*◌, ◌/◌, ◌%◌, Bool, true, false, cond, not, ◌&&◌, ◌||◌, List, Some, None, Option, ◌==◌}
use Rattle.model.specs.declared.kind.Kind.{Kind}
use Rattle.model.specs.declared.kind.Kind.TheVariants.{Truth, Reading, Not, Or, Near, Surrounded, Next, Until, Awaited}
use Rattle.model.specs.declared.kind.KindRow.{KindRow}
use Rattle.model.specs.declared.line.Line.{Line}
use Rattle.model.specs.Kinds.{kind_row}
use Rattle.model.specs.Lines.{line_at, built}
use Rattle.model.specs.Logic.{Model}
use Rattle.model.specs.Numbers.{any, every, least}

-- an entry's word: 2 × number, plus 1 for yes
abbrev pub word : Bool → ℕ → ℕ
word answer number = 2 * number + cond answer 1 0

abbrev pub says_yes : ℕ → Bool
says_yes w = w % 2 == 1

abbrev pub number : ℕ → ℕ
number w = w / 2

-- from x a goal is reached by at most k steps, among the numbers below n
abbrev pub reaches : ℕ → (ℕ → ℕ → Bool) → (ℕ → Bool) → ℕ → ℕ → Bool
reaches n step goal zero x = goal x
reaches n step goal (suc k) x = goal x || any n (λ y. step x y && reaches n step goal k y)

-- the fewest steps by which a goal is reached from x
abbrev pub rank : ℕ → (ℕ → ℕ → Bool) → (ℕ → Bool) → ℕ → Option ℕ
rank n step goal x = least n (λ k. reaches n step goal k x)

-- from day d an awaited day is met by at most k steps, whichever way is gone
abbrev pub sure : ℕ → (ℕ → ℕ → Bool) → (ℕ → Bool) → ℕ → ℕ → Bool
sure m after awaited zero d = awaited d
sure m after awaited (suc k) d = awaited d || every m (λ e. not (after d e) || sure m after awaited k e)

-- the least number of steps that is enough
abbrev pub wait : ℕ → (ℕ → ℕ → Bool) → (ℕ → Bool) → ℕ → Option ℕ
wait m after awaited d = least m (λ k. sure m after awaited k d)

-- the word where a number says no, and where it says yes
abbrev pub no_word : Option ℕ → ℕ
no_word None = word true 0
no_word (Some k) = word false k

abbrev pub yes_word : Option ℕ → ℕ
yes_word None = word false 0
yes_word (Some k) = word true k

-- left is yes at x or at a point that leads to x; 1 where it is not yes at x
abbrev pub near_word : ℕ → (ℕ → ℕ → Bool) → (ℕ → Bool) → ℕ → ℕ
near_word n leads left x = cond (left x) (word true 0) (cond (any n (λ y. leads y x && left y)) (word true 1) (word false 0))

-- no where there is a way out: through points with right no, to one with left no
abbrev pub surrounded_word : ℕ → (ℕ → ℕ → Bool) → (ℕ → Bool) → (ℕ → Bool) → ℕ → ℕ
surrounded_word n leads left right x = no_word (rank n (λ y z. leads y z && not (right z)) (λ y. not (left y)) x)

-- yes where the days lead, from days with left yes, to one with right yes
abbrev pub until_word : ℕ → (ℕ → ℕ → Bool) → (ℕ → Bool) → (ℕ → Bool) → ℕ → ℕ
until_word m after left right d = yes_word (rank m (λ e f. left e && after e f) right d)

-- yes where an awaited day is sure
abbrev pub awaited_word : ℕ → (ℕ → ℕ → Bool) → (ℕ → Bool) → ℕ → ℕ
awaited_word m after awaited d = yes_word (wait m after awaited d)

-- the words of one line: for each day and point
abbrev pub Plane : Type 0
Plane = ℕ → ℕ → ℕ

-- the words of a kind, over the words of the lines below
abbrev pub kind_plane : Model → Kind → (ℕ → Plane) → ℕ → ℕ → Plane
kind_plane M Truth lower left right d x = word true 0
kind_plane M Reading lower left right d x = word (M.reading d x left) 0
kind_plane M Not lower left right d x = word (not (says_yes (lower left d x))) 0
kind_plane M Or lower left right d x = word (says_yes (lower left d x) || says_yes (lower right d x)) 0
kind_plane M Near lower left right d x = near_word M.points M.leads (λ y. says_yes (lower left d y)) x
kind_plane M Surrounded lower left right d x =
    surrounded_word M.points M.leads (λ y. says_yes (lower left d y)) (λ y. says_yes (lower right d y)) x
kind_plane M Next lower left right d x = word (any M.days (λ e. M.after d e && says_yes (lower left e x))) 0
kind_plane M Until lower left right d x =
    until_word M.days M.after (λ e. says_yes (lower left e x)) (λ e. says_yes (lower right e x)) d
kind_plane M Awaited lower left right d x = awaited_word M.days M.after (λ e. says_yes (lower left e x)) d

abbrev pub row_plane : Model → Option KindRow → (ℕ → Plane) → Line → Plane
row_plane M None lower line d x = 0
row_plane M (Some row) lower line d x = kind_plane M row.kind lower line.left line.right d x

-- the words of line i
abbrev pub table : Model → List Line → ℕ → Plane
table M lines i =
    built (λ d x. 0) (λ lower k. row_plane M (kind_row (line_at lines k).kind) lower (line_at lines k)) (suc i) i
