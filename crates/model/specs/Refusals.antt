-- Why a call is refused: the numbers of the refusals, and which one each maker and the tests that several calls share give, the lowest number first.
use Rattle.std.specs.Prelude.{ℕ, zero, suc, ◌*◌, Bool, cond, not, ◌&&◌, ◌||◌, List, length, Some, None, Option, ◌==◌, nat_lt}
use Rattle.model.specs.declared.refusal.Refusal.{Refusal}
use Rattle.model.specs.declared.refusal.Refusal.TheVariants.{FloorSize, LinkList, CalendarSize, DeadEnd, OtherCounts, ShortBook, OutOfRange, NoLines, LinesFull, NoKind, BadOperand, NothingToShow, ShortStrip, FalseEntry}
use Rattle.model.specs.declared.kind.KindRow.{KindRow}
use Rattle.model.specs.declared.line.Line.{Line}
use Rattle.model.specs.Kinds.{kind_row}
use Rattle.model.specs.Lines.{line_at, row_ok}
use Rattle.model.specs.Links.{listed, loose}
use Rattle.model.specs.Numbers.{any}

-- the number of a refusal, as it is printed and handed to C
abbrev pub number_of : Refusal → ℕ
number_of FloorSize = 1
number_of LinkList = 2
number_of CalendarSize = 3
number_of DeadEnd = 4
number_of OtherCounts = 5
number_of ShortBook = 6
number_of OutOfRange = 7
number_of NoLines = 8
number_of LinesFull = 9
number_of NoKind = 10
number_of BadOperand = 11
number_of NothingToShow = 12
number_of ShortStrip = 13
number_of FalseEntry = 14

-- the refusal, where the test passes
abbrev pub where_so : Bool → Refusal → Option Refusal
where_so test why = cond test (Some why) None

-- the first refusal, or else the second
abbrev pub or_else : Option Refusal → Option Refusal → Option Refusal
or_else None later = later
or_else (Some why) later = Some why

-- a grid has at least one row and one column, and at most 4,096 points
abbrev pub grid_refusal : ℕ → ℕ → Option Refusal
grid_refusal rows cols = where_so (rows == 0 || (cols == 0 || nat_lt 4096 (rows * cols))) FloorSize

-- a floor has 1 to 4,096 points
abbrev pub points_refusal : ℕ → Option Refusal
points_refusal n = where_so (n == 0 || nat_lt 4096 n) FloorSize

-- the numbers of a link list are paired, not too many, and below the count
abbrev pub links_refusal : ℕ → List ℕ → Option Refusal
links_refusal n pairs = where_so (loose n pairs) LinkList

-- a calendar has 1 to 64 days
abbrev pub days_refusal : ℕ → Option Refusal
days_refusal n = where_so (n == 0 || nat_lt 64 n) CalendarSize

-- every day of a link calendar leads to some day
abbrev pub dead_end_refusal : ℕ → List ℕ → Option Refusal
dead_end_refusal n pairs = where_so (any n (λ d. not (any n (listed pairs d)))) DeadEnd

abbrev pub link_floor_refusal : ℕ → List ℕ → Option Refusal
link_floor_refusal n pairs = or_else (points_refusal n) (links_refusal n pairs)

abbrev pub link_calendar_refusal : ℕ → List ℕ → Option Refusal
link_calendar_refusal n pairs = or_else (links_refusal n pairs) (or_else (days_refusal n) (dead_end_refusal n pairs))

-- line i is of a kind in the table, and then its operands are as the kind's row wants them
abbrev pub row_refusal : Option KindRow → ℕ → Line → Option Refusal
row_refusal None i line = Some NoKind
row_refusal (Some row) i line = where_so (not (row_ok (Some row) i line)) BadOperand

abbrev pub line_refusal : ℕ → Line → Option Refusal
line_refusal i line = row_refusal (kind_row line.kind) i line

-- the refusal of the first bad line among the first `count`
abbrev pub lines_refusal : List Line → ℕ → Option Refusal
lines_refusal lines zero = None
lines_refusal lines (suc k) = or_else (lines_refusal lines k) (line_refusal k (line_at lines k))

-- a floor of n points and a calendar of m days are those of a survey of so many points and days
abbrev pub counts_refusal : ℕ → ℕ → ℕ → ℕ → Option Refusal
counts_refusal points days n m = where_so (not (n == points && m == days)) OtherCounts

-- a readings book of that length is long enough, and so are a lines book and a findings book
abbrev pub readings_short : ℕ → ℕ → ℕ → Bool
readings_short points days held = nat_lt held (days * points)

abbrev pub lines_short : ℕ → Bool
lines_short held = nat_lt held 64

abbrev pub findings_short : ℕ → ℕ → ℕ → ℕ → Bool
findings_short points days lines held = nat_lt held (lines * (days * points))

-- what has to be in order before all entries of a survey can be worked or examined: the counts, the three books by their lengths, some lines, and each of them
abbrev pub whole_refusal : ℕ → ℕ → ℕ → ℕ → ℕ → ℕ → List Line → ℕ → Option Refusal
whole_refusal points days count n m readings lines findings =
    or_else (counts_refusal points days n m)
    (or_else (where_so (readings_short points days readings || (lines_short (length lines) || findings_short points days count findings)) ShortBook)
    (or_else (where_so (count == 0) NoLines) (lines_refusal lines count)))
