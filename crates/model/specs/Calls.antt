-- What the calls on a survey answer, and what they leave of its books. A survey has so many points, days and lines; books go by their words.
use Rattle.std.specs.Prelude.{◌≡◌, ℕ, suc, ◌+◌, ◌-◌, ◌*◌, ◌/◌, ◌^◌, ◌<◌, Bool, true, false, cond, not, ◌&&◌, ◌||◌, List, ℤ, pos, negsuc, neg_ℤ, Some, None, Ok, Err, Option, Result, ◌==◌, bit_and, bit_or, int_le, nat_le, nat_lt, slice_index, slice_set}
use Rattle.model.specs.declared.answers.Finding.{Finding}
use Rattle.model.specs.declared.line.Line.{Line}
use Rattle.model.specs.declared.refusal.Refusal.{Refusal}
use Rattle.model.specs.declared.refusal.Refusal.TheVariants.{CalendarSize, ShortBook, OutOfRange, LinesFull}
use Rattle.model.specs.Books.{reading_in}
use Rattle.model.specs.Refusals.{where_so, or_else, line_refusal, readings_short, lines_short, findings_short}
use Rattle.model.specs.Table.{says_yes, number}

-- the answer of a call: the refusal where there is one, else the value
abbrev pub answer : {A : Type 0} → Option Refusal → A → Result A Refusal
answer None value = Ok value
answer (Some why) value = Err why

-- what a call leaves: the old where it is refused, else the new
abbrev pub unless_refused : {A : Type 0} → Option Refusal → A → A → A
unless_refused None new old = new
unless_refused (Some why) new old = old

-- open: at most 64 days; books long enough
abbrev pub open_refusal : ℕ → ℕ → ℕ → ℕ → Option Refusal
open_refusal points days readings lines =
    or_else (where_so (nat_lt 64 days) CalendarSize) (where_so (readings_short points days readings || lines_short lines) ShortBook)

-- a day and a point of the survey, and an atom
abbrev pub on_map : ℕ → ℕ → ℕ → ℕ → ℕ → Bool
on_map points days day point atom = nat_lt day days && (nat_lt point points && nat_lt atom 32)

-- record: a readings book of that length is long enough; day, point and atom in range
abbrev pub record_refusal : ℕ → ℕ → ℕ → ℕ → ℕ → ℕ → Option Refusal
record_refusal points days held day point atom =
    or_else (where_so (readings_short points days held) ShortBook) (where_so (not (on_map points days day point atom)) OutOfRange)

-- the word with bit a set, or cleared
abbrev pub with_bit : ℕ → ℕ → Bool → ℕ
with_bit word a true = bit_or word (2 ^ a)
with_bit word a false = bit_and word (2 ^ 32 - 1 - 2 ^ a)

-- the readings book with one reading set or cleared
abbrev pub recorded : ℕ → ℕ → ℕ → ℕ → Bool → List ℕ → List ℕ
recorded points day point atom answer readings =
    slice_set readings (day * points + point) (with_bit (slice_index readings (day * points + point)) atom answer)

-- one reading has its new yes or no, and every other reading is as it was
abbrev pub SetsOneReading : ℕ → ℕ → ℕ → ℕ → ℕ → Bool → List ℕ → List ℕ → Type 0
SetsOneReading points days day point atom answer old new =
    (d x a : ℕ) → d < days → x < points → a < 32
    → reading_in new points d x a ≡ cond (d == day && (x == point && a == atom)) answer (reading_in old points d x a)

-- tenths of a degree in whole degrees, a half going away from zero
abbrev pub degrees : ℤ → ℤ
degrees (pos t) = pos ((t + 5) / 10)
degrees (negsuc t) = neg_ℤ (pos ((suc t + 5) / 10))

-- the whole degrees reach the level
abbrev pub reaches_level : ℤ → ℤ → Bool
reaches_level tenths level = int_le level (degrees tenths)

-- tenths from −600 to 1,200, and a level from −60 to 120
abbrev pub on_scale : ℤ → ℤ → Bool
on_scale tenths level =
    (int_le (negsuc 599) tenths && int_le tenths (pos 1200)) && (int_le (negsuc 59) level && int_le level (pos 120))

-- gauge: as record, and tenths and level in range
abbrev pub gauge_refusal : ℕ → ℕ → ℕ → ℕ → ℕ → ℕ → ℤ → ℤ → Option Refusal
gauge_refusal points days held day point atom tenths level =
    or_else (record_refusal points days held day point atom) (where_so (not (on_scale tenths level)) OutOfRange)

-- phrase: a lines book of that length is long enough; fewer than 64 lines so far; a lawful line
abbrev pub phrase_refusal : ℕ → ℕ → Line → Option Refusal
phrase_refusal held count line =
    or_else (where_so (lines_short held) ShortBook) (or_else (where_so (nat_le 64 count) LinesFull) (line_refusal count line))

-- a line, a day and a point of the survey
abbrev pub is_entry : ℕ → ℕ → ℕ → ℕ → ℕ → ℕ → Bool
is_entry points days count line day point = nat_lt line count && (nat_lt day days && nat_lt point points)

-- ask: a findings book of that length is long enough; line, day and point in range
abbrev pub ask_refusal : ℕ → ℕ → ℕ → ℕ → ℕ → ℕ → ℕ → Option Refusal
ask_refusal points days count held line day point =
    or_else (where_so (findings_short points days count held) ShortBook) (where_so (not (is_entry points days count line day point)) OutOfRange)

-- the yes or no and the number of a word
abbrev pub finding_of : ℕ → Finding
finding_of word = record { yes = says_yes word; number = number word }
