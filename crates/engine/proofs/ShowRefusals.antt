-- Why an entry is not shown: the words that fail come last, and what is in order where nothing else is amiss.
use Rattle.std.proofs.Common.{◌≡◌, ℕ, ◌*◌, ◌<◌, ◌≤◌, Bool, true, false, not, ◌||◌, eqb, ltb, List, [], length, is_some, Some, None, Ok, Err, Option, Result, unwrap_or, sym, refl, ap, ◌∙◌, subst, ap₂, arith}
use Rattle.std.proofs.lemmas.Bool.{and_parts, or_parts, not-false, eqb-true, ltb-true, ltb-false}
use Rattle.std.specs.Option.{option_map, ok_or}
use Rattle.model.specs.declared.kind.KindRow.{KindRow}
use Rattle.model.specs.declared.line.Line.{Line}
use Rattle.model.specs.declared.refusal.Refusal.{Refusal}
use Rattle.model.specs.declared.refusal.Refusal.TheVariants.{OtherCounts, ShortBook, OutOfRange, NothingToShow, ShortStrip, FalseEntry}
use Rattle.model.specs.Books.{finding_in}
use Rattle.model.specs.Calls.{answer, unless_refused, is_entry}
use Rattle.model.specs.Kinds.{kind_row}
use Rattle.model.specs.Lines.{line_at, LawfulLines}
use Rattle.model.specs.Refusals.{where_so, or_else, counts_refusal, lines_refusal, lines_short, findings_short}
use Rattle.model.specs.Showing.{shows, strip_needed, row_show_refusal, show_refusal, written_on, book_trail, book_refusal, Shown}
use Rattle.model.specs.Table.{says_yes, number}
use Rattle.model.proofs.Refusals.{neither, not_so, lawful_unless}
use Rattle.engine.specs.Strips.{Put}

or_else_assoc : (a b c : Option Refusal) → or_else a (or_else b c) ≡ or_else (or_else a b) c
or_else_assoc None b c = refl
or_else_assoc (Some why) b c = refl

or_else_none : (a : Option Refusal) → a ≡ or_else a None
or_else_none None = refl
or_else_none (Some why) = refl

-- words that fail are refused last
row_last : (o : Option KindRow) (days word strip : ℕ) (shown : Option (List ℕ)) → row_show_refusal o days word strip shown ≡ or_else (row_show_refusal o days word strip (Some [])) (where_so (not (is_some shown)) FalseEntry)
row_last None days word strip shown = refl
row_last (Some row) days word strip shown =
    let a = where_so (not (shows row.kind (says_yes word))) NothingToShow in
    let b = where_so (ltb strip (strip_needed row.kind days (number word))) ShortStrip in
    or_else_assoc a b _ ∙ ap (λ (r : Option Refusal). or_else (or_else a r) (where_so (not (is_some shown)) FalseEntry)) (or_else_none b)

pub words_last : (points days count n m : ℕ) (lines : List Line) (findings i d x word strip : ℕ) (shown : Option (List ℕ))
    → show_refusal points days count n m lines findings i d x word strip shown
    ≡ or_else (show_refusal points days count n m lines findings i d x word strip (Some [])) (where_so (not (is_some shown)) FalseEntry)
words_last points days count n m lines findings i d x word strip shown =
    let a = counts_refusal points days n m in
    let b = where_so (lines_short (length lines) || findings_short points days count findings) ShortBook in
    let c = where_so (not (is_entry points days count i d x)) OutOfRange in
    let e = lines_refusal lines count in
    let r = row_show_refusal (kind_row (line_at lines i).kind) days word strip (Some []) in
    let l = where_so (not (is_some shown)) FalseEntry in
    ap (λ (q : Option Refusal). or_else a (or_else b (or_else c (or_else e q)))) (row_last (kind_row (line_at lines i).kind) days word strip shown)
    ∙ ap (λ (q : Option Refusal). or_else a (or_else b (or_else c q))) (or_else_assoc e r l)
    ∙ ap (λ (q : Option Refusal). or_else a (or_else b q)) (or_else_assoc c (or_else e r) l)
    ∙ ap (λ (q : Option Refusal). or_else a q) (or_else_assoc b (or_else c (or_else e r)) l)
    ∙ or_else_assoc a (or_else b (or_else c (or_else e r))) l

-- what is in order where an entry can be shown
pub record ToShow (points days count n m : ℕ) (lines : List Line) (findings i d x word strip : ℕ) : Type 0 where
  pub floor : n ≡ points
  pub calendar : m ≡ days
  pub lines_held : 64 ≤ length lines
  pub findings_held : count * (days * points) ≤ findings
  pub line : i < count
  pub day : d < days
  pub point : x < points
  pub lawful : LawfulLines lines count
  pub room : (row : KindRow) → kind_row (line_at lines i).kind ≡ Some row → strip_needed row.kind days (number word) ≤ strip

has_room : (row : KindRow) (days word strip : ℕ) → row_show_refusal (Some row) days word strip (Some []) ≡ None → strip_needed row.kind days (number word) ≤ strip
has_room row days word strip h =
    let a = neither (where_so (not (shows row.kind (says_yes word))) NothingToShow) _ h in
    let b = neither (where_so (ltb strip (strip_needed row.kind days (number word))) ShortStrip) _ a.1 in
    ltb-false strip (strip_needed row.kind days (number word)) (not_so _ ShortStrip b.0)

pub to_show : (points days count n m : ℕ) (lines : List Line) (findings i d x word strip : ℕ) → show_refusal points days count n m lines findings i d x word strip (Some []) ≡ None → ToShow points days count n m lines findings i d x word strip
to_show points days count n m lines findings i d x word strip h =
    let a = neither (counts_refusal points days n m) _ h in
    let b = neither (where_so (lines_short (length lines) || findings_short points days count findings) ShortBook) _ a.1 in
    let c = neither (where_so (not (is_entry points days count i d x)) OutOfRange) _ b.1 in
    let e = neither (lines_refusal lines count) _ c.1 in
    let counts = and_parts (eqb n points) (eqb m days) (not-false _ (not_so _ OtherCounts a.0)) in
    let held = or_parts (lines_short (length lines)) (findings_short points days count findings) (not_so _ ShortBook b.0) in
    let line = and_parts (ltb i count) _ (not-false _ (not_so _ OutOfRange c.0)) in
    let place = and_parts (ltb d days) (ltb x points) line.1 in
    record {
      floor = eqb-true n points counts.0;
      calendar = eqb-true m days counts.1;
      lines_held = ltb-false (length lines) 64 held.0;
      findings_held = ltb-false findings (count * (days * points)) held.1;
      line = ltb-true i count line.0;
      day = ltb-true d days place.0;
      point = ltb-true x points place.1;
      lawful = lawful_unless lines count e.0;
      room = λ row named. has_room row days word strip (subst (λ (o : Option KindRow). row_show_refusal o days word strip (Some []) ≡ None) named e.1);
    }

-- how many numbers there are tells whether there are any
counted : (k : ℕ) (o : Option (List ℕ)) → Some k ≡ option_map length o → (is_some o ≡ true) × (k ≡ length (unwrap_or o []))
counted k None e = absurd (let z : ◌≡◌ {A = ℕ} 0 1 = cc in omega arith)
counted k (Some l) e = (refl, cc)

nothing : (o : Option (List ℕ)) → None ≡ option_map length o → o ≡ None
nothing None e = refl
nothing (Some l) e = absurd (let z : ◌≡◌ {A = ℕ} 0 1 = cc in omega arith)

-- what the call answers: the early refusal, else by what there is to show
module _ (points days count n : ℕ) (leads : ℕ → ℕ → Bool) (m : ℕ) (after : ℕ → ℕ → Bool) (lines : List Line) (findings : List ℕ) (i d x : ℕ) (old : List ℕ) where
  last : book_refusal points days count n m lines findings i d x (length old) (book_trail points leads days after lines findings i d x)
      ≡ or_else (book_refusal points days count n m lines findings i d x (length old) (Some [])) (where_so (not (is_some (book_trail points leads days after lines findings i d x))) FalseEntry)
  last = words_last points days count n m lines (length findings) i d x (finding_in findings points days i d x) (length old) (book_trail points leads days after lines findings i d x)

  by_refusal : (why : Option Refusal) (new : List ℕ) (r : Result ℕ Refusal)
      → book_refusal points days count n m lines findings i d x (length old) (book_trail points leads days after lines findings i d x) ≡ why
      → r ≡ answer why (length (unwrap_or (book_trail points leads days after lines findings i d x) []))
      → new ≡ unless_refused why (written_on (unwrap_or (book_trail points leads days after lines findings i d x) []) old) old
      → Shown points days count n leads m after lines findings i d x old new r
  by_refusal why new r e a b = record {
    answered = a ∙ ap (λ (o : Option Refusal). answer o (length (unwrap_or (book_trail points leads days after lines findings i d x) []))) (sym e);
    strip = b ∙ ap (λ (o : Option Refusal). unless_refused o (written_on (unwrap_or (book_trail points leads days after lines findings i d x) []) old) old) (sym e);
  }

  module _ (none : book_refusal points days count n m lines findings i d x (length old) (Some []) ≡ None) where
    by_words : (b : Bool) → is_some (book_trail points leads days after lines findings i d x) ≡ b
        → book_refusal points days count n m lines findings i d x (length old) (book_trail points leads days after lines findings i d x) ≡ where_so (not b) FalseEntry
    by_words b e = last ∙ ap₂ (λ (o : Option Refusal) (t : Bool). or_else o (where_so (not t) FalseEntry)) none e

    pub shown_so : (new : List ℕ) (k : ℕ) → Put (book_trail points leads days after lines findings i d x) old new (Some k) → Shown points days count n leads m after lines findings i d x old new (Ok k)
    shown_so new k put =
        let c = counted k (book_trail points leads days after lines findings i d x) put.count in
        by_refusal None new (Ok k) (by_words true c.0) (ap Ok c.1) put.strip

    pub fails_so : (new : List ℕ) → Put (book_trail points leads days after lines findings i d x) old new None → Shown points days count n leads m after lines findings i d x old new (Err FalseEntry)
    fails_so new put =
        let c = nothing (book_trail points leads days after lines findings i d x) put.count in
        by_refusal (Some FalseEntry) new (Err FalseEntry) (by_words false (ap is_some c)) refl (put.strip ∙ ap (λ (o : Option (List ℕ)). written_on (unwrap_or o []) old) c)

    -- the answer, by what was written
    pub shown_by : (new : List ℕ) (r : Option ℕ) → Put (book_trail points leads days after lines findings i d x) old new r → Shown points days count n leads m after lines findings i d x old new (ok_or r FalseEntry)
    shown_by new (Some k) put = shown_so new k put
    shown_by new None put = fails_so new put
