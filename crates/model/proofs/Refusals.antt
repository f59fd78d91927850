-- The refusal of the first bad line: it stays, however many lines follow, and where there is none every line is lawful.
use Rattle.std.proofs.Common.{◌≡◌, ℕ, zero, suc, ◌*◌, ◌<◌, ◌≤◌, Bool, true, false, not, ◌||◌, eqb, List, length, Some, None, Option, refl, ap, subst, ap₂, ⊎_elim, arith}
use Rattle.std.proofs.lemmas.Bool.{cases_eq, cases_Bool, both_ways, and_parts, or_parts, not-false, eqb-true, eqb-false, ltb-false}
use Rattle.model.specs.declared.kind.KindRow.{KindRow}
use Rattle.model.specs.declared.line.Line.{Line}
use Rattle.model.specs.declared.refusal.Refusal.{Refusal}
use Rattle.model.specs.declared.refusal.Refusal.TheVariants.{OtherCounts, ShortBook, NoLines, BadOperand}
use Rattle.model.specs.Kinds.{kind_row}
use Rattle.model.specs.Lines.{line_at, row_ok, LawfulLines}
use Rattle.model.specs.Refusals.{where_so, or_else, row_refusal, line_refusal, lines_refusal, counts_refusal, readings_short, lines_short, findings_short, whole_refusal}

-- the refusal of the first bad line is that of all
pub first_bad : (lines : List Line) (k count : ℕ) (why : Refusal) → k < count → lines_refusal lines k ≡ None → line_refusal k (line_at lines k) ≡ Some why → lines_refusal lines count ≡ Some why
first_bad lines k zero why h before here = absurd (omega arith)
first_bad lines k (suc count) why h before here =
    ⊎_elim (λ (e : k ≡ count). subst (λ (j : ℕ). lines_refusal lines (suc j) ≡ Some why) e (ap₂ or_else before here))
    (λ (ne : k ≡ count → ⊥). ap (λ o. or_else o (line_refusal count (line_at lines count))) (first_bad lines k count why (omega arith) before here)) (cases_eq k count)

-- a line that is not refused is lawful, and a lawful one is not refused
pub passes : (o : Option KindRow) (i : ℕ) (line : Line) → row_refusal o i line ≡ None → row_ok o i line ≡ true
passes None i line h = absurd (let z : ◌≡◌ {A = ℕ} 0 1 = cc in omega arith)
passes (Some row) i line h =
    ⊎_elim (λ t. t)
    (λ f. let bad = ap (λ b. where_so (not b) BadOperand) f in absurd (let z : ◌≡◌ {A = ℕ} 0 1 = cc in omega arith))
    (cases_Bool (row_ok (Some row) i line))

granted : (o : Option KindRow) (i : ℕ) (line : Line) → row_ok o i line ≡ true → row_refusal o i line ≡ None
granted None i line h = absurd (both_ways false refl h)
granted (Some row) i line h = ap (λ b. where_so (not b) BadOperand) h

pub neither : (a b : Option Refusal) → or_else a b ≡ None → (a ≡ None) × (b ≡ None)
neither None b h = (refl, h)
neither (Some why) b h = absurd (let z : ◌≡◌ {A = ℕ} 0 1 = cc in omega arith)

-- where there is no refusal the test fails
pub not_so : (test : Bool) (why : Refusal) → where_so test why ≡ None → test ≡ false
not_so false why h = refl
not_so true why h = absurd (let z : ◌≡◌ {A = ℕ} 0 1 = cc in omega arith)

-- lines of which none is refused are lawful
pub lawful_unless : (lines : List Line) (count : ℕ) → lines_refusal lines count ≡ None → LawfulLines lines count
lawful_unless lines zero h i l = absurd (omega arith)
lawful_unless lines (suc k) h i l =
    let parts = neither (lines_refusal lines k) (line_refusal k (line_at lines k)) h in
    ⊎_elim (λ (e : i ≡ k). rw e (passes (kind_row (line_at lines k).kind) k (line_at lines k) parts.1))
    (λ (ne : i ≡ k → ⊥). lawful_unless lines k parts.0 i (omega arith)) (cases_eq i k)

pub unless_lawful : (lines : List Line) (count : ℕ) → LawfulLines lines count → lines_refusal lines count ≡ None
unless_lawful lines zero h = refl
unless_lawful lines (suc k) h =
    ap₂ or_else (unless_lawful lines k (λ i l. h i (omega arith))) (granted (kind_row (line_at lines k).kind) k (line_at lines k) (h k (omega arith)))

-- what is in order where the entries of a survey can all be worked or examined
pub record InOrder (points days count n m readings : ℕ) (lines : List Line) (findings : ℕ) : Type 0 where
  pub floor : n ≡ points
  pub calendar : m ≡ days
  pub readings_held : days * points ≤ readings
  pub lines_held : 64 ≤ length lines
  pub findings_held : count * (days * points) ≤ findings
  pub some : count ≡ 0 → ⊥
  pub lawful : LawfulLines lines count

pub in_order : (points days count n m readings : ℕ) (lines : List Line) (findings : ℕ) → whole_refusal points days count n m readings lines findings ≡ None → InOrder points days count n m readings lines findings
in_order points days count n m readings lines findings h =
    let a = neither (counts_refusal points days n m) _ h in
    let b = neither (where_so (readings_short points days readings || (lines_short (length lines) || findings_short points days count findings)) ShortBook) _ a.1 in
    let c = neither (where_so (eqb count 0) NoLines) _ b.1 in
    let counts = and_parts (eqb n points) (eqb m days) (not-false _ (not_so _ OtherCounts a.0)) in
    let held = or_parts (readings_short points days readings) _ (not_so _ ShortBook b.0) in
    let more = or_parts (lines_short (length lines)) _ held.1 in
    record {
      floor = eqb-true n points counts.0;
      calendar = eqb-true m days counts.1;
      readings_held = ltb-false readings (days * points) held.0;
      lines_held = ltb-false (length lines) 64 more.0;
      findings_held = ltb-false findings (count * (days * points)) more.1;
      some = eqb-false count 0 (not_so _ NoLines c.0);
      lawful = lawful_unless lines count c.1;
    }
