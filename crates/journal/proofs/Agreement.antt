-- A ledger and a world agree: at the opening, and after each event that fits.
use Rattle.std.proofs.Common.{◌≡◌, ℕ, ◌+◌, ◌*◌, ◌<◌, ◌≤◌, Bool, true, false, cond, not, ◌&&◌, eqb, ltb, leb, List, [], ◌∷◌, ◌++◌, length, get_or, set, Some, None, Option, sym, refl, ap, ◌∙◌, subst, ap₂, ⊎_elim, zero-add, arith, length-append, length-set}
use Rattle.std.proofs.lemmas.List.{get_or-set_same, get_or-set_other, get_or_append_left, get_or_push}
use Rattle.std.proofs.lemmas.Bool.{cases_eq, both_ways, and_parts, or_parts, le-ltb, leb-false, ltb-true, ltb-false}
use Rattle.model.specs.declared.line.Line.{Line}
use Rattle.model.specs.declared.refusal.Refusal.{Refusal}
use Rattle.model.specs.declared.refusal.Refusal.TheVariants.{CalendarSize, ShortBook, OutOfRange, LinesFull}
use Rattle.model.specs.Books.{model_of, reading_in, BookHolds}
use Rattle.model.specs.Calls.{unless_refused, open_refusal, on_map, record_refusal, recorded, on_scale, reaches_level, phrase_refusal}
use Rattle.model.specs.Kinds.{kind_row}
use Rattle.model.specs.Lines.{line_at, line_ok, LawfulLines}
use Rattle.model.specs.Refusals.{where_so, or_else, line_refusal, readings_short}
use Rattle.model.specs.Masks.{bit}
use Rattle.model.proofs.Masks.{bit_none}
use Rattle.model.proofs.Readings.{sets_one_reading}
use Rattle.model.proofs.Refusals.{neither, not_so, passes, in_order}
use Rattle.engine.proofs.Filled.{day_fits}
use Rattle.journal.specs.declared.event.Answer.{Answer}
use Rattle.journal.specs.declared.event.Event.{Event}
use Rattle.journal.specs.declared.event.Event.TheVariants.{Record, Gauge, Phrase, Work, Ask, Show, Examine, ExamineOther, Reopen}
use Rattle.journal.specs.Ledgers.{Ledger, opening, with_reading, with_line, line_of, ledger_refusal, noted, ledger_after}
use Rattle.journal.specs.Replays.{Opened}
use Rattle.journal.specs.Worlds.{World, fits, not_whole, Works, Stepped, Life}

module _ (n : ℕ) (leads : ℕ → ℕ → Bool) (m : ℕ) (after : ℕ → ℕ → Bool) where
  -- what the books of a survey have of a ledger
  pub record Facts (L : Ledger) (worked : Bool) (readings : List ℕ) (lines : List Line) (findings : List ℕ) : Type 0 where
    pub points : L.points ≡ n
    pub days : L.days ≡ m
    pub same_lines : (i : ℕ) → i < length L.lines → line_at lines i ≡ line_at L.lines i
    pub lawful : LawfulLines L.lines (length L.lines)
    pub same_readings : (d x a : ℕ) → d < m → x < n → a < 32 → reading_in readings n d x a ≡ L.reading d x a
    pub readings_held : m * n ≤ length readings
    pub lines_held : 64 ≤ length lines
    pub worked_out : worked ≡ true → (length L.lines * (m * n) ≤ length findings) × BookHolds (model_of n leads m after readings) lines (length L.lines) findings

  -- the world of a ledger with these books
  abbrev pub world : Ledger → Bool → List ℕ → List Line → List ℕ → List ℕ → World
  world L worked readings lines findings strip =
      record { worked = worked; points = n; days = m; count = length L.lines; readings = readings; lines = lines; findings = findings; strip = strip }

  pub record Agrees (L : Ledger) (w : World) : Type 0 where
    pub is : w ≡ world L w.worked w.readings w.lines w.findings w.strip
    pub facts : Facts L w.worked w.readings w.lines w.findings

  -- a world made so agrees where the facts hold
  made : (L : Ledger) (worked : Bool) (readings : List ℕ) (lines : List Line) (findings strip : List ℕ) → Facts L worked readings lines findings → Agrees L (world L worked readings lines findings strip)
  made L worked readings lines findings strip f = record { is = refl; facts = f }

  module _ (L : Ledger) (readings : List ℕ) (lines : List Line) (findings strip : List ℕ) where
    -- a place of the readings book
    in_book : (day point : ℕ) → m * n ≤ length readings → day < m → point < n → day * n + point < length readings
    in_book day point h hd hp = omega (arith, day_fits day m n hd)

    -- one reading more, where the arguments are in order, and else nothing
    read : (day point atom : ℕ) (value ok : Bool) → (ok ≡ true → on_map n m day point atom ≡ true) → Facts L false readings lines findings
        → Agrees (cond ok (with_reading day point atom value L) L) (world L false (unless_refused (where_so (not ok) OutOfRange) (recorded n day point atom value readings) readings) lines findings strip)
    read day point atom value false on f = made L false readings lines findings strip f
    read day point atom value true on f =
        let a = and_parts _ _ (on refl) in
        let b = and_parts _ _ a.1 in
        let hd = ltb-true _ _ a.0 in
        let hp = ltb-true _ _ b.0 in
        let ha = ltb-true _ _ b.1 in
        let place = day * n + point in
        made (with_reading day point atom value L) false (recorded n day point atom value readings) lines findings strip (record {
          points = f.points;
          days = f.days;
          same_lines = f.same_lines;
          lawful = f.lawful;
          same_readings = λ d x k h l s. sets_one_reading n m day point atom value readings hp ha (in_book day point f.readings_held hd hp) d x k h l s
              ∙ ap (λ t. cond (eqb d day && (eqb x point && eqb k atom)) value t) (f.same_readings d x k h l s);
          readings_held = simp length-set f.readings_held;
          lines_held = f.lines_held;
          worked_out = λ t. absurd (both_ways false refl t);
        })

    -- a recording and a gauging go by the ledger's own tests, since the book is long enough
    record_by : (day point atom : ℕ) → m * n ≤ length readings → record_refusal n m (length readings) day point atom ≡ where_so (not (on_map n m day point atom)) OutOfRange
    record_by day point atom h = ap (λ b. or_else (where_so b ShortBook) (where_so (not (on_map n m day point atom)) OutOfRange)) (le-ltb (length readings) (m * n) h)

    joined : (a b : Bool) → or_else (where_so (not a) OutOfRange) (where_so (not b) OutOfRange) ≡ where_so (not (a && b)) OutOfRange
    joined true b = refl
    joined false b = refl

    -- one line more, where it is granted, and else nothing
    lined : (line : Line) (o : Option Refusal) → ledger_refusal L line ≡ o → Facts L false readings lines findings
        → Agrees (unless_refused o (with_line line L) L) (record { worked = false; points = n; days = m; count = unless_refused o (length L.lines + 1) (length L.lines); readings = readings; lines = unless_refused o (set lines (length L.lines) line) lines; findings = findings; strip = strip })
    lined line (Some why) e f = made L false readings lines findings strip f
    lined line None e f =
        let count = length L.lines in
        let parts = neither (where_so (leb 64 count) LinesFull) (line_refusal count line) e in
        let few : count < 64 = leb-false 64 count (not_so _ LinesFull parts.0) in
        let more : length (L.lines ++ line ∷ []) ≡ count + 1 = length-append L.lines (line ∷ []) in
        let blank : Line = record { kind = 0; left = 0; right = 0 } in
        let new = set lines count line in
        let facts : Facts (with_line line L) false readings new findings = record {
          points = f.points;
          days = f.days;
          same_lines = λ i h.
              ⊎_elim
              (λ (s : i ≡ count). rw s (get_or-set_same lines count line blank (omega (arith, f.lines_held)) ∙ sym (get_or_push L.lines line blank count refl)))
              (λ (ne : i ≡ count → ⊥).
              get_or-set_other lines count i line blank ne ∙ f.same_lines i (omega (arith, more)) ∙ sym (get_or_append_left L.lines (line ∷ []) blank i (omega (arith, more))))
              (cases_eq i count);
          lawful = λ i h.
              ⊎_elim
              (λ (s : i ≡ count). subst (λ (l : Line). line_ok i l ≡ true) (sym (ap (line_at (L.lines ++ line ∷ [])) s ∙ get_or_push L.lines line blank count refl))
              (subst (λ (k : ℕ). line_ok k line ≡ true) (sym s) (passes (kind_row line.kind) count line parts.1)))
              (λ (ne : i ≡ count → ⊥). subst (λ (l : Line). line_ok i l ≡ true) (sym (get_or_append_left L.lines (line ∷ []) blank i (omega (arith, more)))) (f.lawful i (omega (arith, more))))
              (cases_eq i count);
          same_readings = f.same_readings;
          readings_held = f.readings_held;
          lines_held = simp length-set f.lines_held;
          worked_out = λ t. absurd (both_ways false refl t);
        } in
        record { is = ap (λ k. record { worked = false; points = n; days = m; count = k; readings = readings; lines = new; findings = findings; strip = strip }) (sym more); facts = facts }

    -- the same where every entry is written
    worked_so : (v : World) (o : Option Refusal) → not_whole n leads m after (world L false readings lines findings strip) findings ≡ o → Works n leads m after o (world L false readings lines findings strip) v → Facts L false readings lines findings → Agrees L v
    worked_so v (Some why) e s f = subst (λ (u : World). Agrees L u) (sym s) (made L false readings lines findings strip f)
    worked_so v None e s f =
        let order = in_order n m (length L.lines) n m (length readings) lines (length findings) e in
        subst (λ (u : World). Agrees L u) (sym s.0) (made L true readings lines v.findings strip (record {
          points = f.points;
          days = f.days;
          same_lines = f.same_lines;
          lawful = f.lawful;
          same_readings = f.same_readings;
          readings_held = f.readings_held;
          lines_held = f.lines_held;
          worked_out = λ t. (omega (arith, order.findings_held, s.1), s.2.holds);
        }))

    -- a survey that is open owes nothing of its findings
    reopened : (worked : Bool) → Facts L worked readings lines findings → Facts L false readings lines findings
    reopened worked f = record {
      points = f.points;
      days = f.days;
      same_lines = f.same_lines;
      lawful = f.lawful;
      same_readings = f.same_readings;
      readings_held = f.readings_held;
      lines_held = f.lines_held;
      worked_out = λ t. absurd (both_ways false refl t);
    }

    -- what was noted and what was recorded, by one test
    noted_so : (day point atom : ℕ) (value ok : Bool) (test : Bool) (refusal : Option Refusal) → test ≡ ok → refusal ≡ where_so (not ok) OutOfRange → (ok ≡ true → on_map n m day point atom ≡ true) → Facts L false readings lines findings
        → Agrees (cond test (with_reading day point atom value L) L) (world L false (unless_refused refusal (recorded n day point atom value readings) readings) lines findings strip)
    noted_so day point atom value ok test refusal e r on f = rw (e, r) (read day point atom value ok on f)

    stepped : (event : Event) (a : Answer) (worked : Bool) (v : World) → Facts L worked readings lines findings → fits worked event ≡ true → Stepped n leads m after (world L worked readings lines findings strip) event a v → Agrees (noted L event) v
    stepped (Record at value) a true v f fit s = absurd (both_ways false refl fit)
    stepped (Record at value) a false v f fit s =
        subst (λ (u : World). Agrees (noted L (Record at value)) u) (sym s.1)
        (noted_so at.day at.point at.atom value (on_map n m at.day at.point at.atom) _ _ (ap₂ (λ p q. on_map p q at.day at.point at.atom) f.points f.days) (record_by at.day at.point at.atom f.readings_held) (λ t. t) f)
    stepped (Gauge at tenths level) a true v f fit s = absurd (both_ways false refl fit)
    stepped (Gauge at tenths level) a false v f fit s =
        let here = on_map n m at.day at.point at.atom in
        let scale = on_scale tenths level in
        subst (λ (u : World). Agrees (noted L (Gauge at tenths level)) u) (sym s.1)
        (noted_so at.day at.point at.atom (reaches_level tenths level) (here && scale) _ _ (ap₂ (λ p q. on_map p q at.day at.point at.atom && scale) f.points f.days)
        (ap (λ o. or_else o (where_so (not scale) OutOfRange)) (record_by at.day at.point at.atom f.readings_held) ∙ joined here scale) (λ t. (and_parts here scale t).0) f)
    stepped (Phrase kind left right) a true v f fit s = absurd (both_ways false refl fit)
    stepped (Phrase kind left right) a false v f fit s =
        let line = line_of kind left right in
        let same : phrase_refusal (length lines) (length L.lines) line ≡ ledger_refusal L line = ap (λ b. or_else (where_so b ShortBook) (ledger_refusal L line)) (le-ltb (length lines) 64 f.lines_held) in
        subst (λ (u : World). Agrees (noted L (Phrase kind left right)) u) (sym s.1)
        (subst (λ (o : Option Refusal). Agrees (noted L (Phrase kind left right)) (record { worked = false; points = n; days = m; count = unless_refused o (length L.lines + 1) (length L.lines); readings = readings; lines = unless_refused o (set lines (length L.lines) line) lines; findings = findings; strip = strip })) (sym same)
        (lined line (ledger_refusal L line) refl f))
    stepped Work a true v f fit s = absurd (both_ways false refl fit)
    stepped Work a false v f fit s = worked_so v _ refl s.1 f
    stepped (Ask place) a worked v f fit s = subst (λ (u : World). Agrees L u) (sym s.1) (made L worked readings lines findings strip f)
    stepped (Show place) a worked v f fit s = subst (λ (u : World). Agrees L u) (sym s.1) (made L worked readings lines findings _ f)
    stepped Examine a worked v f fit s = subst (λ (u : World). Agrees L u) (sym s.1) (made L worked readings lines findings strip f)
    stepped (ExamineOther book) a worked v f fit s = subst (λ (u : World). Agrees L u) (sym s.1) (made L worked readings lines findings strip f)
    stepped Reopen a worked v f fit s = subst (λ (u : World). Agrees L u) (sym s.1) (made L false readings lines findings strip (reopened worked f))

  -- one event that fits, and a list of them
  agrees_step : (L : Ledger) (w : World) (event : Event) (a : Answer) (v : World) → Agrees L w → fits w.worked event ≡ true → Stepped n leads m after w event a v → Agrees (noted L event) v
  agrees_step L w event a v g fit s =
      stepped L w.readings w.lines w.findings w.strip event a w.worked v g.facts fit
      (subst (λ (u : World). Stepped n leads m after u event a v) g.is s)

  pub agrees_life : (events : List Event) (L : Ledger) (w v : World) → Agrees L w → Life n leads m after w events v → Agrees (ledger_after L events) v
  agrees_life [] L w v g e = subst (λ (u : World). Agrees L u) (sym e) g
  agrees_life (event ∷ events) L w v g (a, u, fit, s, rest) = agrees_life events (noted L event) u v (agrees_step L w event a u g fit s) rest

  -- at the opening
  pub agrees_opening : (readings : List ℕ) (lines : List Line) (findings strip : List ℕ) (w : World) → open_refusal n m (length readings) (length lines) ≡ None → Opened n m readings lines findings strip w → Agrees (opening n m) w
  agrees_opening readings lines findings strip w e o =
      let a = neither (where_so (ltb 64 m) CalendarSize) _ e in
      let held = or_parts (readings_short n m (length readings)) _ (not_so _ ShortBook a.1) in
      subst (λ (u : World). Agrees (opening n m) u) (sym o.is) (made (opening n m) false w.readings lines findings strip (record {
        points = refl;
        days = refl;
        same_lines = λ i h. absurd (omega arith);
        lawful = λ i h. absurd (omega arith);
        same_readings = λ d x k hd hx hk.
            ap (λ v. bit v k) (ap (λ i. get_or w.readings i 0) (sym (zero-add (d * n + x))) ∙ o.cleared.words (d * n + x) (omega (arith, day_fits d m n hd))) ∙ bit_none k;
        readings_held = omega (arith, ltb-false (length readings) (m * n) held.0, o.long);
        lines_held = ltb-false (length lines) 64 held.1;
        worked_out = λ t. absurd (both_ways false refl t);
      }))
