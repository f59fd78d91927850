-- Where a ledger and a world agree, the law of a survey's whole life holds.
use Rattle.std.proofs.Common.{◌≡◌, ℕ, suc, ◌*◌, ◌<◌, ◌≤◌, Bool, true, not, ◌↔◌, List, [], ◌∷◌, length, Some, None, Ok, Option, unwrap_or, sym, refl, ap, ◌∙◌, subst, ap₂, add-one, arith}
use Rattle.std.proofs.lemmas.Bool.{and_from, or_from, eq-eqb, ne_eqb, lt-ltb, le-ltb}
use Rattle.model.specs.declared.answers.Verdict.{Verdict}
use Rattle.model.specs.declared.answers.Verdict.TheVariants.{Accepted, FalseAt, Refused}
use Rattle.model.specs.declared.kind.Kind.TheVariants.{Surrounded, Awaited}
use Rattle.model.specs.declared.kind.KindRow.{KindRow}
use Rattle.model.specs.declared.kind.Operand.TheVariants.{Unused, Lower}
use Rattle.model.specs.declared.line.Line.{Line}
use Rattle.model.specs.declared.refusal.Refusal.{Refusal}
use Rattle.model.specs.declared.refusal.Refusal.TheVariants.{OtherCounts, ShortBook, OutOfRange, NoLines, NothingToShow, ShortStrip}
use Rattle.model.specs.Books.{model_of, reading_in, finding_in, BookHolds}
use Rattle.model.specs.Calls.{answer, unless_refused, is_entry, finding_of}
use Rattle.model.specs.Entries.{Holds}
use Rattle.model.specs.Examining.{Examined}
use Rattle.model.specs.Kinds.{kind_row}
use Rattle.model.specs.Lines.{line_at, line_ok, LawfulLines}
use Rattle.model.specs.Logic.{LawfulModel}
use Rattle.model.specs.Refusals.{where_so, or_else, whole_refusal}
use Rattle.model.specs.Relations.{Inside, Unending}
use Rattle.model.specs.Showing.{row_trail, shows, strip_needed, row_show_refusal, written_on}
use Rattle.model.specs.Table.{says_yes, number, kind_plane, awaited_word, table}
use Rattle.model.specs.Theorems.{SurroundedMeans, EveryFutureMeans}
use Rattle.model.specs.Ways.{WayOut, Circles}
use Rattle.model.proofs.Alike.{same_table}
use Rattle.model.proofs.Circled.{awaited_shown}
use Rattle.model.proofs.Futures.{every_future_law}
use Rattle.model.proofs.Paths.{surrounded_law}
use Rattle.model.proofs.Refusals.{in_order, unless_lawful}
use Rattle.model.proofs.Solution.{one_solution, plane_same}
use Rattle.model.proofs.Traces.{surrounded_shown}
use Rattle.model.proofs.OperandsRead.{read_so, operands_below}
use Rattle.model.proofs.Unfolding.{Placed, table_at}
use Rattle.journal.specs.Law.{says, left_of, right_of, awaits, SurroundedFinding, EveryFutureFinding, HoldsTheTable, WholeLife}
use Rattle.journal.specs.Ledgers.{Ledger, ledger_model}
use Rattle.journal.specs.Worlds.{World, asked, shown, not_shown, show_answer, show_strip}
use Rattle.journal.proofs.Agreement.{Facts, world, Agrees}

-- a way out is one by any answers that agree on the points
way_alike : (n : ℕ) (leads : ℕ → ℕ → Bool) → Inside n leads → (left left' right right' : ℕ → Bool) → ((y : ℕ) → y < n → left y ≡ left' y) → ((y : ℕ) → y < n → right y ≡ right' y)
    → (x : ℕ) (rest : List ℕ) → x < n → WayOut leads left right x rest → WayOut leads left' right' x rest
way_alike n leads inside left left' right right' l r x [] h w = record { walk = tt; outside = sym (l x h) ∙ w.outside; unbarred = tt }
way_alike n leads inside left left' right right' l r x (y ∷ ys) h w =
    let hy = (inside x y w.walk.0).1 in
    let rest = way_alike n leads inside left left' right right' l r y ys hy (record { walk = w.walk.1; outside = w.outside; unbarred = w.unbarred.1 }) in
    record { walk = (w.walk.0, rest.walk); outside = rest.outside; unbarred = (sym (r y hy) ∙ w.unbarred.0, rest.unbarred) }

-- and so are days that circle
circles_alike : (m : ℕ) (after : ℕ → ℕ → Bool) → Inside m after → (awaited awaited' : ℕ → Bool) → ((e : ℕ) → e < m → awaited e ≡ awaited' e) → (d : ℕ) (days : List ℕ) → Circles after awaited d days → Circles after awaited' d days
circles_alike m after inside awaited awaited' a d days c = record {
  last = c.last;
  ends = c.ends;
  starts = c.starts;
  back = c.back;
  earlier = c.earlier;
  repeated = c.repeated;
  run = c.run;
  circling = c.circling;
  never = λ k. sym (a (c.run.day k) (inside _ _ (c.run.goes k)).0) ∙ c.never k;
}

-- a lawful line with a row of the table is placed by that row
abbrev placed_by : (lines : List Line) (i : ℕ) (row : KindRow) → kind_row (line_at lines i).kind ≡ Some row → line_ok i (line_at lines i) ≡ true → Placed lines i
placed_by lines i row e ok =
    let line = line_at lines i in
    record { row = row; named = e; below = operands_below row.kind i line.left line.right (read_so i line line.kind ok row e) }

module _ (n : ℕ) (leads : ℕ → ℕ → Bool) (m : ℕ) (after : ℕ → ℕ → Bool) (inside_floor : Inside n leads) (inside_calendar : Inside m after) (unending : Unending m after)
    (L : Ledger) (worked : Bool) (readings : List ℕ) (lines : List Line) (findings strip : List ℕ) (f : Facts n leads m after L worked readings lines findings) where
  lawful_model : LawfulModel (model_of n leads m after readings)
  lawful_model = record { floor = inside_floor; calendar = inside_calendar; unending = unending }

  -- the lines of the book are lawful, since they are the ledger's
  lawful_book : LawfulLines lines (length L.lines)
  lawful_book i h = subst (λ (l : Line). line_ok i l ≡ true) (sym (f.same_lines i h)) (f.lawful i h)

  -- the table over the books is the table over the ledger
  ledger_table : (i d x : ℕ) → i < length L.lines → d < m → x < n → table (model_of n leads m after readings) lines i d x ≡ table (ledger_model n leads m after L) L.lines i d x
  ledger_table = same_table n m leads after (reading_in readings n) L.reading f.same_readings lines L.lines (length L.lines) lawful_book f.same_lines

  -- a book that holds the one holds the other
  holds_ledger : (book : List ℕ) → BookHolds (model_of n leads m after readings) lines (length L.lines) book → Holds (ledger_model n leads m after L) L.lines (length L.lines) (finding_in book n m)
  holds_ledger book h i d x hi hd hx = h i d x hi hd hx ∙ ledger_table i d x hi hd hx

  holds_book : (book : List ℕ) → Holds (ledger_model n leads m after L) L.lines (length L.lines) (finding_in book n m) → BookHolds (model_of n leads m after readings) lines (length L.lines) book
  holds_book book h i d x hi hd hx = h i d x hi hd hx ∙ sym (ledger_table i d x hi hd hx)

  -- nothing is refused of a book that is long enough, once there is a line
  granted : (book : List ℕ) → 1 ≤ length L.lines → length L.lines * (m * n) ≤ length book → whole_refusal n m (length L.lines) n m (length readings) lines (length book) ≡ None
  granted book some long =
      ap₂ or_else (ap (λ b. where_so (not b) OtherCounts) (and_from _ _ (eq-eqb n n refl) (eq-eqb m m refl)))
      (ap₂ or_else (ap (λ b. where_so b ShortBook) (or_from _ _ (le-ltb _ _ f.readings_held) (or_from _ _ (le-ltb _ _ f.lines_held) (le-ltb _ _ long))))
      (ap₂ or_else (ap (λ b. where_so b NoLines) (ne_eqb (length L.lines) 0 (λ e. omega arith))) (unless_lawful lines (length L.lines) lawful_book)))

  -- which books examine accepts
  judged : (book : List ℕ) (o : Option Refusal) → whole_refusal n m (length L.lines) n m (length readings) lines (length book) ≡ o → (verdict : Verdict) → 1 ≤ length L.lines
      → Examined o (model_of n leads m after readings) lines (length L.lines) book verdict → (verdict ≡ Accepted) ↔ HoldsTheTable n leads m after L book
  judged book (Some why) e verdict some x = (
    λ (a : verdict ≡ Accepted). absurd (let z : ◌≡◌ {A = ℕ} 0 1 = cc in omega arith),
    λ h. absurd (let g = granted book some h.long in let z : ◌≡◌ {A = ℕ} 0 1 = cc in omega arith),
  )
  judged book None e Accepted some x = (
    λ _. record {
      long = (in_order n m (length L.lines) n m (length readings) lines (length book) e).findings_held;
      words = holds_ledger book ((one_solution (model_of n leads m after readings) lines (length L.lines) lawful_model lawful_book (finding_in book n m)).0 x);
    },
    λ _. refl,
  )
  judged book None e (FalseAt place) some x = (
    λ a. absurd (let z : ◌≡◌ {A = ℕ} 0 1 = cc in omega arith),
    λ h. absurd (x.wrong ((one_solution (model_of n leads m after readings) lines (length L.lines) lawful_model lawful_book (finding_in book n m)).1 (holds_book book h.words) place.line place.day place.point x.in_lines x.in_days x.in_points)),
  )
  judged book None e (Refused why) some x = absurd x

  -- a worked survey's findings
  module _ (long : length L.lines * (m * n) ≤ length findings) (holds : BookHolds (model_of n leads m after readings) lines (length L.lines) findings) (i d x : ℕ) (hi : i < length L.lines) (hd : d < m) (hx : x < n) where
    -- the entry is answered
    entry_there : is_entry n m (length L.lines) i d x ≡ true
    entry_there = and_from _ _ (lt-ltb _ _ hi) (and_from _ _ (lt-ltb _ _ hd) (lt-ltb _ _ hx))

    answered : asked (world n leads m after L worked readings lines findings strip) i d x ≡ Ok (finding_of (finding_in findings n m i d x))
    answered =
        ap (λ o. answer o (finding_of (finding_in findings n m i d x)))
        (ap₂ or_else (ap (λ b. where_so b ShortBook) (le-ltb _ _ long)) (ap (λ b. where_so (not b) OutOfRange) entry_there))

    -- what a line of any kind in the table says
    module _ (row : KindRow) (named : kind_row (line_at L.lines i).kind ≡ Some row) where
      -- the row of the line, in the ledger and in the book
      abbrev in_ledger : Placed L.lines i
      in_ledger = placed_by L.lines i row named (f.lawful i hi)

      named_book : kind_row (line_at lines i).kind ≡ Some row
      named_book = ap (λ (l : Line). kind_row l.kind) (f.same_lines i hi) ∙ named

      abbrev in_book : Placed lines i
      in_book = placed_by lines i row named_book (lawful_book i hi)

      -- its words are its kind's, over the ledger's table and over the words of the book
      by_ledger : (e y : ℕ) → e < m → y < n → finding_in findings n m i e y ≡ kind_plane (ledger_model n leads m after L) row.kind (table (ledger_model n leads m after L) L.lines) (left_of n leads m after L i) (right_of n leads m after L i) e y
      by_ledger e y he hy = holds_ledger findings holds i e y hi he hy ∙ table_at (ledger_model n leads m after L) L.lines i in_ledger e y

      by_book : (e y : ℕ) → e < m → y < n → finding_in findings n m i e y ≡ kind_plane (model_of n leads m after readings) row.kind (finding_in findings n m) (line_at lines i).left (line_at lines i).right e y
      by_book e y he hy =
          holds i e y hi he hy ∙ table_at (model_of n leads m after readings) lines i in_book e y
          ∙ sym (plane_same (model_of n leads m after readings) row.kind (finding_in findings n m) (table (model_of n leads m after readings) lines) i (line_at lines i).left (line_at lines i).right (λ j c z hj. holds j c z (omega arith)) in_book.below e y he hy)

      -- what is shown of it, where the kind shows that answer, the strip is long enough and the words do not fail it
      module _ (tape : List ℕ) (list : List ℕ) (is : shown n leads m after (world n leads m after L worked readings lines findings strip) i d x ≡ Some list)
          (shows_it : shows row.kind (says_yes (finding_in findings n m i d x)) ≡ true) (enough : strip_needed row.kind m (number (finding_in findings n m i d x)) ≤ length tape) where
        nothing_refused : not_shown n leads m after (world n leads m after L worked readings lines findings strip) i d x (length tape) ≡ None
        nothing_refused =
            ap₂ or_else (ap (λ b. where_so (not b) OtherCounts) (and_from _ _ (eq-eqb n n refl) (eq-eqb m m refl)))
            (ap₂ or_else (ap (λ b. where_so b ShortBook) (or_from _ _ (le-ltb _ _ f.lines_held) (le-ltb _ _ long)))
            (ap₂ or_else (ap (λ b. where_so (not b) OutOfRange) entry_there)
            (ap₂ or_else (unless_lawful lines (length L.lines) lawful_book)
            (ap₂ (λ o s. row_show_refusal o m (finding_in findings n m i d x) (length tape) s) named_book is
            ∙ ap₂ or_else (ap (λ b. where_so (not b) NothingToShow) shows_it) (ap (λ b. or_else (where_so b ShortStrip) None) (le-ltb _ _ enough))))))

        told : show_answer n leads m after (world n leads m after L worked readings lines findings strip) i d x tape ≡ Ok (length list)
        told = ap₂ (λ o (s : Option (List ℕ)). answer o (length (unwrap_or s []))) nothing_refused is

        left_on : show_strip n leads m after (world n leads m after L worked readings lines findings strip) i d x tape ≡ written_on list tape
        left_on = ap₂ (λ o (s : Option (List ℕ)). unless_refused o (written_on (unwrap_or s []) tape) tape) nothing_refused is

    -- a surrounded finding
    surrounded_row : KindRow
    surrounded_row = record { letter = 83; kind = Surrounded; left = Lower; right = Lower }

    surrounded_finding : (line_at L.lines i).kind ≡ 83 → SurroundedFinding n leads m after L (world n leads m after L worked readings lines findings strip) i d x
    unfolding surrounded_row
    surrounded_finding letter =
        let row = surrounded_row in
        let named : kind_row (line_at L.lines i).kind ≡ Some row = ap kind_row letter in
        let l = (line_at lines i).left in
        let r = (line_at lines i).right in
        let own : ℕ → ℕ = finding_in findings n m i d in
        let below = (in_book row named).below in
        let left : ℕ → Bool = λ y. says n leads m after L (left_of n leads m after L i) d y in
        let right : ℕ → Bool = λ y. says n leads m after L (right_of n leads m after L i) d y in
        let left' : ℕ → Bool = λ y. says_yes (finding_in findings n m l d y) in
        let right' : ℕ → Bool = λ y. says_yes (finding_in findings n m r d y) in
        let same_left : (y : ℕ) → y < n → left' y ≡ left y = λ y hy. ap says_yes (holds_ledger findings holds l d y (omega (arith, below.0)) hd hy) ∙ ap (λ (k : Line). says n leads m after L k.left d y) (f.same_lines i hi) in
        let same_right : (y : ℕ) → y < n → right' y ≡ right y = λ y hy. ap says_yes (holds_ledger findings holds r d y (omega (arith, below.1)) hd hy) ∙ ap (λ (k : Line). says n leads m after L k.right d y) (f.same_lines i hi) in
        let means : SurroundedMeans n leads left right x (own x) = subst (λ (w : ℕ). SurroundedMeans n leads left right x w) (sym (by_ledger row named d x hd hx)) (surrounded_law n leads inside_floor left right x hx) in
        record {
          finding = finding_of (own x);
          answers = answered;
          no_by_a_way = means.no_by_a_way;
          shows_one = λ no_answer tape enough.
              let t = surrounded_shown n leads left' right' own (λ y hy. by_book row named d y hd hy) x hx no_answer in
              let list = x ∷ t.0 in
              let is : shown n leads m after (world n leads m after L worked readings lines findings strip) i d x ≡ Some list = ap (λ o. row_trail n leads m after o (finding_in findings n m) (line_at lines i) i d x) (named_book row named) ∙ t.1 in
              let shows_it = ap not no_answer in (
                t.0,
                way_alike n leads inside_floor left' left right' right same_left same_right x t.0 hx t.2,
                t.3,
                told row named tape list is shows_it enough ∙ ap Ok (ap suc t.3 ∙ sym (add-one (number (own x)))),
                left_on row named tape list is shows_it enough,
              );
          fewest = λ _ rest w. means.fewest rest w;
        }

    -- an every-future finding
    awaited_row : KindRow
    awaited_row = record { letter = 70; kind = Awaited; left = Lower; right = Unused }

    every_future_finding : (line_at L.lines i).kind ≡ 70 → EveryFutureFinding n leads m after L (world n leads m after L worked readings lines findings strip) i d x
    unfolding awaited_row
    every_future_finding letter =
        let row = awaited_row in
        let named : kind_row (line_at L.lines i).kind ≡ Some row = ap kind_row letter in
        let l = (line_at lines i).left in
        let own : ℕ → ℕ = λ e. finding_in findings n m i e x in
        let below = (in_book row named).below in
        let awaited : ℕ → Bool = awaits n leads m after L i x in
        let awaited' : ℕ → Bool = λ e. says_yes (finding_in findings n m l e x) in
        let same : (e : ℕ) → e < m → awaited' e ≡ awaited e = λ e he. ap says_yes (holds_ledger findings holds l e x (omega (arith, below)) he hx) ∙ ap (λ (k : Line). says n leads m after L k.left e x) (f.same_lines i hi) in
        let answers' : ℕ → Bool = λ e. says_yes (awaited_word m after awaited e) in
        let means : EveryFutureMeans m after awaited answers' d (own d) = subst (λ (w : ℕ). EveryFutureMeans m after awaited answers' d w) (sym (by_ledger row named d x hd hx)) (every_future_law m after inside_calendar unending awaited d hd) in
        record {
          finding = finding_of (own d);
          answers = answered;
          yes_by_a_bound = means.yes_by_a_bound;
          enough = means.enough;
          least_bound = λ _. means.least_bound;
          shows_a_circle = λ no_answer tape enough.
              let t = awaited_shown m after inside_calendar unending awaited' own (λ e he. by_book row named e x he hx) d hd no_answer in
              let is : shown n leads m after (world n leads m after L worked readings lines findings strip) i d x ≡ Some t.0 = ap (λ o. row_trail n leads m after o (finding_in findings n m) (line_at lines i) i d x) (named_book row named) ∙ t.1 in
              let shows_it = ap not no_answer in (
                t.0,
                circles_alike m after inside_calendar awaited' awaited same d t.0 t.2,
                told row named tape t.0 is shows_it enough,
                left_on row named tape t.0 is shows_it enough,
              );
        }

  -- the law where the world is made of a ledger
  lives : WholeLife n leads m after L (world n leads m after L worked readings lines findings strip)
  lives = record {
    surrounded = λ t i d x hi hd hx letter. let w = f.worked_out t in surrounded_finding w.0 w.1 i d x hi hd hx letter;
    every_future = λ t i d x hi hd hx letter. let w = f.worked_out t in every_future_finding w.0 w.1 i d x hi hd hx letter;
    accepts = λ some book verdict x. judged book _ refl verdict some x;
    own_book = λ t. let w = f.worked_out t in record { long = w.0; words = holds_ledger findings w.1 };
  }

-- the law where a ledger and a world agree
pub whole_life : (n : ℕ) (leads : ℕ → ℕ → Bool) (m : ℕ) (after : ℕ → ℕ → Bool) → Inside n leads → Inside m after → Unending m after → (L : Ledger) (w : World) → Agrees n leads m after L w → WholeLife n leads m after L w
whole_life n leads m after floor calendar unending L w g =
    subst (λ (v : World). WholeLife n leads m after L v) (sym g.is)
    (lives n leads m after floor calendar unending L w.worked w.readings w.lines w.findings w.strip g.facts)
