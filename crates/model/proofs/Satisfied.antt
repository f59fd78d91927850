-- Each kind of entry says yes exactly where its formula is satisfied, if the entries of its operands do.
use Rattle.std.proofs.Common.{◌≡◌, ℕ, zero, suc, ◌<◌, ◌≤◌, Bool, true, false, cond, not, ◌&&◌, ◌||◌, ◌⊎◌, ◌↔◌, List, sym, refl, ap, ◌∙◌, subst, inl, inr, ⊎_elim, arith}
use Rattle.std.proofs.lemmas.Bool.{cases_Bool, cases_eq, both_ways, and_parts, and_from, or_cases, or_left, or_right, not-true, not_from_false}
use Rattle.model.specs.declared.line.Line.{Line}
use Rattle.model.specs.declared.kind.Kind.{Kind}
use Rattle.model.specs.declared.kind.Kind.TheVariants.{Truth, Reading, Not, Or, Near, Surrounded, Next, Until, Awaited}
use Rattle.model.specs.Lines.{LawfulLines, line_at, kind_formula, formula_of}
use Rattle.model.specs.Logic.{Formula, Model, LawfulModel, Closure, Boundary, Run, UntilAlong, Sat}
use Rattle.model.specs.Numbers.{any}
use Rattle.model.specs.Relations.{Inside, Unending}
use Rattle.model.specs.Table.{word, says_yes, near_word, surrounded_word, until_word, awaited_word, Plane, kind_plane, table}
use Rattle.model.specs.Theorems.{Satisfaction}
use Rattle.model.specs.Books.{finding_in, BookHolds}
use Rattle.model.specs.Ways.{Region, no_days}
use Rattle.model.proofs.Futures.{every_future_law}
use Rattle.model.proofs.Numbers.{any_from, any_gives}
use Rattle.model.proofs.Paths.{surrounded_law, until_law}
use Rattle.model.proofs.Runs.{run_from, run_before, run_leads, beginning_run, run_begins}
use Rattle.model.proofs.Unfolding.{Below, placed, table_at, formula_at}
use Rattle.model.proofs.Words.{word_yes}

-- a test and a fact that hold together
abbrev pub Agree : Bool → Type 0 → Type 0
Agree b P = (b ≡ true) ↔ P

-- a word's answer agrees where the test that it was made from does
by_word : (b : Bool) (k : ℕ) (P : Type 0) → Agree b P → Agree (says_yes (word b k)) P
by_word b k P a = (λ e. a.0 (sym (word_yes b k) ∙ e), λ p. word_yes b k ∙ a.1 p)

agree_not : (b : Bool) (P : Type 0) → Agree b P → Agree (not b) (P → ⊥)
agree_not b P a = (
  λ e p. both_ways b (not-true b e) (a.1 p),
  λ n. ⊎_elim (λ (t : b ≡ true). absurd (n (a.0 t))) (not_from_false b) (cases_Bool b),
)

agree_or : (b c : Bool) (P Q : Type 0) → Agree b P → Agree c Q → Agree (b || c) (P ⊎ Q)
agree_or b c P Q a e = (
  λ t. ⊎_elim (λ s. inl (a.0 s)) (λ s. inr (e.0 s)) (or_cases b c t),
  ⊎_elim (λ p. or_left b c (a.1 p)) (λ q. or_right b c (e.1 q)),
)

-- near: the word's answer is the closure's test
near_answer : (n : ℕ) (leads : ℕ → ℕ → Bool) (left : ℕ → Bool) (x : ℕ) → says_yes (near_word n leads left x) ≡ (left x || any n (λ y. leads y x && left y))
near_answer n leads left x = go (left x) (any n (λ y. leads y x && left y))
  where
    go : (b c : Bool) → says_yes (cond b (word true 0) (cond c (word true 1) (word false 0))) ≡ (b || c)
    go true c = refl
    go false true = refl
    go false false = refl

agree_at : (b c : Bool) (P : Type 0) → b ≡ c → Agree c P → Agree b P
agree_at b c P e a = (λ t. a.0 (sym e ∙ t), λ p. e ∙ a.1 p)

-- near, over tests that agree with facts at every point
module _ (n : ℕ) (leads : ℕ → ℕ → Bool) (inside : Inside n leads) (left : ℕ → Bool) (P : ℕ → Type 0) (agree : (y : ℕ) → y < n → Agree (left y) (P y)) where
  near_agrees : (x : ℕ) → x < n → Agree (says_yes (near_word n leads left x)) (Closure leads P x)
  near_agrees x h =
      agree_at _ _ _ (near_answer n leads left x)
      (agree_or (left x) (any n (λ y. leads y x && left y)) (P x) _ (agree x h) (
        λ t. let w = any_gives n (λ y. leads y x && left y) t in let p = and_parts (leads w.0 x) (left w.0) w.2 in (w.0, (agree w.0 w.1).0 p.1, p.0),
        λ w. let l = (inside w.0 x w.2).0 in any_from n (λ y. leads y x && left y) w.0 l (and_from _ _ w.2 ((agree w.0 l).1 w.1)),
      ))

  -- surrounded: a region is a set whose closure's boundary has right throughout
  module _ (right : ℕ → Bool) (Q : ℕ → Type 0) (agree' : (y : ℕ) → y < n → Agree (right y) (Q y)) where
    surrounded_agrees : (x : ℕ) → x < n → Agree (says_yes (surrounded_word n leads left right x))
        ((A : ℕ → Bool) × ((y : ℕ) → A y ≡ true → y < n) × (A x ≡ true) × ((y : ℕ) → A y ≡ true → P y) × ((z : ℕ) → Boundary leads (λ y. A y ≡ true) z → Q z))
    surrounded_agrees x h =
        let law = (surrounded_law n leads inside left right x h).yes_by_a_region in (
          λ e. let w = law.0 e in
              let r = w.1 in (
                w.0,
                r.points,
                w.2,
                (λ y t. (agree y (r.points y t)).0 (r.throughout y t)),
                (λ z b. bordered w.0 r z b.0 b.1),
              ),
          λ w. law.1 (
            w.0,
            record {
              points = w.1;
              throughout = λ y t. (agree y (w.1 y t)).1 (w.3 y t);
              border = λ y z t l f. (agree' z (inside y z l).1).1 (w.4 z (inr (y, t, l), λ t'. both_ways (w.0 z) f t'));
            },
            w.2,
          ),
        )
      where
        bordered : (A : ℕ → Bool) → Region n leads left right A → (z : ℕ) → Closure leads (λ y. A y ≡ true) z → (A z ≡ true → ⊥) → Q z
        bordered A r z (inl t) not_in = absurd (not_in t)
        bordered A r z (inr w) not_in =
            (agree' z (inside w.0 z w.2).1).0 (r.border w.0 z w.1 w.2 (⊎_elim (λ (t : A z ≡ true). absurd (not_in t)) (λ f. f) (cases_Bool (A z))))

-- next, until and awaited, over tests that agree with facts on every day
module _ (m : ℕ) (after : ℕ → ℕ → Bool) (inside : Inside m after) (unending : Unending m after) (left : ℕ → Bool) (P : ℕ → Type 0) (agree : (e : ℕ) → e < m → Agree (left e) (P e)) where
  -- the days of a run are days
  day_below : (d : ℕ) (r : Run after d) (i : ℕ) → r.day i < m
  day_below d r i = (inside (r.day i) (r.day (suc i)) (r.goes i)).0

  next_agrees : (d : ℕ) → Agree (any m (λ e. after d e && left e)) ((r : Run after d) × P (r.day 1))
  next_agrees d = (
    λ t. let w = any_gives m (λ e. after d e && left e) t in
        let p = and_parts (after d w.0) (left w.0) w.2 in
        (run_before after d w.0 p.0 (run_from m after inside unending w.0 w.1), (agree w.0 w.1).0 p.1),
    λ w. let l = day_below d w.0 1 in
        any_from m (λ e. after d e && left e) (w.0.day 1) l (and_from _ _ (run_leads after d w.0) ((agree (w.0.day 1) l).1 w.1)),
  )

  until_agrees : (right : ℕ → Bool) (Q : ℕ → Type 0) → ((e : ℕ) → e < m → Agree (right e) (Q e)) → (d : ℕ) → d < m → Agree (says_yes (until_word m after left right d)) ((r : Run after d) × UntilAlong P Q r.day)
  until_agrees right Q agree' d h =
      let law = (until_law m after inside left right d h).yes_by_a_beginning in (
        λ e. let b = law.0 e in
            let w = beginning_run m after inside unending left right d b.0 h b.1 in
            let u = w.1 in
            (w.0, (u.0, (agree' _ (day_below d w.0 u.0)).0 u.1, λ k l. (agree _ (day_below d w.0 k)).0 (u.2 k l))),
        λ w. let u = w.1 in
            law.1 (run_begins after left right u.0 d w.0 ((agree' _ (day_below d w.0 u.0)).1 u.1) (λ k l. (agree _ (day_below d w.0 k)).1 (u.2 k l))),
      )

  awaited_agrees : (d : ℕ) → d < m → Agree (says_yes (awaited_word m after left d)) ((r : Run after d) → UntilAlong (λ e. Unit {0}) P r.day)
  awaited_agrees d h =
      let law = every_future_law m after inside unending left d h in (
        λ e r. let w = (law.yes_by_a_bound.0 e).1 r in (w.0, (agree _ (day_below d r w.0)).0 w.2, λ k l. tt),
        λ all. ⊎_elim (λ t. t)
            (λ (f : says_yes (awaited_word m after left d) ≡ false).
            let c = law.circles f in
            let r : Run after d = record { day = no_days m after (λ e. says_yes (awaited_word m after left e)) d; starts = refl; goes = c.goes } in
            let w = all r in
            absurd (both_ways (left (r.day w.0)) (c.never w.0) ((agree _ (day_below d r w.0)).1 w.1)))
            (cases_Bool (says_yes (awaited_word m after left d))),
      )

-- the words of a line agree with a formula at every day and point
abbrev pub Agrees : Model → Plane → Formula → Type 0
Agrees M plane f = (d x : ℕ) → d < M.days → x < M.points → Agree (says_yes (plane d x)) (Sat M f x d)

-- the words of a kind agree with its formula where those of the lines below do
pub kind_agrees : (M : Model) → LawfulModel M → (kind : Kind) (lower : ℕ → Plane) (f : ℕ → Formula) (i l r : ℕ)
    → ((j : ℕ) → j < i → Agrees M (lower j) (f j)) → Below kind i l r → Agrees M (kind_plane M kind lower l r) (kind_formula kind f l r)
kind_agrees M lawful Truth lower f i l r all b d x hd hx = (λ _. tt, λ _. refl)
kind_agrees M lawful Reading lower f i l r all b d x hd hx = by_word _ 0 _ (λ e. e, λ e. e)
kind_agrees M lawful Not lower f i l r all b d x hd hx = by_word _ 0 _ (agree_not _ _ (all l b d x hd hx))
kind_agrees M lawful Or lower f i l r all b d x hd hx = by_word _ 0 _ (agree_or _ _ _ _ (all l b.0 d x hd hx) (all r b.1 d x hd hx))
kind_agrees M lawful Near lower f i l r all b d x hd hx =
    near_agrees M.points M.leads lawful.floor (λ y. says_yes (lower l d y)) (λ y. Sat M (f l) y d) (λ y h. all l b d y hd h) x hx
kind_agrees M lawful Surrounded lower f i l r all b d x hd hx =
    surrounded_agrees M.points M.leads lawful.floor (λ y. says_yes (lower l d y)) (λ y. Sat M (f l) y d) (λ y h. all l b.0 d y hd h)
    (λ y. says_yes (lower r d y)) (λ y. Sat M (f r) y d) (λ y h. all r b.1 d y hd h) x hx
kind_agrees M lawful Next lower f i l r all b d x hd hx =
    by_word _ 0 _ (next_agrees M.days M.after lawful.calendar lawful.unending (λ e. says_yes (lower l e x)) (λ e. Sat M (f l) x e) (λ e h. all l b e x h hx) d)
kind_agrees M lawful Until lower f i l r all b d x hd hx =
    until_agrees M.days M.after lawful.calendar lawful.unending (λ e. says_yes (lower l e x)) (λ e. Sat M (f l) x e) (λ e h. all l b.0 e x h hx)
    (λ e. says_yes (lower r e x)) (λ e. Sat M (f r) x e) (λ e h. all r b.1 e x h hx) d hd
kind_agrees M lawful Awaited lower f i l r all b d x hd hx =
    awaited_agrees M.days M.after lawful.calendar lawful.unending (λ e. says_yes (lower l e x)) (λ e. Sat M (f l) x e) (λ e h. all l b e x h hx) d hd

-- and so line by line
module _ (M : Model) (lines : List Line) (count : ℕ) (lawful : LawfulModel M) (lawful_lines : LawfulLines lines count) where
  lines_agree : (k : ℕ) → k ≤ count → (j : ℕ) → j < k → Agrees M (table M lines j) (formula_of lines j)
  lines_agree zero h j l = absurd (omega arith)
  lines_agree (suc k) h j l =
      ⊎_elim
      (λ (e : j ≡ k).
      let p = placed lines count lawful_lines k (omega arith) in
      let line = line_at lines k in
      let agrees = kind_agrees M lawful p.row.kind (table M lines) (formula_of lines) k line.left line.right (lines_agree k (omega arith)) p.below in
      subst (λ (i : ℕ). Agrees M (table M lines i) (formula_of lines i)) (sym e)
      (λ d x hd hx. agree_at _ _ _ (ap says_yes (table_at M lines k p d x)) (subst (λ (f : Formula). Agree (says_yes (kind_plane M p.row.kind (table M lines) line.left line.right d x)) (Sat M f x d)) (sym (formula_at lines k p)) (agrees d x hd hx))))
      (λ (ne : j ≡ k → ⊥). lines_agree k (omega arith) j (omega arith))
      (cases_eq j k)

pub satisfaction : Satisfaction
satisfaction M lines count lawful lawful_lines i d x hi hd hx = lines_agree M lines count lawful lawful_lines count (omega arith) i hi d x hd hx

-- a findings book that holds the table says yes exactly where the line's formula is satisfied
pub holds_means : (M : Model) (lines : List Line) (count : ℕ) → LawfulModel M → LawfulLines lines count → (findings : List ℕ) → BookHolds M lines count findings → (i d x : ℕ) → i < count → d < M.days → x < M.points → (says_yes (finding_in findings M.points M.days i d x) ≡ true) ↔ Sat M (formula_of lines i) x d
holds_means M lines count lawful lawful_lines findings holds i d x hi hd hx =
    agree_at _ _ _ (ap says_yes (holds i d x hi hd hx)) (satisfaction M lines count lawful lawful_lines i d x hi hd hx)
