-- Words obey the entry rule everywhere exactly when they are the table's everywhere.
use Rattle.std.proofs.Common.{◌≡◌, ℕ, zero, suc, ◌<◌, ◌≤◌, Bool, true, false, cond, not, ◌&&◌, ◌||◌, ◌↔◌, List, Some, None, sym, refl, ap, ◌∙◌, ap₂, ⊎_elim, arith}
use Rattle.std.proofs.lemmas.Bool.{cases_eq}
use Rattle.model.specs.declared.kind.Kind.{Kind}
use Rattle.model.specs.declared.kind.Kind.TheVariants.{Truth, Reading, Not, Or, Near, Surrounded, Next, Until, Awaited}
use Rattle.model.specs.declared.line.Line.{Line}
use Rattle.model.specs.Entries.{kind_entry, row_entry, entry, Obeys, Holds}
use Rattle.model.specs.Lines.{line_at, LawfulLines}
use Rattle.model.specs.Logic.{Model, LawfulModel}
use Rattle.model.specs.Numbers.{least, or_later}
use Rattle.model.specs.Table.{word, says_yes, no_word, yes_word, reaches, rank, sure, wait, Plane, kind_plane, table}
use Rattle.model.specs.Theorems.{OneSolution}
use Rattle.model.proofs.Fixpoints.{one_surrounded, one_until, one_awaited}
use Rattle.model.proofs.Numbers.{any_same, every_same}
use Rattle.model.proofs.Unfolding.{Below, placed, table_at}

-- tests that agree below n have the same least number
pub least_same : (n : ℕ) (t u : ℕ → Bool) → ((k : ℕ) → k < n → t k ≡ u k) → least n t ≡ least n u
least_same zero t u same = refl
least_same (suc n) t u same = ap₂ or_later (least_same n t u (λ k h. same k (omega arith))) (ap (λ b. cond b (Some n) None) (same n (omega arith)))

-- the fewest steps depend on the steps and the goals below n only
module _ (n : ℕ) (step step' : ℕ → ℕ → Bool) (goal goal' : ℕ → Bool)
    (steps : (x y : ℕ) → x < n → y < n → step x y ≡ step' x y) (goals : (x : ℕ) → x < n → goal x ≡ goal' x) where
  -- level by level
  reaches_same : (k x : ℕ) → x < n → reaches n step goal k x ≡ reaches n step' goal' k x
  reaches_same zero x h = goals x h
  reaches_same (suc k) x h = ap₂ (λ a b. a || b) (goals x h) (any_same n _ _ (λ y l. ap₂ (λ a b. a && b) (steps x y h l) (reaches_same k y l)))

  pub rank_same : (x : ℕ) → x < n → rank n step goal x ≡ rank n step' goal' x
  rank_same x h = least_same n _ _ (λ k _. reaches_same k x h)

-- and the steps to an awaited day on the awaited days below m only
module _ (m : ℕ) (after : ℕ → ℕ → Bool) (awaited awaited' : ℕ → Bool) (same : (d : ℕ) → d < m → awaited d ≡ awaited' d) where
  -- level by level
  sure_same : (k d : ℕ) → d < m → sure m after awaited k d ≡ sure m after awaited' k d
  sure_same zero d h = same d h
  sure_same (suc k) d h = ap₂ (λ a b. a || b) (same d h) (every_same m _ _ (λ e l. ap (λ b. not (after d e) || b) (sure_same k e l)))

  pub wait_same : (d : ℕ) → d < m → wait m after awaited d ≡ wait m after awaited' d
  wait_same d h = least_same m _ _ (λ k _. sure_same k d h)

-- two lots of words agree on the days and points of a model at the lines below i
abbrev pub Agree : Model → ℕ → (ℕ → Plane) → (ℕ → Plane) → Type 0
Agree M i words words' = (j d x : ℕ) → j < i → d < M.days → x < M.points → words j d x ≡ words' j d x

-- the words of a kind depend on what the lines below have on the days and points of the model only
pub plane_same : (M : Model) (kind : Kind) (words words' : ℕ → Plane) (i left right : ℕ) → Agree M i words words' → Below kind i left right → (d x : ℕ) → d < M.days → x < M.points → kind_plane M kind words left right d x ≡ kind_plane M kind words' left right d x
plane_same M Truth words words' i left right same b d x h l = refl
plane_same M Reading words words' i left right same b d x h l = refl
plane_same M Not words words' i left right same b d x h l = rw (same left d x b h l)
plane_same M Or words words' i left right same b d x h l = rw (same left d x b.0 h l, same right d x b.1 h l)
plane_same M Near words words' i left right same b d x h l =
    ap₂ (λ here there. cond here (word true 0) (cond there (word true 1) (word false 0)))
    (ap says_yes (same left d x b h l)) (any_same M.points _ _ (λ y g. ap (λ w. M.leads y x && says_yes w) (same left d y b h g)))
plane_same M Surrounded words words' i left right same b d x h l =
    ap no_word (rank_same M.points _ _ _ _ (λ y z f g. ap (λ w. M.leads y z && not (says_yes w)) (same right d z b.1 h g)) (λ y g. ap (λ w. not (says_yes w)) (same left d y b.0 h g)) x l)
plane_same M Next words words' i left right same b d x h l =
    ap (λ t. word t 0) (any_same M.days _ _ (λ e g. ap (λ w. M.after d e && says_yes w) (same left e x b g l)))
plane_same M Until words words' i left right same b d x h l =
    ap yes_word (rank_same M.days _ _ _ _ (λ e f g k. ap (λ w. says_yes w && M.after e f) (same left e x b.0 g l)) (λ e g. ap says_yes (same right e x b.1 g l)) d h)
plane_same M Awaited words words' i left right same b d x h l =
    ap yes_word (wait_same M.days M.after _ _ (λ e g. ap says_yes (same left e x b g l)) d h)

-- the words of one line are these throughout
abbrev Are : Model → Plane → Plane → Type 0
Are M own wanted = (d x : ℕ) → d < M.days → x < M.points → own d x ≡ wanted d x

-- the words of one line obey the entry rule of its kind exactly when they are the kind's, over any words below
one_kind : (M : Model) → LawfulModel M → (kind : Kind) (lower : ℕ → Plane) (left right : ℕ) (own : Plane) → Are M own (kind_entry M kind lower left right own) ↔ Are M own (kind_plane M kind lower left right)
one_kind M lawful Truth lower left right own = (λ f. f, λ f. f)
one_kind M lawful Reading lower left right own = (λ f. f, λ f. f)
one_kind M lawful Not lower left right own = (λ f. f, λ f. f)
one_kind M lawful Or lower left right own = (λ f. f, λ f. f)
one_kind M lawful Near lower left right own = (λ f. f, λ f. f)
one_kind M lawful Surrounded lower left right own =
    let e = λ (d : ℕ). one_surrounded M.points M.leads (λ y. says_yes (lower left d y)) (λ y. says_yes (lower right d y)) (own d) in
    (λ f d x h. (e d).0 (λ y. f d y h) x, λ f d x h. (e d).1 (λ y. f d y h) x)
one_kind M lawful Next lower left right own = (λ f. f, λ f. f)
one_kind M lawful Until lower left right own =
    let e = λ (x : ℕ). one_until M.days M.after (λ c. says_yes (lower left c x)) (λ c. says_yes (lower right c x)) (λ c. own c x) in
    (λ f d x h l. (e x).0 (λ c i. f c x i l) d h, λ f d x h l. (e x).1 (λ c i. f c x i l) d h)
one_kind M lawful Awaited lower left right own =
    let e = λ (x : ℕ). one_awaited M.days M.after lawful.calendar lawful.unending (λ c. says_yes (lower left c x)) (λ c. own c x) in
    (λ f d x h l. (e x).0 (λ c i. f c x i l) d h, λ f d x h l. (e x).1 (λ c i. f c x i l) d h)

module _ (M : Model) (lines : List Line) (count : ℕ) (model : LawfulModel M) (lawful : LawfulLines lines count) (words : ℕ → Plane) where
  -- where the lines below have the table's words, a line obeys the entry rule exactly when it has them too
  one_line : (i : ℕ) → i < count → Holds M lines i words → Are M (words i) (entry M lines words i) ↔ Are M (words i) (table M lines i)
  one_line i h below =
      let p = placed lines count lawful i h in
      let left = (line_at lines i).left in
      let right = (line_at lines i).right in
      let rule : (d x : ℕ) → entry M lines words i d x ≡ kind_entry M p.row.kind words left right (words i) d x = λ d x. ap (λ o. row_entry M o words (line_at lines i) (words i) d x) p.named in
      let plane : (d x : ℕ) → d < M.days → x < M.points → table M lines i d x ≡ kind_plane M p.row.kind words left right d x = λ d x a b.
      table_at M lines i p d x ∙ sym (plane_same M p.row.kind words (table M lines) i left right below p.below d x a b) in
      let e = one_kind M model p.row.kind words left right (words i) in (
        λ f d x a b. e.0 (λ c y g l. f c y g l ∙ rule c y) d x a b ∙ sym (plane d x a b),
        λ f d x a b. e.1 (λ c y g l. f c y g l ∙ plane c y g l) d x a b ∙ sym (rule d x),
      )

  -- line by line, words that obey the rule are the table's
  holds_up_to : Obeys M lines count words → (k : ℕ) → k ≤ count → Holds M lines k words
  holds_up_to obeys zero h i d x l = absurd (omega arith)
  holds_up_to obeys (suc k) h i d x l =
      let below = holds_up_to obeys k (omega arith) in
      ⊎_elim (λ (e : i ≡ k). rw e ((one_line k h below).0 (λ c y. obeys k c y h) d x)) (λ (ne : i ≡ k → ⊥). below i d x (omega arith)) (cases_eq i k)

  -- and the table's words obey the rule at each line
  obeys_all : Holds M lines count words → Obeys M lines count words
  obeys_all holds i d x h = (one_line i h (λ j c y l. holds j c y (omega arith))).1 (λ c y. holds i c y h) d x

-- the entry rule has one solution, the table
pub one_solution : OneSolution
one_solution M lines count model lawful words = (λ obeys. holds_up_to M lines count model lawful words obeys count (omega arith), obeys_all M lines count model lawful words)
