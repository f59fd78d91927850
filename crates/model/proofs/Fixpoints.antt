-- The words of one line that look at each other: those that obey the entry rule are those of the table.
use Rattle.std.proofs.Common.{◌≡◌, ℕ, zero, suc, ◌+◌, ◌<◌, ◌≤◌, Bool, true, false, cond, not, ◌&&◌, ◌||◌, ◌⊎◌, ◌↔◌, Some, None, Option, sym, refl, ap, ◌∙◌, inl, inr, ⊎_elim, arith}
use Rattle.std.proofs.lemmas.Bool.{cases_eq, cases_lt, cases_Bool, both_ways, and_from, and_parts, or_left, or_right, or_cases, cond-true, not-true, not_from_false}
use Rattle.model.specs.Entries.{one_more, surrounded_entry, until_entry, awaited_entry}
use Rattle.model.specs.Numbers.{every, lower_of, lowest, highest}
use Rattle.model.specs.Relations.{Inside, Unending}
use Rattle.model.specs.Table.{word, says_yes, number, reaches, rank, sure, wait, surrounded_word, until_word, awaited_word}
use Rattle.model.proofs.Encodings.{AtMost, at_most_from, at_most_gives, same_bounds, code, no_code, yes_code, says, Says, says_of}
use Rattle.model.proofs.Numbers.{every_from, every_gives}
use Rattle.model.proofs.Ranks.{reaches_goal, reaches_step, reaches_by, rank_from, rank_reaches, sure_now, sure_next, sure_by, wait_from, wait_reaches}

-- the lower of two is at most k where one of them is
lower_from : (o p : Option ℕ) (k : ℕ) → AtMost o k ⊎ AtMost p k → AtMost (lower_of o p) k
lower_from None p k h = ⊎_elim (λ e. absurd e) (λ g. g) h
lower_from (Some a) None k h = ⊎_elim (λ g. g) (λ e. absurd e) h
lower_from (Some a) (Some b) k h = ⊎_elim (λ g. omega arith) (λ g. omega arith) h

lower_gives : (o p : Option ℕ) (k : ℕ) → AtMost (lower_of o p) k → AtMost o k ⊎ AtMost p k
lower_gives None p k h = inr h
lower_gives (Some a) None k h = inl h
lower_gives (Some a) (Some b) k h = ⊎_elim (λ (l : a < b). inl (omega arith)) (λ (l : b ≤ a). inr (omega arith)) (cases_lt a b)

-- the lowest value is at most k where that of some number that passes is
pub lowest_from : (n : ℕ) (test : ℕ → Bool) (value : ℕ → ℕ) (k y : ℕ) → y < n → test y ≡ true → value y ≤ k → AtMost (lowest n test value) k
lowest_from zero test value k y h t v = absurd (omega arith)
lowest_from (suc n) test value k y h t v =
    lower_from (lowest n test value) (cond (test n) (Some (value n)) None) k
    (⊎_elim (λ (e : y ≡ n). inr (at_most_from _ k (value n) (cond-true (test n) (Some (value n)) None (rw e at t)) (rw e at v)))
    (λ (ne : y ≡ n → ⊥). inl (lowest_from n test value k y (omega arith) t v)) (cases_eq y n))

-- a value that counts only where a test passes
one_gives : (test : Bool) (v k : ℕ) → AtMost (cond test (Some v) None) k → (test ≡ true) × (v ≤ k)
one_gives true v k h = (refl, h)
one_gives false v k h = absurd h

pub lowest_gives : (n : ℕ) (test : ℕ → Bool) (value : ℕ → ℕ) (k : ℕ) → AtMost (lowest n test value) k → (y : ℕ) × (y < n) × (test y ≡ true) × (value y ≤ k)
lowest_gives zero test value k h = absurd h
lowest_gives (suc n) test value k h =
    ⊎_elim (λ g. let w = lowest_gives n test value k g in (w.0, omega (arith, w.1), w.2, w.3))
    (λ g. let w = one_gives (test n) (value n) k g in (n, omega arith, w.0, w.1))
    (lower_gives (lowest n test value) (cond (test n) (Some (value n)) None) k h)

-- nothing is lowest where no number passes
lowest_nothing : (n : ℕ) (value : ℕ → ℕ) → lowest n (λ _. false) value ≡ None
lowest_nothing zero value = refl
lowest_nothing (suc n) value = rw (lowest_nothing n value)

-- the highest value is at most k where those of all numbers that pass are
pub highest_from : (n : ℕ) (test : ℕ → Bool) (value : ℕ → ℕ) (k : ℕ) → ((y : ℕ) → y < n → test y ≡ true → value y ≤ k) → highest n test value ≤ k
highest_from zero test value k all = omega arith
highest_from (suc n) test value k all =
    let rest = highest_from n test value k (λ y h. all y (omega arith)) in
    let here = all n (omega arith) in
    grind arith

pub highest_gives : (n : ℕ) (test : ℕ → Bool) (value : ℕ → ℕ) (k : ℕ) → highest n test value ≤ k → (y : ℕ) → y < n → test y ≡ true → value y ≤ k
highest_gives zero test value k h y l t = absurd (omega arith)
highest_gives (suc n) test value k h y l t =
    ⊎_elim (λ (e : y ≡ n). let s : test n ≡ true = rw e at t in rw e (omega (arith, rw s at h)))
    (λ (ne : y ≡ n → ⊥). highest_gives n test value k (omega arith) y (omega arith) t) (cases_eq y n)

-- one more, where there is a number
abbrev more : Option ℕ → Option ℕ
more None = None
more (Some k) = Some (1 + k)

-- 0 at a goal, elsewhere one more than the rest
abbrev or_more : Bool → Option ℕ → Option ℕ
or_more goal rest = cond goal (Some 0) (more rest)

-- its word
code_more : (answer : Bool) (o : Option ℕ) → code answer (more o) ≡ one_more answer (word (not answer) 0) o
code_more answer None = refl
code_more answer (Some k) = refl

-- when it is at most 0, and when at most k + 1
or_more_none : (goal : Bool) (rest : Option ℕ) → AtMost (or_more goal rest) 0 ↔ (goal ≡ true)
or_more_none true rest = (λ h. refl, λ h. omega arith)
or_more_none false None = (λ h. absurd h, λ h. absurd (both_ways false refl h))
or_more_none false (Some k) = (λ h. absurd (omega arith), λ h. absurd (both_ways false refl h))

or_more_some : (goal : Bool) (rest : Option ℕ) (k : ℕ) → AtMost (or_more goal rest) (suc k) ↔ ((goal ≡ true) ⊎ AtMost rest k)
or_more_some true rest k = (λ h. inl refl, λ h. omega arith)
or_more_some false None k = (λ h. absurd h, λ h. ⊎_elim (λ g. absurd (both_ways false refl g)) (λ g. absurd g) h)
or_more_some false (Some r) k = (λ h. inr (omega arith), λ h. ⊎_elim (λ g. absurd (both_ways false refl g)) (λ (g : r ≤ k). omega arith) h)

-- levels that start with the goals, and take in at the next level whatever the words that count them so far have for a rest: the words that follow their rests count the levels
module _ (n : ℕ) (level : ℕ → ℕ → Bool) (count : ℕ → Option ℕ)
    (counted : (k x : ℕ) → x < n → (level k x ≡ true) ↔ AtMost (count x) k)
    (answer : Bool) (goal : ℕ → Bool) (rest : (ℕ → ℕ) → ℕ → Option ℕ)
    (starts : (x : ℕ) → level 0 x ≡ goal x)
    (goes : (own : ℕ → ℕ) (k x : ℕ) → ((y : ℕ) → y < n → (level k y ≡ true) ↔ Says answer (own y) k) → (level (suc k) x ≡ true) ↔ ((goal x ≡ true) ⊎ AtMost (rest own x) k)) where
  -- where the words count a level, the rule counts the next
  rule_first : (own : ℕ → ℕ) (x : ℕ) → (level 0 x ≡ true) ↔ AtMost (or_more (goal x) (rest own x)) 0
  rule_first own x = let r = or_more_none (goal x) (rest own x) in (λ h. r.1 (sym (starts x) ∙ h), λ h. starts x ∙ r.0 h)

  rule_later : (own : ℕ → ℕ) (k x : ℕ) → ((y : ℕ) → y < n → (level k y ≡ true) ↔ Says answer (own y) k) → (level (suc k) x ≡ true) ↔ AtMost (or_more (goal x) (rest own x)) (suc k)
  rule_later own k x counts =
      let g = goes own k x counts in
      let r = or_more_some (goal x) (rest own x) k in
      (λ h. r.1 (g.0 h), λ h. g.1 (r.0 h))

  -- where the words count every level, the rule gives the count
  rule_is : (own : ℕ → ℕ) → ((k y : ℕ) → y < n → (level k y ≡ true) ↔ Says answer (own y) k) → (x : ℕ) → x < n → or_more (goal x) (rest own x) ≡ count x
  rule_is own counts x h = same_bounds (or_more (goal x) (rest own x)) (count x) (λ k b. (counted k x h).0 ((both k).1 b)) (λ k b. (both k).0 ((counted k x h).1 b))
    where
      both : (k : ℕ) → (level k x ≡ true) ↔ AtMost (or_more (goal x) (rest own x)) k
      both zero = rule_first own x
      both (suc k) = rule_later own k x (counts k)

  -- words that obey the rule count every level
  obeys_counts : (own : ℕ → ℕ) → ((x : ℕ) → x < n → own x ≡ code answer (or_more (goal x) (rest own x))) → (k x : ℕ) → x < n → (level k x ≡ true) ↔ Says answer (own x) k
  obeys_counts own obeys zero x h =
      let a = rule_first own x in
      let b = says_of answer (own x) (or_more (goal x) (rest own x)) 0 (obeys x h) in
      (λ t. b.1 (a.0 t), λ t. a.1 (b.0 t))
  obeys_counts own obeys (suc k) x h =
      let a = rule_later own k x (obeys_counts own obeys k) in
      let b = says_of answer (own x) (or_more (goal x) (rest own x)) (suc k) (obeys x h) in
      (λ t. b.1 (a.0 t), λ t. a.1 (b.0 t))

  -- words that are the counts count every level
  holds_counts : (own : ℕ → ℕ) → ((x : ℕ) → x < n → own x ≡ code answer (count x)) → (k x : ℕ) → x < n → (level k x ≡ true) ↔ Says answer (own x) k
  holds_counts own holds k x h =
      let a = counted k x h in
      let b = says_of answer (own x) (count x) k (holds x h) in
      (λ t. b.1 (a.0 t), λ t. a.1 (b.0 t))

  -- the words obey the rule exactly when they are the counts
  one_fixpoint : (own : ℕ → ℕ) → ((x : ℕ) → x < n → own x ≡ code answer (or_more (goal x) (rest own x))) ↔ ((x : ℕ) → x < n → own x ≡ code answer (count x))
  one_fixpoint own = (
    λ obeys x h. obeys x h ∙ ap (code answer) (rule_is own (obeys_counts own obeys) x h),
    λ holds x h. holds x h ∙ ap (code answer) (sym (rule_is own (holds_counts own holds) x h)),
  )

-- the lowest number among the steps from x
abbrev lowest_step : ℕ → (ℕ → ℕ → Bool) → Bool → (ℕ → ℕ) → ℕ → Option ℕ
lowest_step n step answer own x = lowest n (λ y. step x y && says answer (own y)) (λ y. number (own y))

-- the highest number among the days after d, where all say yes
abbrev highest_next : ℕ → (ℕ → ℕ → Bool) → (ℕ → ℕ) → ℕ → Option ℕ
highest_next m after own d = cond (every m (λ e. not (after d e) || says_yes (own e))) (Some (highest m (λ e. after d e) (λ e. number (own e)))) None

-- words with the fewest steps to a goal: one more than the lowest among the steps
module _ (n : ℕ) (step : ℕ → ℕ → Bool) (goal : ℕ → Bool) (answer : Bool) where
  -- the rank counts the levels
  ranked : (k x : ℕ) → x < n → (reaches n step goal k x ≡ true) ↔ AtMost (rank n step goal x) k
  ranked k x h = (
    λ t. let w = rank_from n step goal k x h t in at_most_from (rank n step goal x) k w.0 w.1 w.2,
    λ b. let w = at_most_gives (rank n step goal x) k b in rank_reaches n step goal k x w.0 h w.1 w.2,
  )

  -- the next level takes in what has a step with a low enough number
  steps : (own : ℕ → ℕ) (k x : ℕ) → ((y : ℕ) → y < n → (reaches n step goal k y ≡ true) ↔ Says answer (own y) k) → (reaches n step goal (suc k) x ≡ true) ↔ ((goal x ≡ true) ⊎ AtMost (lowest_step n step answer own x) k)
  steps own k x counts = (
    λ t. ⊎_elim inl
        (λ w. let s = (counts w.0 w.1).0 w.3 in inr (lowest_from n (λ y. step x y && says answer (own y)) (λ y. number (own y)) k w.0 w.1 (and_from _ _ w.2 s.0) s.1))
        (reaches_by n step goal k x t),
    λ t. ⊎_elim (reaches_goal n step goal (suc k) x)
        (λ b. let w = lowest_gives n (λ y. step x y && says answer (own y)) (λ y. number (own y)) k b in
        let p = and_parts (step x w.0) (says answer (own w.0)) w.2 in
        reaches_step n step goal k x w.0 w.1 p.0 ((counts w.0 w.1).1 (p.1, w.3)))
        t,
  )

  -- such words are those of the ranks
  pub one_rank : (own : ℕ → ℕ) → ((x : ℕ) → x < n → own x ≡ code answer (or_more (goal x) (lowest_step n step answer own x))) ↔ ((x : ℕ) → x < n → own x ≡ code answer (rank n step goal x))
  one_rank = one_fixpoint n (reaches n step goal) (rank n step goal) ranked answer goal (lowest_step n step answer) (λ x. refl) steps

-- words with the steps within which an awaited day is sure: one more than the highest among the next days, where all have one
module _ (m : ℕ) (after : ℕ → ℕ → Bool) (awaited : ℕ → Bool) (inside : Inside m after) (unending : Unending m after) where
  -- the wait counts the levels
  waited : (k d : ℕ) → d < m → (sure m after awaited k d ≡ true) ↔ AtMost (wait m after awaited d) k
  waited k d h = (
    λ t. let w = wait_from m after awaited inside unending k d h t in at_most_from (wait m after awaited d) k w.0 w.1 w.2,
    λ b. let w = at_most_gives (wait m after awaited d) k b in wait_reaches m after awaited inside unending k d w.0 h w.1 w.2,
  )

  -- every next day says yes with a number of at most k
  next_from : (own : ℕ → ℕ) (k d : ℕ) → ((e : ℕ) → e < m → after d e ≡ true → Says true (own e) k) → AtMost (highest_next m after own d) k
  next_from own k d all =
      at_most_from (highest_next m after own d) k (highest m (λ e. after d e) (λ e. number (own e)))
      (cond-true _ _ _ (every_from m (λ e. not (after d e) || says_yes (own e))
      (λ e h. ⊎_elim (λ (t : after d e ≡ true). or_right (not (after d e)) _ (all e h t).0) (λ (f : after d e ≡ false). or_left _ _ (not_from_false (after d e) f)) (cases_Bool (after d e)))))
      (highest_from m (λ e. after d e) (λ e. number (own e)) k (λ e h t. (all e h t).1))

  next_gives : (own : ℕ → ℕ) (k d : ℕ) → AtMost (highest_next m after own d) k → (e : ℕ) → e < m → after d e ≡ true → Says true (own e) k
  next_gives own k d b e h a =
      let w = one_gives (every m (λ e. not (after d e) || says_yes (own e))) (highest m (λ e. after d e) (λ e. number (own e))) k b in (
        ⊎_elim (λ (u : not (after d e) ≡ true). absurd (both_ways (after d e) (not-true (after d e) u) a)) (λ u. u)
            (or_cases (not (after d e)) (says_yes (own e)) (every_gives m (λ e. not (after d e) || says_yes (own e)) w.0 e h)),
        highest_gives m (λ e. after d e) (λ e. number (own e)) k w.1 e h a,
      )

  -- the next level takes in a day after which every day has a low enough number
  waits : (own : ℕ → ℕ) (k d : ℕ) → ((e : ℕ) → e < m → (sure m after awaited k e ≡ true) ↔ Says true (own e) k) → (sure m after awaited (suc k) d ≡ true) ↔ ((awaited d ≡ true) ⊎ AtMost (highest_next m after own d) k)
  waits own k d counts = (
    λ t. ⊎_elim inl (λ all. inr (next_from own k d (λ e h a. (counts e h).0 (all e h a)))) (sure_by m after awaited k d t),
    λ t. ⊎_elim (sure_now m after awaited (suc k) d) (λ b. sure_next m after awaited k d (λ e h a. (counts e h).1 (next_gives own k d b e h a))) t,
  )

  -- such words are those of the waits
  pub one_wait : (own : ℕ → ℕ) → ((d : ℕ) → d < m → own d ≡ code true (or_more (awaited d) (highest_next m after own d))) ↔ ((d : ℕ) → d < m → own d ≡ code true (wait m after awaited d))
  one_wait = one_fixpoint m (sure m after awaited) (wait m after awaited) waited true awaited (highest_next m after) (λ d. refl) waits

-- the entry rules as the rules of these words
surrounded_code : (left : Bool) (o : Option ℕ) → cond left (one_more false (word true 0) o) (word false 0) ≡ code false (or_more (not left) o)
surrounded_code true o = sym (code_more false o)
surrounded_code false o = refl

until_code : (m : ℕ) (right left : Bool) (after answers : ℕ → Bool) (value : ℕ → ℕ) → cond right (word true 0) (cond left (one_more true (word false 0) (lowest m (λ e. after e && answers e) value)) (word false 0)) ≡ code true (or_more right (lowest m (λ e. (left && after e) && answers e) value))
until_code m true left after answers value = refl
until_code m false true after answers value = sym (code_more true (lowest m (λ e. after e && answers e) value))
until_code m false false after answers value = rw (lowest_nothing m value)

awaited_code : (awaited all : Bool) (k : ℕ) → cond awaited (word true 0) (cond all (word true (1 + k)) (word false 0)) ≡ code true (or_more awaited (cond all (Some k) None))
awaited_code true all k = refl
awaited_code false true k = refl
awaited_code false false k = refl

-- words that are equal to the one throughout exactly when to the other, the two written otherwise
same_words : (n : ℕ) (own f g f' g' : ℕ → ℕ) → ((x : ℕ) → f x ≡ f' x) → ((x : ℕ) → g x ≡ g' x) → ((x : ℕ) → x < n → own x ≡ f' x) ↔ ((x : ℕ) → x < n → own x ≡ g' x) → ((x : ℕ) → x < n → own x ≡ f x) ↔ ((x : ℕ) → x < n → own x ≡ g x)
same_words n own f g f' g' p q e =
    (λ h x l. e.0 (λ y i. h y i ∙ p y) x l ∙ sym (q x), λ h x l. e.1 (λ y i. h y i ∙ q y) x l ∙ sym (p x))

-- the words of a line of each of the three kinds, on one day or at one point, obey the entry rule exactly when they are the table's
pub one_surrounded : (n : ℕ) (leads : ℕ → ℕ → Bool) (left right : ℕ → Bool) (own : ℕ → ℕ) → ((x : ℕ) → x < n → own x ≡ surrounded_entry n leads left right own x) ↔ ((x : ℕ) → x < n → own x ≡ surrounded_word n leads left right x)
one_surrounded n leads left right own =
    let step : ℕ → ℕ → Bool = λ y z. leads y z && not (right z) in
    let goal : ℕ → Bool = λ y. not (left y) in
    same_words n own _ _ _ _ (λ x. surrounded_code (left x) (lowest_step n step false own x)) (λ x. no_code (rank n step goal x)) (one_rank n step goal false own)

pub one_until : (m : ℕ) (after : ℕ → ℕ → Bool) (left right : ℕ → Bool) (own : ℕ → ℕ) → ((d : ℕ) → d < m → own d ≡ until_entry m after left right own d) ↔ ((d : ℕ) → d < m → own d ≡ until_word m after left right d)
one_until m after left right own =
    let step : ℕ → ℕ → Bool = λ e f. left e && after e f in
    same_words m own _ _ _ _ (λ d. until_code m (right d) (left d) (after d) (λ e. says_yes (own e)) (λ e. number (own e))) (λ d. yes_code (rank m step right d)) (one_rank m step right true own)

pub one_awaited : (m : ℕ) (after : ℕ → ℕ → Bool) → Inside m after → Unending m after → (awaited : ℕ → Bool) (own : ℕ → ℕ) → ((d : ℕ) → d < m → own d ≡ awaited_entry m after awaited own d) ↔ ((d : ℕ) → d < m → own d ≡ awaited_word m after awaited d)
one_awaited m after inside unending awaited own =
    same_words m own _ _ _ _ (λ d. awaited_code (awaited d) (every m (λ e. not (after d e) || says_yes (own e))) (highest m (λ e. after d e) (λ e. number (own e)))) (λ d. yes_code (wait m after awaited d)) (one_wait m after awaited inside unending own)
