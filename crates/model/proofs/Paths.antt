-- Ways and ranks: the rank of a point is the steps of the shortest way to a goal.
use Rattle.std.proofs.Common.{◌≡◌, ℕ, zero, suc, ◌<◌, ◌≤◌, Bool, true, false, not, ◌&&◌, ltb, List, [], ◌∷◌, length, is_some, Some, None, Option, sym, refl, ap, ◌∙◌, ⊎_elim, zero-le, arith}
use Rattle.std.proofs.lemmas.Bool.{cases_Bool, cases_lt, both_ways, and_parts, and_cases, and_from, not-true, not_from_false, lt-ltb, ltb-true}
use Rattle.model.specs.Relations.{Inside}
use Rattle.model.specs.Table.{says_yes, number, no_word, yes_word, reaches, rank, surrounded_word, until_word}
use Rattle.model.specs.Theorems.{SurroundedMeans, SurroundedLaw, UntilMeans, UntilLaw}
use Rattle.model.specs.Ways.{WayOut, Region, Beginning}
use Rattle.model.proofs.Levels.{least_found}
use Rattle.model.proofs.Ranks.{reaches_step, reaches_by, rank_from, rank_reaches, no_rank}
use Rattle.model.proofs.Words.{word_yes, word_number, no_word_no, no_word_yes, yes_word_yes}

-- steps from x to a goal, one after the other
abbrev pub PathTo : (ℕ → ℕ → Bool) → (ℕ → Bool) → ℕ → List ℕ → Type 0
PathTo step goal x [] = goal x ≡ true
PathTo step goal x (y ∷ ys) = (step x y ≡ true) × PathTo step goal y ys

module _ (n : ℕ) (step : ℕ → ℕ → Bool) (goal : ℕ → Bool) (inside : (x y : ℕ) → step x y ≡ true → y < n) where
  path_reaches : (x : ℕ) (rest : List ℕ) → PathTo step goal x rest → reaches n step goal (length rest) x ≡ true
  path_reaches x [] p = p
  path_reaches x (y ∷ ys) p = reaches_step n step goal (length ys) x y (inside x y p.0) p.0 (path_reaches y ys p.1)

  reaches_path : (k x : ℕ) → reaches n step goal k x ≡ true → (rest : List ℕ) × PathTo step goal x rest × (length rest ≤ k)
  reaches_path zero x t = ([], t, zero-le)
  reaches_path (suc k) x t =
      ⊎_elim (λ g. ([], g, zero-le)) (λ w. let p = reaches_path k w.0 w.3 in (w.0 ∷ p.0, (w.2, p.1), omega (arith, p.2))) (reaches_by n step goal k x t)

  -- a path is at least as long as the rank, and one is as long
  pub path_rank : (x : ℕ) (rest : List ℕ) → x < n → PathTo step goal x rest → (r : ℕ) × (rank n step goal x ≡ Some r) × (r ≤ length rest)
  path_rank x rest h p = rank_from n step goal (length rest) x h (path_reaches x rest p)

  pub rank_path : (x r : ℕ) → x < n → rank n step goal x ≡ Some r → (rest : List ℕ) × PathTo step goal x rest × (length rest ≡ r)
  rank_path x r h e =
      let p = reaches_path r x (rank_reaches n step goal r x r h e (omega arith)) in
      let f = least_found n (λ k. reaches n step goal k x) r e in
      let long : r ≤ length p.0 = ⊎_elim (λ (l : length p.0 < r). absurd (both_ways (reaches n step goal (length p.0) x) (f.first (length p.0) l) (path_reaches x p.0 p.1))) (λ (l : r ≤ length p.0). l) (cases_lt (length p.0) r) in
      (p.0, p.1, omega (arith, p.2))

-- two numbers that are the rank are the same
same_rank : (o : Option ℕ) (r s : ℕ) → o ≡ Some r → o ≡ Some s → r ≡ s
same_rank o r s e f = cc

-- a way out is a path through points with right no to one with left no
module _ (leads : ℕ → ℕ → Bool) (left right : ℕ → Bool) where
  way_path : (x : ℕ) (rest : List ℕ) → WayOut leads left right x rest → PathTo (λ y z. leads y z && not (right z)) (λ y. not (left y)) x rest
  way_path x [] w = not_from_false (left x) w.outside
  way_path x (y ∷ ys) w = (
    and_from _ _ w.walk.0 (not_from_false (right y) w.unbarred.0),
    way_path y ys (record { walk = w.walk.1; outside = w.outside; unbarred = w.unbarred.1 }),
  )

  pub path_way : (x : ℕ) (rest : List ℕ) → PathTo (λ y z. leads y z && not (right z)) (λ y. not (left y)) x rest → WayOut leads left right x rest
  path_way x [] p = record { walk = tt; outside = not-true (left x) p; unbarred = tt }
  path_way x (y ∷ ys) p =
      let s = and_parts (leads x y) (not (right y)) p.0 in
      let w = path_way y ys p.1 in
      record { walk = (s.0, w.walk); outside = w.outside; unbarred = (not-true (right y) s.1, w.unbarred) }

  -- no way leads out of a region
  no_way : (n : ℕ) (A : ℕ → Bool) → Region n leads left right A → (x : ℕ) (rest : List ℕ) → A x ≡ true → PathTo (λ y z. leads y z && not (right z)) (λ y. not (left y)) x rest → ⊥
  no_way n A region x [] here p = both_ways (left x) (not-true (left x) p) (region.throughout x here)
  no_way n A region x (y ∷ ys) here p =
      let s = and_parts (leads x y) (not (right y)) p.0 in
      ⊎_elim (λ (t : A y ≡ true). no_way n A region y ys t p.1)
      (λ (f : A y ≡ false). both_ways (right y) (not-true (right y) s.1) (region.border x y here s.0 f)) (cases_Bool (A y))

-- the points from which no goal is reached
abbrev shut : ℕ → (ℕ → ℕ → Bool) → (ℕ → Bool) → ℕ → Bool
shut n step goal y = ltb y n && not (is_some (rank n step goal y))

and_false : (a b : Bool) → a ≡ true → (a && b) ≡ false → b ≡ false
and_false a b t f = ⊎_elim (λ (g : a ≡ false). absurd (both_ways a g t)) (λ g. g) (and_cases a b f)

none_of : (o : Option ℕ) → not (is_some o) ≡ true → o ≡ None
none_of None e = refl
none_of (Some k) e = absurd (both_ways false refl e)

some_of : (o : Option ℕ) → not (is_some o) ≡ false → (k : ℕ) × (o ≡ Some k)
some_of None e = absurd (both_ways true e refl)
some_of (Some k) e = (k, refl)

-- the word of a surrounded entry, through the rank of the way out
module _ (n : ℕ) (leads : ℕ → ℕ → Bool) (inside : Inside n leads) (left right : ℕ → Bool) where
  out_inside : (y z : ℕ) → (leads y z && not (right z)) ≡ true → z < n
  out_inside y z t = (inside y z (and_parts (leads y z) (not (right z)) t).0).1

  -- the points without a way out are a region
  shut_region : Region n leads left right (shut n (λ y z. leads y z && not (right z)) (λ y. not (left y)))
  shut_region =
      let step : ℕ → ℕ → Bool = λ y z. leads y z && not (right z) in
      let goal : ℕ → Bool = λ y. not (left y) in
      let there : (y : ℕ) → shut n step goal y ≡ true → (y < n) × (rank n step goal y ≡ None) =
      λ y t. let p = and_parts (ltb y n) (not (is_some (rank n step goal y))) t in (ltb-true y n p.0, none_of (rank n step goal y) p.1) in
      record {
        points = λ y t. (there y t).0;
        throughout = λ y t.
            ⊎_elim (λ e. e) (λ (f : left y ≡ false). absurd (both_ways _ (no_rank n step goal 0 y (there y t).0 (there y t).1) (not_from_false (left y) f))) (cases_Bool (left y));
        border = λ y z t l f.
            let h = (inside y z l).1 in
            let w = some_of (rank n step goal z) (and_false (ltb z n) (not (is_some (rank n step goal z))) (lt-ltb z n h) f) in
            ⊎_elim (λ e. e)
            (λ (g : right z ≡ false).
            absurd (both_ways _ (no_rank n step goal (suc w.0) y (there y t).0 (there y t).1)
            (reaches_step n step goal w.0 y z h (and_from _ _ l (not_from_false (right z) g)) (rank_reaches n step goal w.0 z w.0 h w.1 (omega arith)))))
            (cases_Bool (right z));
      }

  module _ (x : ℕ) (h : x < n) where
    ranked : Option ℕ
    ranked = rank n (λ y z. leads y z && not (right z)) (λ y. not (left y)) x

    way_of : (r : ℕ) → ranked ≡ Some r → (rest : List ℕ) × WayOut leads left right x rest × (length rest ≡ r)
    unfolding ranked
    way_of r e = let p = rank_path n _ _ out_inside x r h e in (p.0, path_way leads left right x p.0 p.1, p.2)

    rank_of : (rest : List ℕ) → WayOut leads left right x rest → (r : ℕ) × (ranked ≡ Some r) × (r ≤ length rest)
    unfolding ranked
    rank_of rest w = path_rank n _ _ out_inside x rest h (way_path leads left right x rest w)

    -- in a region no rank is found
    region_yes : (A : ℕ → Bool) → Region n leads left right A → A x ≡ true → (o : Option ℕ) → ranked ≡ o → says_yes (no_word o) ≡ true
    region_yes A region here None e = refl
    region_yes A region here (Some r) e = let w = way_of r e in absurd (no_way leads left right n A region x w.0 here (way_path leads left right x w.0 w.1))

    pub surrounded_means : SurroundedMeans n leads left right x (surrounded_word n leads left right x)
    unfolding ranked
    surrounded_means = record {
      no_by_a_way = (
        λ e. let k = no_word_no ranked e in let w = way_of k.0 k.1 in (w.0, w.1),
        λ w. let r = rank_of w.0 w.1 in ap (λ o. says_yes (no_word o)) r.1 ∙ word_yes false r.0,
      );
      steps_of_one = λ e.
          let k = no_word_no ranked e in
          let w = way_of k.0 k.1 in
          (w.0, w.1, w.2 ∙ sym (ap (λ o. number (no_word o)) k.1 ∙ word_number false k.0));
      fewest = λ rest w.
          let r = rank_of rest w in
          let e : number (no_word ranked) ≡ r.0 = ap (λ o. number (no_word o)) r.1 ∙ word_number false r.0 in
          omega (arith, e, r.2);
      yes_by_a_region = (
        λ e. (shut n (λ y z. leads y z && not (right z)) (λ y. not (left y)), shut_region, and_from _ _ (lt-ltb x n h) (ap (λ o. not (is_some o)) (no_word_yes ranked e))),
        λ w. region_yes w.0 w.1 w.2 ranked refl,
      );
    }

pub surrounded_law : SurroundedLaw
surrounded_law n leads inside left right x h = surrounded_means n leads inside left right x h

-- the beginning of a run is a path over days with left yes to one with right yes
module _ (after : ℕ → ℕ → Bool) (left right : ℕ → Bool) where
  beginning_path : (d : ℕ) (rest : List ℕ) → Beginning after left right d rest → PathTo (λ e f. left e && after e f) right d rest
  beginning_path d [] b = b.until
  beginning_path d (e ∷ es) b =
      (and_from _ _ b.before.0 b.walk.0, beginning_path e es (record { walk = b.walk.1; until = b.until; before = b.before.1 }))

  pub path_beginning : (d : ℕ) (rest : List ℕ) → PathTo (λ e f. left e && after e f) right d rest → Beginning after left right d rest
  path_beginning d [] p = record { walk = tt; until = p; before = tt }
  path_beginning d (e ∷ es) p =
      let s = and_parts (left d) (after d e) p.0 in
      let b = path_beginning e es p.1 in
      record { walk = (s.1, b.walk); until = b.until; before = (s.0, b.before) }

-- the word of an until entry, through the rank of the beginning
module _ (m : ℕ) (after : ℕ → ℕ → Bool) (inside : Inside m after) (left right : ℕ → Bool) (d : ℕ) (h : d < m) where
  begun : Option ℕ
  begun = rank m (λ e f. left e && after e f) right d

  on_inside : (e f : ℕ) → (left e && after e f) ≡ true → f < m
  on_inside e f t = (inside e f (and_parts (left e) (after e f) t).1).1

  beginning_of : (r : ℕ) → begun ≡ Some r → (rest : List ℕ) × Beginning after left right d rest × (length rest ≡ r)
  unfolding begun
  beginning_of r e = let p = rank_path m _ _ on_inside d r h e in (p.0, path_beginning after left right d p.0 p.1, p.2)

  begun_by : (rest : List ℕ) → Beginning after left right d rest → (r : ℕ) × (begun ≡ Some r) × (r ≤ length rest)
  unfolding begun
  begun_by rest b = path_rank m _ _ on_inside d rest h (beginning_path after left right d rest b)

  pub until_means : UntilMeans after left right d (until_word m after left right d)
  unfolding begun
  until_means = record {
    yes_by_a_beginning = (
      λ e. let k = yes_word_yes begun e in let b = beginning_of k.0 k.1 in (b.0, b.1),
      λ b. let r = begun_by b.0 b.1 in ap (λ o. says_yes (yes_word o)) r.1 ∙ word_yes true r.0,
    );
    days_of_one = λ e.
        let k = yes_word_yes begun e in
        let b = beginning_of k.0 k.1 in
        (b.0, b.1, b.2 ∙ sym (ap (λ o. number (yes_word o)) k.1 ∙ word_number true k.0));
    fewest = λ rest b.
        let r = begun_by rest b in
        let e : number (yes_word begun) ≡ r.0 = ap (λ o. number (yes_word o)) r.1 ∙ word_number true r.0 in
        omega (arith, e, r.2);
  }

pub until_law : UntilLaw
until_law m after inside left right d h = until_means m after inside left right d h
