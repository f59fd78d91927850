-- Why an exploration backwards from the goals finds the shortest ways: each of its moves keeps what is known, and at the end nothing is missing.
use Rattle.std.proofs.Common.{◌≡◌, ℕ, zero, suc, ◌+◌, ◌<◌, ◌≤◌, Bool, true, false, cond, eqb, ◌≢◌, ◌⊎◌, List, Some, None, Option, unwrap_or, sym, refl, ap, ◌∙◌, subst, inl, inr, ⊎_elim, add-one, arith}
use Rattle.std.proofs.lemmas.Bool.{cases_eq, cases_lt, both_ways, eq-eqb, ne_eqb, and_from, and_left, and_right}
use Rattle.model.specs.Numbers.{tally}
use Rattle.model.specs.Table.{reaches, rank}
use Rattle.model.proofs.Ranks.{reaches_step, reaches_by, rank_from, rank_reaches, no_rank}
use Rattle.engine.specs.Exploring.{step_by, at, PutAt, Explored}

-- tests that agree count the same
tally_same : (n : ℕ) (t u : ℕ → Bool) → ((k : ℕ) → k < n → u k ≡ t k) → tally n t ≡ tally n u
tally_same zero t u same = refl
tally_same (suc n) t u same = rw (same n (omega arith)) (ap (λ r. r + cond (t n) 1 0) (tally_same n t u (λ k h. same k (omega arith))))

-- a test that fails at one number more counts one less
tally_less : (n : ℕ) (t u : ℕ → Bool) (x : ℕ) → x < n → t x ≡ true → u x ≡ false → ((k : ℕ) → k < n → k ≢ x → u k ≡ t k) → tally n t ≡ tally n u + 1
tally_less zero t u x h a b same = absurd (omega arith)
tally_less (suc n) t u x h a b same =
    ⊎_elim
    (λ (e : x ≡ n).
    let rest = tally_same n t u (λ k l. same k (omega arith) (omega arith)) in
    let tn : t n ≡ true = rw (← e) a in
    let un : u n ≡ false = rw (← e) b in
    rw (tn, un) (omega arith))
    (λ (e : x ≡ n → ⊥).
    let rest = tally_less n t u x (omega arith) a b (λ k l. same k (omega arith)) in
    let here = same n (omega arith) (λ i. e (sym i)) in
    rw here (omega arith))
    (cases_eq x n)

-- a test that every number passes counts them all
pub tally_all : (n : ℕ) (t : ℕ → Bool) → ((k : ℕ) → k < n → t k ≡ true) → tally n t ≡ n
tally_all zero t all = refl
tally_all (suc n) t all =
    let rest = tally_all n t (λ k h. all k (omega arith)) in
    let here = all n (omega arith) in
    rw here (omega arith)

-- a test that some number passes counts it
tally_some : (n : ℕ) (t : ℕ → Bool) (x : ℕ) → x < n → t x ≡ true → 1 ≤ tally n t
tally_some zero t x h a = absurd (omega arith)
tally_some (suc n) t x h a =
    ⊎_elim (λ (e : x ≡ n). let tn : t n ≡ true = rw (← e) a in rw tn (omega arith))
    (λ (e : x ≡ n → ⊥). let rest = tally_some n t x (omega arith) a in omega arith)
    (cases_eq x n)

-- the three parts of a step that is allowed
module _ (leave : ℕ → Bool) (leads : ℕ → ℕ → Bool) (enter : ℕ → Bool) (x y : ℕ) where
  pub a_step : leave x ≡ true → leads x y ≡ true → enter y ≡ true → step_by leave leads enter x y ≡ true
  a_step l s t = and_from (leave x) _ l (and_from (leads x y) (enter y) s t)

  pub not_left : leave x ≡ false → step_by leave leads enter x y ≡ false
  not_left l = and_left (leave x) _ l

  pub not_led : leads x y ≡ false → step_by leave leads enter x y ≡ false
  not_led s = and_right (leave x) _ (and_left (leads x y) (enter y) s)

module _ (n : ℕ) (step : ℕ → ℕ → Bool) (goal : ℕ → Bool) where
  -- before any point is reached
  pub none_reached : (steps queue : ℕ → ℕ) → ((x : ℕ) → x < n → steps x ≡ n) → Explored n step goal 0 steps queue 0 0
  none_reached steps queue none = record {
    order = omega arith;
    room = let all = tally_all n (λ x. eqb (steps x) n) (λ x h. eq-eqb (steps x) n (none x h)) in omega arith;
    limit = λ x h. omega (arith, none x h);
    place = λ x h l. absurd (omega (arith, none x h));
    reached = λ i h. absurd (omega arith);
    early = λ i h. absurd (omega arith);
    rising = λ i j l h. absurd (omega arith);
    near = λ x h l q. absurd (omega arith);
    goals = λ x h g. absurd (omega arith);
    sound = λ x h l. absurd (omega (arith, none x h));
    closed = λ i x h l s. absurd (omega arith);
  }

  module _ (known head tail : ℕ) (D Q : ℕ → ℕ) (state : Explored n step goal known D Q head tail) where
    -- one point more is looked at
    pub next_known : (goal known ≡ true → D known ≡ 0) → Explored n step goal (known + 1) D Q head tail
    next_known here = record {
      order = state.order;
      room = state.room;
      limit = state.limit;
      place = state.place;
      reached = state.reached;
      early = state.early;
      rising = state.rising;
      near = state.near;
      goals = λ x h g. ⊎_elim (λ (e : x ≡ known). rw e (here (rw e at g))) (λ (ne : x ≡ known → ⊥). state.goals x (omega arith) g) (cases_eq x known);
      sound = state.sound;
      closed = state.closed;
    }

    -- the head has brought in all that it can
    pub advance : head < tail → ((x : ℕ) → x < n → step x (Q head) ≡ true → (D x < n) × (D x ≤ D (Q head) + 1)) → Explored n step goal known D Q (head + 1) tail
    advance some here = record {
      order = omega arith;
      room = state.room;
      limit = state.limit;
      place = state.place;
      reached = state.reached;
      early = state.early;
      rising = state.rising;
      near = λ x h l q. omega (arith, state.near x h l some, state.rising head (head + 1) (omega arith) q);
      goals = state.goals;
      sound = state.sound;
      closed = λ i x h l s.
          ⊎_elim (λ (e : i ≡ head). rw e (here x l (rw e at s))) (λ (ne : i ≡ head → ⊥). state.closed i x (omega arith) l s) (cases_eq i head);
    }

    -- a point that is not reached has a place left in the queue
    pub place_left : (x : ℕ) → x < n → D x ≡ n → tail < n
    place_left x h e = omega (arith, tally_some n (λ z. eqb (D z) n) x h (eq-eqb (D x) n e), state.room)

    module _ (x₀ v : ℕ) (below : x₀ < n) (fresh : D x₀ ≡ n) (most : (x : ℕ) → x < n → D x < n → D x ≤ v) (close : head < tail → v ≤ D (Q head) + 1)
        (soon : v ≤ tail) (holds : reaches n step goal v x₀ ≡ true) (D' Q' : ℕ → ℕ) (noted : D' x₀ ≡ v)
        (others : (x : ℕ) → x ≢ x₀ → D' x ≡ D x) (queued : Q' tail ≡ x₀) (before : (i : ℕ) → i ≢ tail → Q' i ≡ Q i) where
      left : tail < n
      left = place_left x₀ below fresh

      -- what was reached is another point, and stays as it was
      another : (x : ℕ) → D x < n → x ≢ x₀
      another x l e = omega (arith, rw e at l, fresh)

      pub kept : (x : ℕ) → D x < n → D' x ≡ D x
      kept x l = others x (another x l)

      pub kept_place : (i : ℕ) → i < tail → Q' i ≡ Q i
      kept_place i h = before i (omega arith)

      kept_value : (i : ℕ) → i < tail → D' (Q' i) ≡ D (Q i)
      kept_value i h = ap D' (kept_place i h) ∙ kept (Q i) (state.reached i h).1

      new_value : D' (Q' tail) ≡ v
      new_value = ap D' queued ∙ noted

      -- either the new point or one reached before
      new_or : (x : ℕ) → D' x < n → (x ≡ x₀) ⊎ (D x < n)
      new_or x l = ⊎_elim inl (λ (ne : x ≢ x₀). inr (omega (arith, others x ne))) (cases_eq x x₀)

      last_or : (i : ℕ) → i < tail + 1 → (i ≡ tail) ⊎ (i < tail)
      last_or i h = ⊎_elim inl (λ (ne : i ≡ tail → ⊥). inr (omega arith)) (cases_eq i tail)

      -- one point more is reached
      pub one_more : Explored n step goal known D' Q' head (tail + 1)
      one_more = record {
        order = omega (arith, state.order);
        room =
            let less = tally_less n (λ x. eqb (D x) n) (λ x. eqb (D' x) n) x₀ below (eq-eqb (D x₀) n fresh) (ne_eqb (D' x₀) n (λ e. omega (arith, noted, left))) (λ k h ne. ap (λ a. eqb a n) (others k ne)) in
            omega (arith, state.room);
        limit = λ x h. ⊎_elim (λ (e : x ≡ x₀). rw e (omega (arith, noted, left))) (λ (ne : x ≢ x₀). omega (arith, others x ne, state.limit x h)) (cases_eq x x₀);
        place = λ x h l.
            ⊎_elim (λ (e : x ≡ x₀). (tail, omega arith, queued ∙ sym e))
            (λ (r : D x < n). let w = state.place x h r in (w.0, omega (arith, w.1), kept_place w.0 w.1 ∙ w.2))
            (new_or x l);
        reached = λ i h.
            ⊎_elim (λ (e : i ≡ tail). rw (e, queued) (below, omega (arith, noted, left)))
            (λ (b : i < tail). let r = state.reached i b in (omega (arith, kept_place i b, r.0), omega (arith, kept_value i b, r.1)))
            (last_or i h);
        early = λ i h.
            ⊎_elim (λ (e : i ≡ tail). rw e (omega (arith, new_value))) (λ (b : i < tail). omega (arith, kept_value i b, state.early i b)) (last_or i h);
        rising = λ i j l h.
            ⊎_elim
            (λ (e : j ≡ tail).
            ⊎_elim (λ (d : i ≡ tail). rw (e, d) (omega arith))
            (λ (b : i < tail). let r = state.reached i b in rw e (omega (arith, new_value, kept_value i b, most (Q i) r.0 r.1)))
            (last_or i (omega arith)))
            (λ (b : j < tail). omega (arith, kept_value i (omega arith), kept_value j b, state.rising i j l b))
            (last_or j h);
        near = λ x h l q.
            ⊎_elim
            (λ (e : head ≡ tail).
            ⊎_elim (λ (d : x ≡ x₀). rw (e, d) (omega (arith, new_value, noted)))
            (λ (r : D x < n). rw e (omega (arith, new_value, kept x r, most x h r)))
            (new_or x l))
            (λ (b : head < tail).
            ⊎_elim (λ (d : x ≡ x₀). rw d (omega (arith, kept_value head b, noted, close b)))
            (λ (r : D x < n). omega (arith, kept_value head b, kept x r, state.near x h r b))
            (new_or x l))
            (last_or head q);
        goals = λ x h g. let z = state.goals x h g in kept x (omega arith) ∙ z;
        sound = λ x h l.
            ⊎_elim (λ (e : x ≡ x₀). rw (e, noted) holds) (λ (r : D x < n). rw (kept x r) (state.sound x h r)) (new_or x l);
        closed = λ i x h l s.
            let b : i < tail = omega (arith, state.order) in
            let r = state.closed i x h l (rw (kept_place i b) at s) in
            (omega (arith, kept x r.0, r.0), omega (arith, kept x r.0, kept_value i b, r.1));
      }

  -- the points from which a step leads to y = the head, looked at in turn up to `from`
  pub record Entering (D Q : ℕ → ℕ) (head tail y value from : ℕ) : Type 0 where
    pub state : Explored n step goal n D Q head tail
    pub some : head < tail
    pub here : Q head ≡ y
    pub one : D y + 1 ≡ value
    pub passed : (x : ℕ) → x < from → step x y ≡ true → (D x < n) × (D x ≤ value)

  module _ (D Q : ℕ → ℕ) (head tail y value from : ℕ) (e : Entering D Q head tail y value from) where
    -- the head and its steps
    pub head_is : (y < n) × (D y < n)
    head_is = let r = e.state.reached head e.some in (omega (arith, e.here, r.0), rw e.here at r.1)

    one_further : D (Q head) + 1 ≡ value
    one_further = rw e.here e.one

    most_so_far : (x : ℕ) → x < n → D x < n → D x ≤ value
    most_so_far x h l = omega (arith, e.state.near x h l e.some, one_further)

    -- no point is left
    pub enter_end : ((x : ℕ) → from ≤ x → x < n → step x y ≡ false) → Explored n step goal n D Q (head + 1) tail
    enter_end none =
        advance n head tail D Q e.state e.some (λ x h s.
        let t : step x y ≡ true = rw e.here at s in
        ⊎_elim (λ (l : x < from). let p = e.passed x l t in (p.0, omega (arith, p.1, one_further)))
        (λ (l : from ≤ x). absurd (both_ways (step x y) (none x l h) t))
        (cases_lt x from))

    module _ (x : ℕ) (below : x < n) (none : (k : ℕ) → from ≤ k → k < x → step k y ≡ false) where
      -- a point that is reached already, or from which no step leads to y
      pub enter_skip : (step x y ≡ true → D x < n) → Entering D Q head tail y value (x + 1)
      enter_skip old = record {
        state = e.state;
        some = e.some;
        here = e.here;
        one = e.one;
        passed = λ k h s.
            ⊎_elim (λ (l : k < from). e.passed k l s)
            (λ (l : from ≤ k).
            ⊎_elim (λ (d : k ≡ x). let r = old (rw d at s) in rw d (r, most_so_far x below r))
            (λ (ne : k ≡ x → ⊥). absurd (both_ways (step k y) (none k l (omega arith)) s))
            (cases_eq k x))
            (cases_lt k from);
      }

      -- a point that is reached by this step
      pub enter_reach : D x ≡ n → step x y ≡ true → (D' Q' : ℕ → ℕ) → D' x ≡ value → ((k : ℕ) → k ≢ x → D' k ≡ D k) → Q' tail ≡ x → ((i : ℕ) → i ≢ tail → Q' i ≡ Q i) → Entering D' Q' head (tail + 1) y value (x + 1)
      enter_reach fresh s D' Q' noted others queued before =
          let early = e.state.early head e.some in
          let soon : value ≤ tail = omega (arith, early, one_further, e.some) in
          let left = place_left n head tail D Q e.state x below fresh in
          let way : reaches n step goal (D y) y ≡ true = e.state.sound y head_is.0 head_is.1 in
          let holds : reaches n step goal value x ≡ true = rw (← e.one, add-one (D y)) (reaches_step n step goal (D y) x y head_is.0 s way) in
          let kept : (k : ℕ) → D k < n → D' k ≡ D k = λ k l. others k (λ d. omega (arith, rw d at l, fresh)) in
          record {
            state = one_more n head tail D Q e.state x value below fresh most_so_far (λ _. omega (arith, one_further)) soon holds D' Q' noted others queued before;
            some = omega (arith, e.some);
            here = before head (omega (arith, e.some)) ∙ e.here;
            one = ap (λ a. a + 1) (kept y head_is.1) ∙ e.one;
            passed = λ k h t.
                ⊎_elim (λ (l : k < from). let p = e.passed k l t in (omega (arith, kept k p.0, p.0), omega (arith, kept k p.0, p.1)))
                (λ (l : from ≤ k).
                ⊎_elim (λ (d : k ≡ x). rw d (omega (arith, noted, left), omega (arith, noted)))
                (λ (ne : k ≡ x → ⊥). absurd (both_ways (step k y) (none k l (omega arith)) t))
                (cases_eq k x))
                (cases_lt k from);
          }

  -- at the end of the queue nothing is missing
  module _ (end : ℕ) (D Q : ℕ → ℕ) (state : Explored n step goal n D Q end end) where
    complete : (k x : ℕ) → x < n → reaches n step goal k x ≡ true → (D x < n) × (D x ≤ k)
    complete zero x h t = let z = state.goals x h t in (omega arith, omega arith)
    complete (suc k) x h t =
        ⊎_elim (λ (g : goal x ≡ true). let z = state.goals x h g in (omega arith, omega arith))
        (λ w.
        let r = complete k w.0 w.1 w.3 in
        let p = state.place w.0 w.1 r.0 in
        let c = state.closed p.0 x p.1 h (rw p.2 w.2) in
        (c.0, omega (arith, c.1, ap D p.2, r.1)))
        (reaches_by n step goal k x t)

    pub shortest : (x : ℕ) → x < n → D x ≡ unwrap_or (rank n step goal x) n
    shortest x h = go (rank n step goal x) refl
      where
        go : (o : Option ℕ) → rank n step goal x ≡ o → D x ≡ unwrap_or o n
        go None e =
            ⊎_elim (λ (l : D x < n). absurd (both_ways (reaches n step goal (D x) x) (no_rank n step goal (D x) x h e) (state.sound x h l)))
            (λ (l : n ≤ D x). omega (arith, state.limit x h)) (cases_lt (D x) n)
        go (Some r) e =
            let c = complete r x h (rank_reaches n step goal r x r h e (omega arith)) in
            let f = rank_from n step goal (D x) x h (state.sound x h c.0) in
            let same : Some f.0 ≡ Some r = sym f.1 ∙ e in
            let q : f.0 ≡ r = cc in
            omega (arith, c.1, f.2)

-- the goals before x are reached, by 0 steps, and no other point
pub record Begun (n : ℕ) (goal : ℕ → Bool) (x tail : ℕ) (steps queue : List ℕ) : Type 0 where
  pub state : (step : ℕ → ℕ → Bool) → Explored n step goal x (at steps) (at queue) 0 tail
  pub flat : (k : ℕ) → k < n → at steps k < n → at steps k ≤ 0
  pub later : (k : ℕ) → x ≤ k → k < n → at steps k ≡ n

pub begun_none : (n : ℕ) (goal : ℕ → Bool) (steps queue : List ℕ) → ((k : ℕ) → k < n → at steps k ≡ n) → Begun n goal 0 0 steps queue
begun_none n goal steps queue none = record {
  state = λ step. none_reached n step goal (at steps) (at queue) none;
  flat = λ k h l. absurd (omega (arith, none k h));
  later = λ k _ h. none k h;
}

module _ (n : ℕ) (goal : ℕ → Bool) (x tail : ℕ) (steps queue : List ℕ) (below : x < n) (begun : Begun n goal x tail steps queue) where
  pub begun_left : tail < n
  begun_left = place_left n (λ _ _. true) goal x 0 tail (at steps) (at queue) (begun.state (λ _ _. true)) x below (begun.later x (omega arith) below)

  -- a point that is no goal
  pub begun_skip : false ≡ goal x → Begun n goal (x + 1) tail steps queue
  begun_skip other = record {
    state = λ step. next_known n step goal x 0 tail (at steps) (at queue) (begun.state step) (λ g. absurd (both_ways (goal x) (sym other) g));
    flat = begun.flat;
    later = λ k l h. begun.later k (omega arith) h;
  }

  -- one goal more
  module _ (steps' queue' : List ℕ) (noted : PutAt x 0 steps steps') (queued : PutAt tail x queue queue') where
    pub begun_more : true ≡ goal x → Begun n goal (x + 1) (tail + 1) steps' queue'
    begun_more is =
        let here = noted.0 in
        let others = noted.1 in
        record {
          state = λ step.
              next_known n step goal x 0 (tail + 1) (at steps') (at queue')
              (one_more n step goal x 0 tail (at steps) (at queue) (begun.state step) x 0 below (begun.later x (omega arith) below) begun.flat (λ _. omega arith) (omega arith) (sym is)
              (at steps') (at queue') here others queued.0 queued.1)
              (λ _. here);
          flat = λ k h l.
              ⊎_elim (λ (e : k ≡ x). rw e (omega (arith, here))) (λ (ne : k ≡ x → ⊥). omega (arith, others k ne, begun.flat k h (rw (others k ne) at l))) (cases_eq k x);
          later = λ k l h. others k (omega arith) ∙ begun.later k (omega arith) h;
        }

pub begun_end : (n : ℕ) (goal : ℕ → Bool) (x tail : ℕ) (steps queue : List ℕ) → x ≡ n → Begun n goal x tail steps queue → (step : ℕ → ℕ → Bool) → Explored n step goal n (at steps) (at queue) 0 tail
begun_end n goal x tail steps queue e begun step = subst (λ k. Explored n step goal k (at steps) (at queue) 0 tail) e (begun.state step)
