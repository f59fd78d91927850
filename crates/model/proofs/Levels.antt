-- Sets of numbers below n that rise level by level and, once at rest, stay so: whatever they take in they take in before level n.
use Rattle.std.proofs.Common.{◌≡◌, ℕ, zero, suc, ◌+◌, ◌-◌, ◌<◌, ◌≤◌, Bool, true, false, cond, ◌⊎◌, Some, None, Option, sym, refl, ap, ◌∙◌, subst, inl, inr, ⊎_elim, arith}
use Rattle.std.proofs.lemmas.Bool.{cases_eq, cases_lt, cases_Bool, both_ways}
use Rattle.model.specs.Numbers.{tally, least, or_later}
use Rattle.model.proofs.Numbers.{tally_le, tally_weaker}

-- the least number that passes: below n, and none before it passes
pub record Found (n : ℕ) (test : ℕ → Bool) (k : ℕ) : Type 0 where
  pub below : k < n
  pub passes : test k ≡ true
  pub first : (j : ℕ) → j < k → test j ≡ false

-- what the computed least number is
abbrev view : ℕ → (ℕ → Bool) → Option ℕ → Type 0
view n test None = (k : ℕ) → k < n → test k ≡ false
view n test (Some k) = Found n test k

view_more : (n : ℕ) (test : ℕ → Bool) (o : Option ℕ) (b : Bool) → test n ≡ b → view n test o → view (suc n) test (or_later o (cond b (Some n) None))
view_more n test None true e v = record { below = omega arith; passes = e; first = v }
view_more n test None false e v = λ k h. ⊎_elim (λ (i : k ≡ n). rw i e) (λ (i : k ≡ n → ⊥). v k (omega arith)) (cases_eq k n)
view_more n test (Some k) b e v = record { below = omega (arith, v.below); passes = v.passes; first = v.first }

least_view : (n : ℕ) (test : ℕ → Bool) → view n test (least n test)
least_view zero test = λ k h. absurd (omega arith)
least_view (suc n) test = view_more n test (least n test) (test n) refl (least_view n test)

pub least_found : (n : ℕ) (test : ℕ → Bool) (k : ℕ) → least n test ≡ Some k → Found n test k
least_found n test k e = subst (view n test) e (least_view n test)

pub least_none : (n : ℕ) (test : ℕ → Bool) → least n test ≡ None → (k : ℕ) → k < n → test k ≡ false
least_none n test e = subst (view n test) e (least_view n test)

-- a number that passes has a least one at or below it
pub least_from : (n : ℕ) (test : ℕ → Bool) (k : ℕ) → k < n → test k ≡ true → (r : ℕ) × (least n test ≡ Some r) × (r ≤ k)
least_from n test k h t = go (least n test) refl
  where
    go : (o : Option ℕ) → least n test ≡ o → (r : ℕ) × (least n test ≡ Some r) × (r ≤ k)
    go None e = absurd (both_ways (test k) (least_none n test e k h) t)
    go (Some r) e = (r, e, ⊎_elim (λ (l : k < r). absurd (both_ways (test k) ((least_found n test r e).first k l) t)) (λ (l : r ≤ k). l) (cases_lt k r))

-- the least number is one
pub least_is : (n : ℕ) (test : ℕ → Bool) (k : ℕ) → Found n test k → least n test ≡ Some k
least_is n test k f =
    let w = least_from n test k f.below f.passes in
    let v = least_found n test w.0 w.1 in
    let e : w.0 ≡ k = ⊎_elim (λ (l : w.0 < k). absurd (both_ways (test w.0) (f.first w.0 l) v.passes)) (λ (l : k ≤ w.0). omega arith) (cases_lt w.0 k) in
    w.1 ∙ ap Some e

pub least_is_none : (n : ℕ) (test : ℕ → Bool) → ((k : ℕ) → k < n → test k ≡ false) → least n test ≡ None
least_is_none n test none = go (least n test) refl
  where
    go : (o : Option ℕ) → least n test ≡ o → least n test ≡ None
    go None e = e
    go (Some k) e = let f = least_found n test k e in absurd (both_ways (test k) (none k f.below) f.passes)

-- a test that passes wherever another does, and once more, counts more
pub tally_more : (n : ℕ) (t u : ℕ → Bool) → ((k : ℕ) → k < n → t k ≡ true → u k ≡ true) → (k : ℕ) → k < n → t k ≡ false → u k ≡ true → tally n t + 1 ≤ tally n u
tally_more zero t u implies k h f g = absurd (omega arith)
tally_more (suc n) t u implies k h f g =
    ⊎_elim
    (λ (e : k ≡ n).
    let rest = tally_weaker n t u (λ j l. implies j (omega arith)) in
    let tn : t n ≡ false = rw (← e) f in
    let un : u n ≡ true = rw (← e) g in
    rw (tn, un) (omega arith))
    (λ (e : k ≡ n → ⊥).
    let rest = tally_more n t u (λ j l. implies j (omega arith)) k (omega arith) f g in
    let here = implies n (omega arith) in
    grind arith)
    (cases_eq k n)

-- nothing new at the next level
abbrev AtRest : ℕ → (ℕ → ℕ → Bool) → ℕ → Type 0
AtRest n F k = (x : ℕ) → x < n → F (suc k) x ≡ F k x

-- a test that counts every number passes everywhere, and one that counts none nowhere
tally_full : (n : ℕ) (t : ℕ → Bool) → n ≤ tally n t → (x : ℕ) → x < n → t x ≡ true
tally_full n t h x l =
    ⊎_elim (λ e. e) (λ (f : t x ≡ false). absurd (omega (arith, tally_more n t (λ _. true) (λ _ _ _. refl) x l f refl, tally_le n (λ _. true)))) (cases_Bool (t x))

tally_empty : (n : ℕ) (t : ℕ → Bool) → tally n t ≡ 0 → (x : ℕ) → x < n → t x ≡ false
tally_empty n t h x l =
    ⊎_elim (λ (e : t x ≡ true). absurd (omega (arith, tally_more n (λ _. false) t (λ _ _ f. absurd (both_ways false refl f)) x l refl e))) (λ f. f) (cases_Bool (t x))

-- a rising row of sets
module _ (n : ℕ) (F : ℕ → ℕ → Bool)
    (rises : (k x : ℕ) → x < n → F k x ≡ true → F (suc k) x ≡ true)
    (rests : (k : ℕ) → AtRest n F k → AtRest n F (suc k))
    (starts : ((x : ℕ) → x < n → F 0 x ≡ false) → (x : ℕ) → x < n → F 1 x ≡ false) where
  pub rise : (j k x : ℕ) → j ≤ k → x < n → F j x ≡ true → F k x ≡ true
  rise j zero x h l t = let e : j ≡ 0 = omega arith in rw e at t
  rise j (suc k) x h l t =
      ⊎_elim (λ (s : j < suc k). rises k x l (rise j k x (omega arith) l t)) (λ (s : suc k ≤ j). let e : j ≡ suc k = omega arith in rw e at t) (cases_lt j (suc k))

  rest_on : (j k : ℕ) → j ≤ k → AtRest n F j → AtRest n F k
  rest_on j zero h rest = let e : j ≡ 0 = omega arith in subst (AtRest n F) e rest
  rest_on j (suc k) h rest =
      ⊎_elim (λ (s : j < suc k). rests k (rest_on j k (omega arith) rest)) (λ (s : suc k ≤ j). let e : j ≡ suc k = omega arith in subst (AtRest n F) e rest) (cases_lt j (suc k))

  -- from a level at rest on nothing changes
  same_later : (j k x : ℕ) → j ≤ k → AtRest n F j → x < n → F k x ≡ F j x
  same_later j zero x h rest l = let e : j ≡ 0 = omega arith in rw e
  same_later j (suc k) x h rest l =
      ⊎_elim (λ (s : j < suc k). rest_on j k (omega arith) rest x l ∙ same_later j k x (omega arith) rest l)
      (λ (s : suc k ≤ j). let e : j ≡ suc k = omega arith in rw e) (cases_lt j (suc k))

  -- a level is at rest, or takes in at least one number more
  moves : (k : ℕ) → AtRest n F k ⊎ (tally n (F k) + 1 ≤ tally n (F (suc k)))
  moves k =
      ⊎_elim (λ (l : tally n (F k) < tally n (F (suc k))). inr (omega arith))
      (λ (l : tally n (F (suc k)) ≤ tally n (F k)). inl (λ x h.
      ⊎_elim (λ (t : F k x ≡ true). rises k x h t ∙ sym t)
      (λ (f : F k x ≡ false).
      ⊎_elim (λ (t : F (suc k) x ≡ true). absurd (omega (arith, tally_more n (F k) (F (suc k)) (rises k) x h f t))) (λ (g : F (suc k) x ≡ false). g ∙ sym f) (cases_Bool (F (suc k) x)))
      (cases_Bool (F k x))))
      (cases_lt (tally n (F k)) (tally n (F (suc k))))

  progress : (j : ℕ) → ((i : ℕ) × (i < j) × AtRest n F i) ⊎ (tally n (F 0) + j ≤ tally n (F j))
  progress zero = inr (omega arith)
  progress (suc j) =
      ⊎_elim (λ w. inl (w.0, omega (arith, w.1), w.2))
      (λ (h : tally n (F 0) + j ≤ tally n (F j)). ⊎_elim (λ rest. inl (j, omega arith, rest)) (λ (g : tally n (F j) + 1 ≤ tally n (F (suc j))). inr (omega arith)) (moves j))
      (progress j)

  -- what is ever taken in is taken in before level n
  settles : (k x : ℕ) → x < n → F k x ≡ true → (j : ℕ) × (j < n) × (F j x ≡ true)
  settles k x l t =
      ⊎_elim
      (λ (none : tally n (F 0) ≡ 0).
      let empty = tally_empty n (F 0) none in
      let rest : AtRest n F 0 = λ y h. starts empty y h ∙ sym (empty y h) in
      absurd (both_ways (F 0 x) (empty x l) (sym (same_later 0 k x (omega arith) rest l) ∙ t)))
      (λ (some : tally n (F 0) ≡ 0 → ⊥).
      ⊎_elim
      (λ w. (
        w.0,
        omega (arith, w.1),
        ⊎_elim (λ (h : k < w.0). rise k w.0 x (omega arith) l t) (λ (h : w.0 ≤ k). sym (same_later w.0 k x h w.2 l) ∙ t) (cases_lt k w.0),
      ))
      (λ (h : tally n (F 0) + (n - 1) ≤ tally n (F (n - 1))). (n - 1, omega arith, tally_full n (F (n - 1)) (omega arith) x l))
      (progress (n - 1)))
      (cases_eq (tally n (F 0)) 0)

  -- x is in level k exactly when the least level that has it is found, at or below k
  pub rank_from : (k x : ℕ) → x < n → F k x ≡ true → (r : ℕ) × (least n (λ j. F j x) ≡ Some r) × (r ≤ k)
  rank_from k x l t =
      ⊎_elim (λ (h : k < n). least_from n (λ j. F j x) k h t)
      (λ (h : n ≤ k). let s = settles k x l t in let w = least_from n (λ j. F j x) s.0 s.1 s.2 in (w.0, w.1, omega (arith, w.2, s.1)))
      (cases_lt k n)

  pub rank_reaches : (k x r : ℕ) → x < n → least n (λ j. F j x) ≡ Some r → r ≤ k → F k x ≡ true
  rank_reaches k x r l e h = rise r k x h l (least_found n (λ j. F j x) r e).passes

  pub no_rank : (k x : ℕ) → x < n → least n (λ j. F j x) ≡ None → F k x ≡ false
  no_rank k x l e =
      ⊎_elim (λ (t : F k x ≡ true). let s = settles k x l t in absurd (both_ways (F s.0 x) (least_none n (λ j. F j x) e s.0 s.1) s.2)) (λ f. f) (cases_Bool (F k x))
