-- What `any` and `find` answer where an iterator goes through the points that pass a test, from the least on.
use Rattle.std.proofs.Common.{◌≡◌, ℕ, ◌<◌, ◌≤◌, Bool, true, false, ◌&&◌, Some, None, Option, List, [], ◌∷◌, refl, sym, ◌∙◌, subst, ap₂, ⊎_elim, arith, MatchOption, IfSome}
use denote.Param.Members.{Mut}
use denote.Ref.{Bor}
use Rattle.std.specs.Fn.{Called, CalledAt}
use Rattle.std.specs.Iterator.{YieldsThen}
use Rattle.std.specs.List.{FoldsTo}
use Rattle.std.proofs.lemmas.Bool.{cases_Bool, cases_lt, both_ways, and_from, and_parts}
use Rattle.model.specs.Numbers.{any, Least}
use Rattle.model.specs.Relations.{MovesOn}
use Rattle.model.proofs.Numbers.{any_from, any_gives}

-- some number below n passes both tests, or none does
pub any_both : (n : ℕ) (row test : ℕ → Bool) (k : ℕ) → k < n → row k ≡ true → test k ≡ true → true ≡ any n (λ j. row j && test j)
any_both n row test k h r t = sym (any_from n (λ j. row j && test j) k h (and_from (row k) (test k) r t))

pub none_both : (n : ℕ) (row test : ℕ → Bool) → ((k : ℕ) → k < n → row k ≡ true → test k ≡ false) → false ≡ any n (λ j. row j && test j)
none_both n row test none =
    ⊎_elim (λ (t : any n (λ j. row j && test j) ≡ true).
    let w = any_gives n (λ j. row j && test j) t in
    let p = and_parts (row w.0) (test w.0) w.2 in
    absurd (both_ways (test w.0) (none w.0 w.1 p.0) p.1))
    sym (cases_Bool (any n (λ j. row j && test j)))

-- what fails the second test where it passes the first fails one of them
and_off : (a b : Bool) → (a ≡ true → b ≡ false) → (a && b) ≡ false
and_off true b h = h refl
and_off false b h = refl

module _ {S : Type 0} (points : S → ℕ) (row : S → ℕ → Bool) (from : S → ℕ) where
  -- before the place behind y no number of the row passes, where none did before s and y does not
  passed_over : (test : ℕ → Bool) (s t : S) (y : ℕ) → MovesOn points row from s (Some y) t → ((k : ℕ) → k < from s → row s k ≡ true → test k ≡ false) → test y ≡ false
      → (k : ℕ) → k < from t → row t k ≡ true → test k ≡ false
  passed_over test s t y m before here k h l =
      let l' : row s k ≡ true = subst (λ (z : ℕ → Bool). z k ≡ true) m.1 l in
      ⊎_elim (λ (b : k < from s). before k b l')
      (λ (b : from s ≤ k).
      ⊎_elim (λ (c : k < y). absurd (both_ways (row s k) (m.2.3 k b c) l')) (λ (c : y ≤ k). let e : y ≡ k = omega (arith, m.3) in subst (λ (z : ℕ). test z ≡ false) e here) (cases_lt k y))
      (cases_lt k (from s))

  module _ {F : Type 0} (g : Mut F (ℕ × Unit {0}) Bool) (test : ℕ → Bool) (f : F) where
    -- where the numbers before the place of s do not pass, the calls from there on answer for all
    any_from_here : (s u : S) (r : Bool) (xs : List ℕ) (o : Option ℕ) (j : F) → ((k : ℕ) → k < from s → row s k ≡ true → test k ≡ false)
        → YieldsThen (MovesOn points row from) s xs o u → FoldsTo (λ p x q. Called g p (x, tt) false q) f xs j
        → MatchOption o (r ≡ false) (λ x. (r ≡ true) × ((h : F) × Called g j (x, tt) true h))
        → ((x : ℕ) (q : F) → Called g f (x, tt) true q → test x ≡ true) → ((x : ℕ) (q : F) → Called g f (x, tt) false q → (q ≡ f) × (test x ≡ false))
        → r ≡ any (points s) (λ k. row s k && test k)
    any_from_here s u r [] None j before (t, e, m) fold is passes fails =
        is ∙ none_both (points s) (row s) test (λ k h l.
        ⊎_elim (λ (b : k < from s). before k b l) (λ (b : from s ≤ k). absurd (both_ways (row s k) (subst (λ (z : S). from z ≤ k → k < points z → row z k ≡ false) (sym e) (m.2 k) b h) l)) (cases_lt k (from s)))
    any_from_here s u r [] (Some x) j before (t, e, m) fold is passes fails =
        let m' : MovesOn points row from s (Some x) u = subst (λ (z : S). MovesOn points row from z (Some x) u) (sym e) m in
        is.0 ∙ any_both (points s) (row s) test x m'.2.1 m'.2.2 (passes x is.1.0 (subst (λ (z : F). Called g z (x, tt) true is.1.0) (sym fold) is.1.1))
    any_from_here s u r (y ∷ ys) o j before (t, (mid, m, more), last) (q, call, fold) is passes fails =
        let out = fails y q call in
        let same : any (points mid) (λ k. row mid k && test k) ≡ any (points s) (λ k. row s k && test k) = ap₂ (λ n w. any n (λ k. w k && test k)) m.0 m.1 in
        any_from_here mid u r ys o j (passed_over test s mid y m before out.1) (t, more, last) (subst (λ (z : F). FoldsTo (λ p x q. Called g p (x, tt) false q) z ys j) out.0 fold) is passes fails ∙ same

    -- `any`, from the start on
    pub any_on : (s u : S) (r : Bool) → from s ≡ 0
        → (xs : List ℕ) × (o : Option ℕ) × (j : F) × YieldsThen (MovesOn points row from) s xs o u × FoldsTo (λ p x q. Called g p (x, tt) false q) f xs j
        × MatchOption o (r ≡ false) (λ x. (r ≡ true) × ((h : F) × Called g j (x, tt) true h))
        → ((x : ℕ) (q : F) → Called g f (x, tt) true q → test x ≡ true) → ((x : ℕ) (q : F) → Called g f (x, tt) false q → (q ≡ f) × (test x ≡ false))
        → r ≡ any (points s) (λ k. row s k && test k)
    any_on s u r z (xs, o, j, seen, fold, is) passes fails = any_from_here s u r xs o j (λ k h l. absurd (omega (arith, z))) seen fold is passes fails

  module _ {F : Type 0} (g : Mut F (Bor ℕ × Unit {0}) Bool) (test : ℕ → Bool) (f : F) where
    -- where the numbers before the place of s do not pass, what the calls from there on find is the least of all
    find_from_here : (s u : S) (r : Option ℕ) (xs : List ℕ) (j : F) → ((k : ℕ) → k < from s → row s k ≡ true → test k ≡ false)
        → YieldsThen (MovesOn points row from) s xs r u → FoldsTo (λ p x q. CalledAt g p x false q) f xs j → IfSome r (λ x. (h : F) × CalledAt g j x true h)
        → ((x : ℕ) (q : F) → CalledAt g f x true q → test x ≡ true) → ((x : ℕ) (q : F) → CalledAt g f x false q → (q ≡ f) × (test x ≡ false))
        → Least (λ k. row s k && test k) 0 (points s) r
    find_from_here s u None [] j before (t, e, m) fold is passes fails =
        λ k a h. and_off (row s k) (test k) (λ l.
        ⊎_elim (λ (b : k < from s). before k b l) (λ (b : from s ≤ k). absurd (both_ways (row s k) (subst (λ (z : S). from z ≤ k → k < points z → row z k ≡ false) (sym e) (m.2 k) b h) l)) (cases_lt k (from s)))
    find_from_here s u (Some x) [] j before (t, e, m) fold is passes fails =
        let m' : MovesOn points row from s (Some x) u = subst (λ (z : S). MovesOn points row from z (Some x) u) (sym e) m in (
          omega arith,
          m'.2.1,
          and_from _ _ m'.2.2 (passes x is.0 (subst (λ (z : F). CalledAt g z x true is.0) (sym fold) is.1)),
          λ k a h. and_off (row s k) (test k) (λ l.
              ⊎_elim (λ (b : k < from s). before k b l) (λ (b : from s ≤ k). absurd (both_ways (row s k) (m'.2.3 k b h) l)) (cases_lt k (from s))),
        )
    find_from_here s u r (y ∷ ys) j before (t, (mid, m, more), last) (q, call, fold) is passes fails =
        let out = fails y q call in
        subst (λ (n : ℕ). Least (λ k. row s k && test k) 0 n r) m.0 (subst (λ (w : ℕ → Bool). Least (λ k. w k && test k) 0 (points mid) r) m.1
        (find_from_here mid u r ys j (passed_over test s mid y m before out.1) (t, more, last) (subst (λ (z : F). FoldsTo (λ p x q. CalledAt g p x false q) z ys j) out.0 fold) is passes fails))

    -- `find`, from the start on
    pub find_on : (s u : S) (r : Option ℕ) → from s ≡ 0
        → (xs : List ℕ) × (j : F) × YieldsThen (MovesOn points row from) s xs r u × FoldsTo (λ p x q. CalledAt g p x false q) f xs j × IfSome r (λ x. (h : F) × CalledAt g j x true h)
        → ((x : ℕ) (q : F) → CalledAt g f x true q → test x ≡ true) → ((x : ℕ) (q : F) → CalledAt g f x false q → (q ≡ f) × (test x ≡ false))
        → Least (λ k. row s k && test k) 0 (points s) r
    find_on s u r z (xs, j, seen, fold, is) passes fails = find_from_here s u r xs j (λ k h l. absurd (omega (arith, z))) seen fold is passes fails
