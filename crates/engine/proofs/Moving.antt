-- Going through the points next to a point: what a step gives, and what a search among them answers.
use Rattle.std.proofs.Common.{◌≡◌, ℕ, ◌<◌, Bool, true, false, ◌&&◌, Option, List, [], ◌∷◌, refl, sym, ap, ◌∙◌, subst, subst₂, MatchOption}
use denote.Param.Members.{Mut}
use Rattle.std.specs.Fn.{Called}
use Rattle.std.specs.Iterator.{Yields, YieldsThen, CallableAtEachTurn}
use Rattle.std.specs.List.{FoldsTo}
use Rattle.std.proofs.lemmas.Fn.{serves_by}
use Rattle.model.specs.declared.neighbours.PointsAfter.{PointsAfter}
use Rattle.model.specs.declared.neighbours.PointsBefore.{PointsBefore}
use Rattle.model.specs.Numbers.{any, Least}
use Rattle.model.specs.Relations.{turned, MovesOn}
use Rattle.model.proofs.GoingThrough.{any_on}

-- a step, told of the floor and the point that the iterator began with
pub told : {k n : ℕ} {row wanted : ℕ → Bool} (from : ℕ) (r : Option ℕ) → k ≡ n → row ≡ wanted → Least row from k r → Least wanted from n r
told from r p q least = subst₂ (λ (i : ℕ) (w : ℕ → Bool). Least w from i r) p q least

module _ {S : Type 0} (points : S → ℕ) (row : S → ℕ → Bool) (from : S → ℕ) where
  -- the floor and the point stay
  stays_on : (xs : List ℕ) (s t : S) → Yields (MovesOn points row from) s xs t → (points t ≡ points s) × (row t ≡ row s)
  stays_on [] s t e = (ap points (sym e), ap row (sym e))
  stays_on (x ∷ xs) s t (mid, m, more) = let h = stays_on xs mid t more in (h.0 ∙ m.0, h.1 ∙ m.1)

  -- a closure may be asked of each point, where it may be asked of those next to the point and stays as it is
  serves_on : {P : Type 0} {R : P → ℕ → P → Type 0} {Q : P → ℕ → Type 0} (s : S) (p : P)
      → ((x : ℕ) (q : P) → R p x q → q ≡ p) → ((x : ℕ) → x < points s → row s x ≡ true → Q p x) → CallableAtEachTurn (MovesOn points row from) R Q s p
  serves_on {P} {R} {Q} s p stays h =
      serves_by R (λ xs q. q ≡ p) (λ xs q x v e r. stays x v (subst (λ (z : P). R z x v) e r)) (MovesOn points row from) Q s p refl
      (λ xs t q x u y m e.
      let w = stays_on xs s t y in
      subst (λ (z : P). Q z x) (sym e) (h x (subst (λ (k : ℕ). x < k) w.0 m.2.1) (subst (λ (z : ℕ → Bool). z x ≡ true) w.1 m.2.2)))

-- over a floor of any make: what a search may ask its closure, and what it answers
module _ {D : Type 0} (points : D → ℕ) (leads : D → ℕ → ℕ → Bool) (floor : D) (x : ℕ) where
  module _ (s : PointsAfter D) (same_floor : s.floor.now ≡ floor) (same_point : s.point ≡ x) where
    abbrev pub AfterSteps : PointsAfter D → Option ℕ → PointsAfter D → Type 0
    AfterSteps = MovesOn (λ (s : PointsAfter D). points s.floor.now) (λ s. leads s.floor.now s.point) (λ s. s.from)

    pub asks_after : {P : Type 0} {R : P → ℕ → P → Type 0} {Q : P → ℕ → Type 0} (p : P) → ((y : ℕ) (q : P) → R p y q → q ≡ p) → ((y : ℕ) → y < points floor → Q p y) → CallableAtEachTurn AfterSteps R Q s p
    asks_after p stays h =
        serves_on (λ (s : PointsAfter D). points s.floor.now) (λ s. leads s.floor.now s.point) (λ s. s.from) s p stays (λ y b _. h y (subst (λ (d : D). y < points d) same_floor b))

    pub any_after : {F : Type 0} (g : Mut F (ℕ × Unit {0}) Bool) (test : ℕ → Bool) (f : F) (u : PointsAfter D) (r : Bool) → s.from ≡ 0
        → (ys : List ℕ) × (o : Option ℕ) × (j : F) × YieldsThen AfterSteps s ys o u × FoldsTo (λ p y q. Called g p (y, tt) false q) f ys j
        × MatchOption o (r ≡ false) (λ y. (r ≡ true) × ((h : F) × Called g j (y, tt) true h))
        → ((y : ℕ) (q : F) → Called g f (y, tt) true q → test y ≡ true) → ((y : ℕ) (q : F) → Called g f (y, tt) false q → (q ≡ f) × (test y ≡ false))
        → r ≡ any (points floor) (λ y. leads floor x y && test y)
    any_after g test f u r z ran passes fails =
        subst₂ (λ (d : D) (k : ℕ). r ≡ any (points d) (λ y. leads d k y && test y)) same_floor same_point
        (any_on (λ (s : PointsAfter D). points s.floor.now) (λ s. leads s.floor.now s.point) (λ s. s.from) g test f s u r z ran passes fails)

  module _ (s : PointsBefore D) (same_floor : s.floor.now ≡ floor) (same_point : s.point ≡ x) where
    abbrev pub BeforeSteps : PointsBefore D → Option ℕ → PointsBefore D → Type 0
    BeforeSteps = MovesOn (λ (s : PointsBefore D). points s.floor.now) (λ s. turned (leads s.floor.now) s.point) (λ s. s.from)

    pub asks_before : {P : Type 0} {R : P → ℕ → P → Type 0} {Q : P → ℕ → Type 0} (p : P) → ((y : ℕ) (q : P) → R p y q → q ≡ p) → ((y : ℕ) → y < points floor → Q p y) → CallableAtEachTurn BeforeSteps R Q s p
    asks_before p stays h =
        serves_on (λ (s : PointsBefore D). points s.floor.now) (λ s. turned (leads s.floor.now) s.point) (λ s. s.from) s p stays (λ y b _. h y (subst (λ (d : D). y < points d) same_floor b))

    pub any_before : {F : Type 0} (g : Mut F (ℕ × Unit {0}) Bool) (test : ℕ → Bool) (f : F) (u : PointsBefore D) (r : Bool) → s.from ≡ 0
        → (ys : List ℕ) × (o : Option ℕ) × (j : F) × YieldsThen BeforeSteps s ys o u × FoldsTo (λ p y q. Called g p (y, tt) false q) f ys j
        × MatchOption o (r ≡ false) (λ y. (r ≡ true) × ((h : F) × Called g j (y, tt) true h))
        → ((y : ℕ) (q : F) → Called g f (y, tt) true q → test y ≡ true) → ((y : ℕ) (q : F) → Called g f (y, tt) false q → (q ≡ f) × (test y ≡ false))
        → r ≡ any (points floor) (λ y. leads floor y x && test y)
    any_before g test f u r z ran passes fails =
        subst₂ (λ (d : D) (k : ℕ). r ≡ any (points d) (λ y. leads d y k && test y)) same_floor same_point
        (any_on (λ (s : PointsBefore D). points s.floor.now) (λ s. turned (leads s.floor.now) s.point) (λ s. s.from) g test f s u r z ran passes fails)
