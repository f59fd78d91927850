-- What a search through the numbers below a count finds, and so the first false point, day and line.
use Rattle.std.proofs.Common.{◌≡◌, ℕ, ◌+◌, ◌<◌, ◌≤◌, true, Some, None, Option, MatchOption, IfSome, IsSomeAnd, IsTrue, List, refl, sym, ap, ◌∙◌, subst, arith, rules}
use denote.Param.Members.{Mut}
use Rattle.std.specs.Fn.{Called}
use Rattle.std.specs.Option.{option_map}
use Rattle.std.specs.Iterator.Runs.{Run, SomeRun, AllItemsGive, IsFirstToGive, CallKeepsClosure}
use Rattle.std.proofs.iter.Yields.{nat_range_steps}
use Rattle.std.proofs.iter.runs.Sources.{range_runs}
use Rattle.model.specs.declared.answers.Place.{Place}
use Rattle.model.specs.declared.line.Line.{Line}
use Rattle.model.specs.Lines.{line_at}
use Rattle.model.specs.Logic.{Model}
use Rattle.model.specs.Table.{Plane}
use Rattle.examiner.specs.FalsePlaces.{TrueAt, FalsePoint, FalseDay, FalseLine}

map_same : {A : Type 0} (o : Option A) → option_map (λ y. y) o ≡ o
map_same None = refl
map_same (Some x) = refl

-- the numbers come one after the other
comes : (n : ℕ) (p : Run nat_range_steps) (k : ℕ) → p.from ≡ record { start = 0; end = n } → k < p.len → p.at k ≡ Some k
comes n p k from h =
    let u = range_runs p p.seen in
    let z : p.from.start ≡ 0 = ap (λ r. r.start) from in
    let s : p.from.start + k ≡ k = omega arith in
    sym (map_same (p.at k)) ∙ u.3 k h ∙ ap Some s

module _ {F B : Type 0} {g : Mut F (ℕ × Unit {0}) (Option B)} (n : ℕ) (f : F) (No : ℕ → Type 0) (Yes : ℕ → B → Type 0) where
  -- `find_map` over the numbers below n
  pub first_mapped : (r : Option B)
      → SomeRun nat_range_steps (record { start = 0; end = n }) (λ p. MatchOption r (IsTrue p.whole × AllItemsGive p g f None) (λ y. (i : ℕ) × (i < p.len) × (p.len ≡ i + 1) × IsFirstToGive p g f (Some y) None i))
      → CallKeepsClosure g f
      → ((x : ℕ) → Called g f (x, tt) None f → No x)
      → ((x : ℕ) (y : B) → Called g f (x, tt) (Some y) f → Yes x y)
      → MatchOption r ((k : ℕ) → k < n → No k) (λ y. (x : ℕ) × (x < n) × Yes x y × ((k : ℕ) → k < x → No k))
  first_mapped None (p, from, rest) keeps none some = λ k h.
      let u = range_runs p p.seen in
      let w : p.whole ≡ true = search rules in
      let z : p.from.start ≡ 0 = ap (λ r. r.start) from in
      let e : p.from.end ≡ n = ap (λ r. r.end) from in
      let l : k < p.len = omega (arith, u.1 w) in
      none k (subst (λ o. IfSome o (λ x. Called g f (x, tt) None f)) (comes n p k from l) (rest.1 keeps k))
  first_mapped (Some y) (p, from, (i, l, is, first)) keeps none some =
      let u = range_runs p p.seen in
      let z : p.from.start ≡ 0 = ap (λ r. r.start) from in
      let e : p.from.end ≡ n = ap (λ r. r.end) from in
      let d = first keeps in (
        i,
        omega (arith, u.0),
        some i y (subst (λ o. IsSomeAnd o (λ x. Called g f (x, tt) (Some y) f)) (comes n p i from l) d.0),
        λ k h. none k (subst (λ o. IsSomeAnd o (λ x. Called g f (x, tt) None f)) (comes n p k from (omega arith)) (d.1 k h)),
      )

module _ (M : Model) (words : ℕ → Plane) where
  pub point_found : (line : Line) (i d : ℕ) (r : Option ℕ)
      → MatchOption r ((x : ℕ) → 0 ≤ x → x < M.points → TrueAt M line words i d x)
      (λ x. (0 ≤ x) × (x < M.points) × (TrueAt M line words i d x → ⊥) × ((y : ℕ) → 0 ≤ y → y < x → TrueAt M line words i d y))
      → FalsePoint M line words i d r
  unfolding FalsePoint
  point_found line i d None h = λ x l. h x (omega arith) l
  point_found line i d (Some x) h = (h.1, h.2, λ y l. h.3 y (omega arith) l)

  pub day_found : (line : Line) (i : ℕ) (r : Option (ℕ × ℕ))
      → MatchOption r ((d : ℕ) → d < M.days → FalsePoint M line words i d None)
      (λ p. (d : ℕ) × (d < M.days) × ((p.0 ≡ d) × FalsePoint M line words i d (Some p.1)) × ((e : ℕ) → e < d → FalsePoint M line words i e None))
      → FalseDay M line words i r
  unfolding FalseDay
  day_found line i None h = h
  day_found line i (Some (d, x)) (e, l, (is, here), before) = rw is (l, here, before)

  pub line_found : (lines : List Line) (count : ℕ) (r : Option Place)
      → MatchOption r ((i : ℕ) → i < count → FalseDay M (line_at lines i) words i None)
      (λ p. (i : ℕ) × (i < count) × ((p.line ≡ i) × FalseDay M (line_at lines i) words i (Some (p.day, p.point))) × ((j : ℕ) → j < i → FalseDay M (line_at lines j) words j None))
      → FalseLine M lines words count r
  unfolding FalseLine
  line_found lines count None h = h
  line_found lines count (Some p) (i, l, (is, here), before) = rw is (l, here, before)
