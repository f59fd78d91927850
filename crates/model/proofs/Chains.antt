-- What a chain of calls over a list finds, said by the places of the list.
use Rattle.std.proofs.Common.{◌≡◌, ℕ, ◌<◌, Bool, true, false, List, length, get_or, Bor, Iter, Option, MatchOption, MatchBool, HoldsAt, sym, ⊎_elim, zero-le}
use denote.Param.Members.{Mut}
use Rattle.std.specs.Fn.{Called}
use Rattle.std.specs.Iterator.{YieldsThen}
use Rattle.std.specs.List.{FoldsTo, AllWithin}
use Rattle.std.specs.Slice.Iter.{iter_rest}
use Rattle.std.proofs.lemmas.Bool.{both_ways, cases_Bool}
use Rattle.std.proofs.lemmas.Iterator.{YieldsList-from_slice, cases_from_any}
use Rattle.std.proofs.iter.Yields.{fronts}
use Rattle.model.specs.Numbers.{any}
use Rattle.model.proofs.Numbers.{any_from, any_gives}

-- what a search for an item that passes answers, as the clause `cases` of `contains` has it
pub any_of_answer : {B : Type 0} (xs : List B) (d : B) (test : B → Bool) (r : Bool)
    → MatchBool r ((k : ℕ) × (k < length xs) × HoldsAt (λ x. test x ≡ true) xs k) (AllWithin (λ x. test x ≡ false) xs 0 (length xs))
    → r ≡ any (length xs) (λ k. test (get_or xs k d))
any_of_answer xs d test true w = sym (any_from (length xs) (λ k. test (get_or xs k d)) w.0 w.1 (w.2 d))
any_of_answer xs d test false none =
    let here : ℕ → Bool = λ k. test (get_or xs k d) in
    ⊎_elim
    (λ (t : any (length xs) here ≡ true). let w = any_gives (length xs) here t in absurd (both_ways (here w.0) (none w.0 d zero-le w.1) w.2))
    (λ (f : any (length xs) here ≡ false). sym f)
    (cases_Bool (any (length xs) here))

-- what `any` answers of a slice's items, from its clause `ran` and what each call of the closure does: it answers the test of the item, and
-- leaves the closure as it was
pub any_of_slice : {B F : Type 0} {g : Mut F (Bor B × Unit {0}) Bool} {s u : Iter B} {f : F} {r : Bool} (test : B → Bool) (d : B) (xs : List B) → iter_rest s ≡ xs
    → (ys : List (Bor B)) × (o : Option (Bor B)) × (j : F) × YieldsThen fronts s ys o u × FoldsTo (λ p x q. Called g p (x, tt) false q) f ys j
    × MatchOption o (r ≡ false) (λ x. (r ≡ true) × ((h : F) × Called g j (x, tt) true h))
    → ((x : Bor B) (t : Bool) (q : F) → Called g f (x, tt) t q → (q ≡ f) × (t ≡ test x.now))
    → r ≡ any (length xs) (λ k. test (get_or xs k d))
any_of_slice {s} {u} {f} {r} test d xs rest ran calls =
    any_of_answer xs d test r
    (cases_from_any u f r (λ x. test x ≡ true) (λ x. test x ≡ false) ran (YieldsList-from_slice xs rest)
    (λ x q call. sym (calls x true q call).1) (λ x q call. let h = calls x false q call in (h.0, sym h.1)))
