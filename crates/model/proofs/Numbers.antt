-- What holds of the numbers below a count.
use Rattle.std.proofs.Common.{◌≡◌, ℕ, zero, suc, ◌+◌, ◌<◌, ◌≤◌, Bool, true, false, cond, ◌&&◌, ◌||◌, leb, sym, refl, ◌∙◌, ap₂, ⊎_elim, zero-le, arith}
use Rattle.std.proofs.lemmas.Bool.{or_left, or_right, or_cases, and_from, and_parts, and_cases, le-leb, leb-true, cases_eq, cases_lt, cases_Bool, both_ways}
use Rattle.std.proofs.lemmas.Bool.Decides.{nat_tests}
use Rattle.model.specs.Numbers.{any, every, within, tally, highest}

-- a number below n that passes the test
pub any_from : (n : ℕ) (test : ℕ → Bool) (k : ℕ) → k < n → test k ≡ true → any n test ≡ true
any_from zero test k h t = absurd (omega arith)
any_from (suc n) test k h t =
    ⊎_elim (λ e. or_right (any n test) (test n) (rw (← e) t)) (λ ne. or_left (any n test) (test n) (any_from n test k (omega arith) t)) (cases_eq k n)

-- where some number passes, here is one
pub any_gives : (n : ℕ) (test : ℕ → Bool) → any n test ≡ true → (k : ℕ) × (k < n) × (test k ≡ true)
any_gives zero test t = absurd (both_ways false refl t)
any_gives (suc n) test t =
    ⊎_elim (λ h. let w = any_gives n test h in (w.0, omega arith, w.2)) (λ h. (n, omega arith, h)) (or_cases (any n test) (test n) t)

-- where none passes, this one does not
pub any_none : (n : ℕ) (test : ℕ → Bool) → any n test ≡ false → (k : ℕ) → k < n → test k ≡ false
any_none n test none k h = ⊎_elim (λ t. absurd (both_ways (any n test) none (any_from n test k h t))) (λ f. f) (cases_Bool (test k))

-- tests that agree below n
pub any_same : (n : ℕ) (t u : ℕ → Bool) → ((k : ℕ) → k < n → t k ≡ u k) → any n t ≡ any n u
any_same zero t u same = refl
any_same (suc n) t u same = ap₂ (λ a b. a || b) (any_same n t u (λ k h. same k (omega arith))) (same n (omega arith))

-- two tests that imply each other are the same
pub same_tests : (a b : Bool) → (a ≡ true → b ≡ true) → (b ≡ true → a ≡ true) → a ≡ b
same_tests true b f g = sym (f refl)
same_tests false true f g = absurd (both_ways false refl (g refl))
same_tests false false f g = refl

-- a number from `from` on and below `end` that passes the test
pub within_from : (from end : ℕ) (test : ℕ → Bool) (k : ℕ) → from ≤ k → k < end → test k ≡ true → within from end test ≡ true
within_from from end test k l h t = any_from end (λ i. leb from i && test i) k h (and_from _ _ (le-leb from k l) t)

pub within_gives : (from end : ℕ) (test : ℕ → Bool) → within from end test ≡ true → (k : ℕ) × (from ≤ k) × (k < end) × (test k ≡ true)
within_gives from end test t =
    let w = any_gives end (λ i. leb from i && test i) t in
    let parts = and_parts (leb from w.0) (test w.0) w.2 in
    (w.0, leb-true from w.0 parts.0, w.1, parts.1)

-- what is within one range is within another
pub within_moves : (from end : ℕ) (t : ℕ → Bool) (from' end' : ℕ) (u : ℕ → Bool) → ((k : ℕ) → from ≤ k → k < end → t k ≡ true → (i : ℕ) × (from' ≤ i) × (i < end') × (u i ≡ true)) → within from end t ≡ true → within from' end' u ≡ true
within_moves from end t from' end' u moves h =
    let w = within_gives from end t h in
    let v = moves w.0 w.1 w.2 w.3 in
    within_from from' end' u v.0 v.1 v.2 v.3

-- an empty range holds nothing
pub within_none : (from end : ℕ) (test : ℕ → Bool) → end ≤ from → within from end test ≡ false
within_none from end test h =
    ⊎_elim (λ t. let w = within_gives from end test t in absurd (omega arith)) (λ f. f) (cases_Bool (within from end test))

-- the first number of a range, and the others
pub within_first : (from end : ℕ) (test : ℕ → Bool) → from < end → within from end test ≡ (test from || within (from + 1) end test)
within_first from end test h =
    same_tests _ _
    (λ t. let w = within_gives from end test t in
    ⊎_elim (λ e. or_left (test from) (within (from + 1) end test) (rw (← e) w.3)) (λ ne. or_right (test from) (within (from + 1) end test) (within_from (from + 1) end test w.0 (omega arith) w.2 w.3)) (cases_eq w.0 from))
    (λ t. ⊎_elim (λ s. within_from from end test from (omega arith) h s)
    (λ s. let w = within_gives (from + 1) end test s in within_from from end test w.0 (omega arith) w.2 w.3) (or_cases _ _ t))

-- tests that agree on a range
pub within_same : (from end : ℕ) (t u : ℕ → Bool) → ((k : ℕ) → from ≤ k → k < end → t k ≡ u k) → within from end t ≡ within from end u
within_same from end t u same =
    same_tests _ _
    (within_moves from end t from end u (λ k l h s. (k, l, h, sym (same k l h) ∙ s)))
    (within_moves from end u from end t (λ k l h s. (k, l, h, same k l h ∙ s)))

-- a count is at most the number it counts below, and grows with it
pub tally_le : (n : ℕ) (test : ℕ → Bool) → tally n test ≤ n
tally_le zero test = zero-le
tally_le (suc n) test = let h = tally_le n test in grind (arith, nat_tests)

pub tally_grows : (j m : ℕ) (test : ℕ → Bool) → j ≤ m → tally j test ≤ tally m test
tally_grows j zero test h = let e : j ≡ 0 = omega arith in rw e (omega arith)
tally_grows j (suc m) test h =
    ⊎_elim (λ (l : j < suc m). let k = tally_grows j m test (omega arith) in omega arith) (λ (l : suc m ≤ j). let e : j ≡ suc m = omega arith in rw e (omega arith)) (cases_lt j (suc m))

-- a test that passes wherever the other does counts as many or more
pub tally_weaker : (n : ℕ) (t u : ℕ → Bool) → ((k : ℕ) → k < n → t k ≡ true → u k ≡ true) → tally n t ≤ tally n u
tally_weaker zero t u f = zero-le
tally_weaker (suc n) t u f =
    let rest = tally_weaker n t u (λ k h. f k (omega arith)) in
    let here = f n (omega arith) in
    grind arith

-- a test that passes at every number below v, and at none from v on, counts v
pub tally_least : (n v : ℕ) (test : ℕ → Bool) → v ≤ n → ((k : ℕ) → k < v → test k ≡ true) → v ≤ tally n test
tally_least zero v test h f = h
tally_least (suc n) v test h f =
    ⊎_elim (λ (l : v < suc n). let k = tally_least n v test (omega arith) f in omega arith)
    (λ (l : suc n ≤ v). let k = tally_least n n test (omega arith) (λ i q. f i (omega arith)) in let t = f n (omega arith) in grind arith)
    (cases_lt v (suc n))

pub tally_most : (n v : ℕ) (test : ℕ → Bool) → ((k : ℕ) → v ≤ k → k < n → test k ≡ false) → tally n test ≤ v
tally_most zero v test f = zero-le
tally_most (suc n) v test f =
    ⊎_elim (λ (l : n < v). let k = tally_le (suc n) test in omega arith)
    (λ (l : v ≤ n). let k = tally_most n v test (λ i q r. f i q (omega arith)) in let t = f n l (omega arith) in grind arith)
    (cases_lt n v)

-- two tests of which just one passes count together what their alternative counts
pub tally_splits : (n : ℕ) (t u s : ℕ → Bool) → ((k : ℕ) → cond (s k) 1 0 ≡ cond (t k) 1 0 + cond (u k) 1 0) → tally n s ≡ tally n t + tally n u
tally_splits zero t u s f = refl
tally_splits (suc n) t u s f = let rest = tally_splits n t u s f in omega (arith, f n)

-- every number below n
pub every_from : (n : ℕ) (test : ℕ → Bool) → ((k : ℕ) → k < n → test k ≡ true) → every n test ≡ true
every_from zero test all = refl
every_from (suc n) test all = and_from (every n test) (test n) (every_from n test (λ k h. all k (omega arith))) (all n (omega arith))

pub every_gives : (n : ℕ) (test : ℕ → Bool) → every n test ≡ true → (k : ℕ) → k < n → test k ≡ true
every_gives zero test t k h = absurd (omega arith)
every_gives (suc n) test t k h =
    let parts = and_parts (every n test) (test n) t in
    ⊎_elim (λ (e : k ≡ n). rw e parts.1) (λ (ne : k ≡ n → ⊥). every_gives n test parts.0 k (omega arith)) (cases_eq k n)

pub every_same : (n : ℕ) (t u : ℕ → Bool) → ((k : ℕ) → k < n → t k ≡ u k) → every n t ≡ every n u
every_same zero t u same = refl
every_same (suc n) t u same = ap₂ (λ a b. a && b) (every_same n t u (λ k h. same k (omega arith))) (same n (omega arith))

-- where not every number passes, one does not
pub every_fails : (n : ℕ) (test : ℕ → Bool) → every n test ≡ false → (k : ℕ) × (k < n) × (test k ≡ false)
every_fails zero test f = absurd (both_ways true f refl)
every_fails (suc n) test f =
    ⊎_elim (λ (g : every n test ≡ false). let w = every_fails n test g in (w.0, omega (arith, w.1), w.2)) (λ g. (n, omega arith, g)) (and_cases (every n test) (test n) f)

-- numbers of which none passes are passed over
pub highest_over : (from n : ℕ) (test : ℕ → Bool) (value : ℕ → ℕ) → from ≤ n → ((k : ℕ) → from ≤ k → k < n → test k ≡ false) → highest n test value ≡ highest from test value
highest_over from zero test value h none = let e : from ≡ 0 = omega arith in rw e
highest_over from (suc n) test value h none =
    ⊎_elim (λ (e : from ≡ suc n). rw e)
    (λ (ne : from ≡ suc n → ⊥).
    let rest = highest_over from n test value (omega arith) (λ k l i. none k l (omega arith)) in
    let here = none n (omega arith) (omega arith) in
    grind arith)
    (cases_eq from (suc n))
