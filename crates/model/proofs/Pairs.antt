-- What holds of every link list.
use Rattle.std.proofs.Common.{◌≡◌, ℕ, zero, suc, ◌+◌, ◌*◌, ◌/◌, ◌<◌, ◌≤◌, Bool, false, ◌&&◌, ◌||◌, eqb, ltb, leb, List, [], ◌∷◌, length, get_or, take, drop, refl, ap, ◌∙◌, add-one, arith}
use Rattle.std.specs.Simd.{first_chunks}
use Rattle.std.proofs.lemmas.List.{get_or-drop}
use Rattle.std.proofs.lemmas.Bool.{or_parts, and_parts, and_from, eqb-true, eq-eqb, leb-false, ltb-false}
use Rattle.model.specs.Links.{pair_from, pair_to, listed, ListedByAPair, BelowCount, past, loose}
use Rattle.model.specs.Numbers.{any}
use Rattle.model.specs.Relations.{Inside}
use Rattle.model.proofs.Numbers.{any_from, any_gives, any_none}

-- the test and the pair that it finds
pub listed_by_a_pair : (pairs : List ℕ) → ListedByAPair pairs
listed_by_a_pair pairs p q =
    let here : ℕ → Bool = λ k. eqb (pair_from pairs k) p && eqb (pair_to pairs k) q in (
      λ t. let w = any_gives (length pairs / 2) here t in let b = and_parts _ _ w.2 in (w.0, w.1, eqb-true _ _ b.0, eqb-true _ _ b.1),
      λ w. any_from (length pairs / 2) here w.0 w.1 (and_from _ _ (eq-eqb _ _ w.2) (eq-eqb _ _ w.3)),
    )

-- where the list is not loose, each of its numbers is below the count, it has no more than 65,536 pairs, and only points are linked
pub all_below : (n : ℕ) (pairs : List ℕ) → loose n pairs ≡ false → BelowCount n pairs
all_below n pairs tight k h =
    let none = (or_parts (ltb 131072 (length pairs)) (past n pairs) (or_parts _ _ tight).1).1 in
    leb-false n _ (any_none (length pairs) (λ k. leb n (get_or pairs k 0)) none k h)

pub few_pairs : (n : ℕ) (pairs : List ℕ) → loose n pairs ≡ false → length pairs ≤ 131072
few_pairs n pairs tight = ltb-false 131072 (length pairs) (or_parts (ltb 131072 (length pairs)) (past n pairs) (or_parts _ _ tight).1).0

pub listed_inside : (n : ℕ) (pairs : List ℕ) → loose n pairs ≡ false → Inside n (listed pairs)
listed_inside n pairs tight p q t =
    let w = (listed_by_a_pair pairs p q).0 t in
    (rw (← w.2) (all_below n pairs tight (2 * w.0) (omega arith)), rw (← w.3) (all_below n pairs tight (2 * w.0 + 1) (omega arith)))

-- among the first k pairs, one goes from p to q
abbrev pub listed_first : List ℕ → ℕ → ℕ → ℕ → Bool
listed_first pairs k p q = any k (λ j. eqb (pair_from pairs j) p && eqb (pair_to pairs j) q)

-- one pair more
pub listed_more : (pairs : List ℕ) (k p q : ℕ) → listed_first pairs (k + 1) p q ≡ (listed_first pairs k p q || (eqb (pair_from pairs k) p && eqb (pair_to pairs k) q))
listed_more pairs k p q = rw (add-one k) refl

-- the list cut into pairs: the first and the second number of pair k
cut_first : (xs : List ℕ) → (get_or (take 2 xs) 0 0 ≡ get_or xs 0 0) × (get_or (take 2 xs) 1 0 ≡ get_or xs 1 0)
cut_first [] = (refl, refl)
cut_first (x ∷ []) = (refl, refl)
cut_first (x ∷ y ∷ zs) = (refl, refl)

cut_at : (n : ℕ) (xs : List ℕ) (k : ℕ) → k < n
    → (get_or (get_or (first_chunks 2 n xs) k []) 0 0 ≡ get_or xs (2 * k) 0) × (get_or (get_or (first_chunks 2 n xs) k []) 1 0 ≡ get_or xs (2 * k + 1) 0)
cut_at zero xs k h = absurd (omega arith)
cut_at (suc n) xs zero h = cut_first xs
cut_at (suc n) xs (suc k) h =
    let p = cut_at n (drop 2 xs) k (omega arith) in
    let a : 2 + 2 * k ≡ 2 * suc k = omega arith in
    let b : 2 + (2 * k + 1) ≡ 2 * suc k + 1 = omega arith in
    (p.0 ∙ (get_or-drop 2 xs (2 * k) 0 ∙ ap (λ i. get_or xs i 0) a), p.1 ∙ (get_or-drop 2 xs (2 * k + 1) 0 ∙ ap (λ i. get_or xs i 0) b))

pub cut_from : (cut : List (List ℕ)) (pairs : List ℕ) (k : ℕ) → cut ≡ first_chunks 2 (length pairs / 2) pairs → k < length pairs / 2 → get_or (get_or cut k []) 0 0 ≡ pair_from pairs k
cut_from cut pairs k is h = rw is (cut_at (length pairs / 2) pairs k h).0

pub cut_to : (cut : List (List ℕ)) (pairs : List ℕ) (k : ℕ) → cut ≡ first_chunks 2 (length pairs / 2) pairs → k < length pairs / 2 → get_or (get_or cut k []) 1 0 ≡ pair_to pairs k
cut_to cut pairs k is h = rw is (cut_at (length pairs / 2) pairs k h).1
