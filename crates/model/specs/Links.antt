-- The link list of a floor or a calendar: pairs of numbers, from and to, one pair after the other.
use Rattle.std.specs.Prelude.{◌≡◌, ℕ, ◌+◌, ◌*◌, ◌/◌, ◌%◌, ◌<◌, Bool, true, ◌&&◌, ◌||◌, ◌↔◌, List, length, ◌==◌, nat_le, nat_lt, slice_index}
use Rattle.model.specs.Numbers.{any}

-- where pair number k comes from, and where it goes to
abbrev pub pair_from : List ℕ → ℕ → ℕ
pair_from pairs k = slice_index pairs (2 * k)

abbrev pub pair_to : List ℕ → ℕ → ℕ
pair_to pairs k = slice_index pairs (2 * k + 1)

-- some pair of the list goes from p to q
abbrev pub listed : List ℕ → ℕ → ℕ → Bool
listed pairs p q = any (length pairs / 2) (λ k. (pair_from pairs k == p) && pair_to pairs k == q)

-- p leads to q exactly when a pair of the list says so
abbrev pub ListedByAPair : List ℕ → Type 0
ListedByAPair pairs =
    (p q : ℕ) → (listed pairs p q ≡ true) ↔ ((k : ℕ) × (k < length pairs / 2) × (pair_from pairs k ≡ p) × (pair_to pairs k ≡ q))

-- some number of the list is not below the count
abbrev pub past : ℕ → List ℕ → Bool
past n pairs = any (length pairs) (λ k. nat_le n (slice_index pairs k))

-- every number of the list is below the count
abbrev pub BelowCount : ℕ → List ℕ → Type 0
BelowCount n pairs = (i : ℕ) → i < length pairs → slice_index pairs i < n

-- the list is odd, has more than 65,536 pairs, or a number that is not below the count
abbrev pub loose : ℕ → List ℕ → Bool
loose n pairs = length pairs % 2 == 1 || (nat_lt 131072 (length pairs) || past n pairs)
