-- The grid: point row × columns + column, leading to its neighbours north, west, east and south.
use Rattle.std.specs.Prelude.{◌≡◌, ℕ, ◌+◌, ◌*◌, ◌/◌, ◌<◌, Bool, ◌&&◌, ◌||◌, ◌==◌, nat_lt}

-- points p and q stand in one row
abbrev pub same_row : ℕ → ℕ → ℕ → Bool
same_row cols p q = p / cols == q / cols

-- q is the eastern neighbour of p: the next point, if it stands in p's row
abbrev pub east : ℕ → ℕ → ℕ → Bool
east cols p q = p + 1 == q && same_row cols p q

-- q is the southern neighbour of p: the point one row on
abbrev pub south : ℕ → ℕ → ℕ → Bool
south cols p q = p + cols == q

-- p leads to q: each is a point, and one is the other's eastern or southern neighbour
abbrev pub beside : ℕ → ℕ → ℕ → ℕ → Bool
beside rows cols p q =
    nat_lt p (rows * cols) && (nat_lt q (rows * cols) && ((south cols q p || east cols q p) || (east cols p q || south cols p q)))

-- a and b are neighbouring numbers
abbrev pub one_apart : ℕ → ℕ → Bool
one_apart a b = a + 1 == b || b + 1 == a

-- read by rows and columns, a point leads to exactly the points one column away in its row or one row away in its column
abbrev pub ReadsByRowAndColumn : ℕ → ℕ → Type 0
ReadsByRowAndColumn rows cols =
    (r c s d : ℕ) → (r < rows) × (c < cols) → (s < rows) × (d < cols)
    → beside rows cols (r * cols + c) (s * cols + d) ≡ ((r == s && one_apart c d) || (c == d && one_apart r s))
