-- Filling in a line of the findings book: which words are written, and that every other word stays.
use Rattle.std.specs.Prelude.{◌≡◌, ℕ, ◌+◌, ◌*◌, ◌/◌, ◌%◌, ◌<◌, ◌≤◌, Bool, true, false, cond, ◌&&◌, ◌⊎◌, List, ◌≢◌, nat_lt, length, slice_index}
use Rattle.model.specs.Numbers.{any}
use Rattle.model.specs.Table.{word, says_yes, Plane}

-- from `base` on the first `size` words are the values, and every word before and after is as it was
pub record Written (base size : ℕ) (value : ℕ → ℕ) (old new : List ℕ) : Type 0 where
  pub words : (k : ℕ) → k < size → slice_index new (base + k) ≡ value k
  pub others : (k : ℕ) → (k < base) ⊎ (base + size ≤ k) → slice_index new k ≡ slice_index old k

-- each word of a line is the value of its place
abbrev pub Made : (ℕ → ℕ) → List ℕ → Type 0
Made value line = (k : ℕ) → k < length line → slice_index line k ≡ value k

-- the words of a plane in the order of the book: day by day, point by point
abbrev pub in_order : ℕ → Plane → ℕ → ℕ
in_order points plane k = plane (k / points) (k % points)

-- a line is yes on day d at point x
abbrev pub yes_at : ℕ → List ℕ → ℕ → ℕ → Bool
yes_at points words d x = says_yes (slice_index words (d * points + x))

-- left is yes on some day to which d leads
abbrev pub next_word : ℕ → (ℕ → ℕ → Bool) → (ℕ → Bool) → ℕ → ℕ
next_word m after left d = word (any m (λ e. after d e && left e)) 0

-- the word of the steps of a shortest way out, where the number of points stands for none
abbrev pub way_word : ℕ → ℕ → ℕ
way_word points steps = cond (nat_lt steps points) (word false steps) (word true 0)

-- the word of the fewest days, where the number of days stands for none
abbrev pub day_word : ℕ → ℕ → ℕ
day_word days steps = cond (nat_lt steps days) (word true steps) (word false 0)

-- at point x the word of each of m days is the value, and every other word of the line is as it was
pub record Column (n m x : ℕ) (value : ℕ → ℕ) (old new : List ℕ) : Type 0 where
  pub words : (d : ℕ) → d < m → slice_index new (d * n + x) ≡ value d
  pub others : (k : ℕ) → ((d : ℕ) → d < m → k ≢ d * n + x) → slice_index new k ≡ slice_index old k
