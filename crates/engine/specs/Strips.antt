-- What is shown on a strip.
use Rattle.std.specs.Prelude.{◌≡◌, ℕ, suc, Bool, not, ◌&&◌, List, [], length, Option}
use Rattle.std.specs.Option.{option_map, unwrap_or}
use Rattle.model.specs.Numbers.{least}
use Rattle.model.specs.Showing.{circle, written_on}
use Rattle.model.specs.Table.{says_yes}

-- what there is to show stands at the front of the strip, and the answer is how many numbers it has; where there is nothing the strip is as it was
pub record Put (shown : Option (List ℕ)) (old new : List ℕ) (r : Option ℕ) : Type 0 where
  pub count : r ≡ option_map length shown
  pub strip : new ≡ written_on (unwrap_or shown []) old

-- the least next day answered no
abbrev pub next_no : ℕ → (ℕ → ℕ → Bool) → (ℕ → ℕ) → ℕ → Option ℕ
next_no m after own d = least m (λ e. after d e && not (says_yes (own e)))

-- from d to the first repeated day, none of them awaited, by the words of an every-future line and of its left line
abbrev pub days_round : ℕ → (ℕ → ℕ → Bool) → (ℕ → ℕ) → (ℕ → ℕ) → ℕ → Option (List ℕ)
days_round m after own left d = circle (next_no m after own) (λ e. says_yes (left e)) (suc m) [] d
