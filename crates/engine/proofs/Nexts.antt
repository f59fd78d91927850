-- The word of a next entry depends on the next days alone.
use Rattle.std.proofs.Common.{◌≡◌, ℕ, ◌<◌, Bool, ◌&&◌, ap}
use Rattle.model.specs.Table.{word}
use Rattle.model.proofs.Numbers.{any_same}
use Rattle.engine.specs.Filling.{next_word}

-- left's words on the days are all that counts
pub next_same : (m : ℕ) (after : ℕ → ℕ → Bool) (left : ℕ → Bool) (d : ℕ) (left' : ℕ → Bool) → ((e : ℕ) → e < m → left e ≡ left' e) → next_word m after left d ≡ next_word m after left' d
next_same m after left d left' same = ap (λ b. word b 0) (any_same m _ _ (λ e h. ap (λ b. after d e && b) (same e h)))
