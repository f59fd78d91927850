-- The word of a near entry, by what is found among the points that lead here.
use Rattle.std.proofs.Common.{◌≡◌, ℕ, ◌<◌, Bool, true, false, cond, ◌&&◌, refl, ap, ap₂}
use Rattle.model.specs.Numbers.{any}
use Rattle.model.specs.Table.{near_word}
use Rattle.model.proofs.GoingThrough.{none_both}
use Rattle.model.proofs.Numbers.{any_same}

-- where left is not yes here, by whether it is at a point that leads here
pub near_by : (n : ℕ) (leads : ℕ → ℕ → Bool) (left : ℕ → Bool) (x : ℕ) → left x ≡ false → (b : Bool) → b ≡ any n (λ y. leads y x && left y) → cond b 3 0 ≡ near_word n leads left x
near_by n leads left x not_here b is = rw (not_here, ← is) refl

-- where left is yes neither here nor at a point that leads here
pub near_nowhere : (n : ℕ) (leads : ℕ → ℕ → Bool) (left : ℕ → Bool) (x : ℕ) → left x ≡ false → ((y : ℕ) → y < n → leads y x ≡ true → left y ≡ false) → 0 ≡ near_word n leads left x
near_nowhere n leads left x not_here none = near_by n leads left x not_here false (none_both n (λ y. leads y x) left none)

-- left's words at the points are all that counts
pub near_same : (n : ℕ) (leads : ℕ → ℕ → Bool) (left left' : ℕ → Bool) → ((y : ℕ) → y < n → left y ≡ left' y) → (x : ℕ) → x < n → near_word n leads left x ≡ near_word n leads left' x
near_same n leads left left' same x h =
    ap₂ (λ b c. cond b 1 (cond c 3 0)) (same x h) (any_same n _ _ (λ y l. ap (λ b. leads y x && b) (same y l)))
