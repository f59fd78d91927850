-- What holds of every floor's and every calendar's relation.
use Rattle.std.proofs.Common.{◌≡◌, ℕ, ◌≤◌, Bool, Some, None, Option, ◌∙◌, ⊎_elim, zero-le}
use Rattle.std.specs.Option.{unwrap_or}
use Rattle.std.proofs.lemmas.Bool.{cases_lt, both_ways, le-ltb, lt-ltb}
use Rattle.model.specs.Numbers.{Least}
use Rattle.model.specs.Relations.{Inside, Unending, Morrow}

-- the least day that comes after d is its morrow; a number from which nothing comes after is no day, so the count stands for its morrow
pub morrow_of : (n : ℕ) (leads : ℕ → ℕ → Bool) → Inside n leads → Unending n leads → (d e c : ℕ) (next : Option ℕ) → Least (leads d) 0 n next → c ≡ n → e ≡ unwrap_or next c → Morrow n leads d e
morrow_of n leads inside unending d e c None none count is =
    let past : n ≤ d = ⊎_elim (λ h. let w = unending d h in absurd (both_ways (leads d w.0) (none w.0 zero-le (inside d w.0 w.1).1) w.1)) (λ h. h) (cases_lt d n) in
    rw (le-ltb d n past) (is ∙ count)
morrow_of n leads inside unending d e c (Some f) least count is =
    rw (lt-ltb d n (inside d f least.2).0, is) (least.1, least.2, λ k h. least.3 k zero-le h)
