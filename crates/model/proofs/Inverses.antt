-- Division by a product: with 2 ^ 32 / c + 1 for the inverse of c, the quotient of a number up to 4,096 is a product and a shift.
use Rattle.std.proofs.Common.{◌≡◌, ℕ, ◌+◌, ◌-◌, ◌*◌, ◌/◌, ◌%◌, ◌<◌, ◌≤◌, sym, ap, ◌∙◌, ⊎_elim, mul_assoc, mul_comm, add-mul, one-mul, mul-add, arith}
use native.Mathlib.Nat.{div-eq_of_lt-le}
use Rattle.std.proofs.lemmas.Nat.{div-add-mod', mod_below, mul-le}
use Rattle.std.proofs.lemmas.Bool.{cases_lt}

-- p is q times c and r more, 2 ^ 32 is k times c and s more
module _ (c p k s q r : ℕ) (few : c ≤ 4096) (below : p ≤ 4096) (hs : s < c) (hr : r < c) (whole : k * c + s ≡ 4294967296) (parts : q * c + r ≡ p) where
  -- the inverse is large
  large : 1048575 ≤ k
  large =
      ⊎_elim (λ (l : k < 1048575). absurd (omega (arith, mul-le k c 1048575 4096 (omega arith) few))) (λ (l : 1048575 ≤ k). l) (cases_lt k 1048575)

  -- c times the inverse is 2 ^ 32 and at most c more
  times : c * (k + 1) ≡ 4294967296 + (c - s)
  times = omega (arith, mul-add c k 1, mul_comm c k)

  product : p * (k + 1) ≡ q * 4294967296 + q * (c - s) + r * (k + 1)
  product =
      ap (λ n. n * (k + 1)) (sym parts)
      ∙ add-mul (q * c) r (k + 1)
      ∙ ap (λ n. n + r * (k + 1)) (mul_assoc q c (k + 1) ∙ ap (λ n. q * n) times ∙ mul-add q 4294967296 (c - s))

  quotient : p * (k + 1) / 4294967296 ≡ q
  quotient =
      let most = mul-le q (c - s) q c (omega arith) (omega arith) in
      let last : r * (k + 1) + (k + 1) ≤ 4294967296 + (c - s) =
      omega (arith, add-mul r 1 (k + 1), one-mul (k + 1), mul-le (r + 1) (k + 1) c (k + 1) (omega arith) (omega arith), times) in
      div-eq_of_lt-le {k = q} 4294967296 (omega (arith, product)) (omega (arith, product, large, add-mul q 1 4294967296))

pub row_is : (c p : ℕ) → 1 ≤ c → c ≤ 4096 → p ≤ 4096 → p * (4294967296 / c + 1) / 4294967296 ≡ p / c
row_is c p some few below =
    quotient c p (4294967296 / c) (4294967296 % c) (p / c) (p % c) few below (mod_below 4294967296 c some) (mod_below p c some) (div-add-mod' 4294967296 c) (div-add-mod' p c)
