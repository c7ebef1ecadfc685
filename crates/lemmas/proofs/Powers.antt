-- Powers of two.
use mathlib.Core.Path.{◌≡◌, sym, ap, ◌∙◌}
use Prim.Native.Nat.{ℕ, ◌+◌, ◌-◌, ◌*◌, ◌/◌, ◌%◌, ◌^◌, ◌<◌, ◌≤◌}
use native.Mathlib.Nat.{one-mul, mod-eq_of_lt}
use native.Mathlib.Omega.{arith}
use lib.Pow.{pow-lt, pow-add, shr_lt, ones_lt}
use lib.Arith.{digits_lt}

-- 1 shifted left by k
pub one_shl : (w k : ℕ) → k < w → (1 * 2 ^ k) % 2 ^ w ≡ 2 ^ k
one_shl w k h = rw one-mul (mod-eq_of_lt (pow-lt h))

-- the region of 2 ^ e bytes that holds a byte below 2 ^ w ends below 2 ^ w
pub region_lt : (w e b : ℕ) → b < 2 ^ w → e ≤ w → b / 2 ^ e * 2 ^ e + (2 ^ e - 1) < 2 ^ w
region_lt w e b h g =
    let same : w - e + e ≡ w = omega arith in
    let all : 2 ^ (w - e) * 2 ^ e ≡ 2 ^ w = sym (pow-add 2 (w - e) e) ∙ ap (λ (n : ℕ). 2 ^ n) same in
    let few : b / 2 ^ e < 2 ^ (w - e) = shr_lt (w - e) e (rw same h) in
    rw all at (digits_lt few (ones_lt e))
