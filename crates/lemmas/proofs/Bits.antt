-- Bits of numbers.
use mathlib.Core.Path.{◌≡◌, refl, sym, ap, ◌∙◌}
use mathlib.Core.Bool.{Bool, false, not, ◌&&◌, ◌||◌}
use Prim.Native.Nat.{ℕ, zero, suc, ◌+◌, ◌-◌, ◌*◌, ◌/◌, ◌%◌, ◌^◌, ◌<◌, ◌≤◌, min, max}
use native.Mathlib.Nat.{zero-div, div-one, sub-zero}
use native.Mathlib.Omega.{arith}
use lib.Dec.{eqb}
use lib.Bits.{bit_and, bit_or, and_step, or_step, and_le_l, or_shr}
use lib.Pow.{shr-shr}
use borrow.Author.Tests.{eq-eqb, ne_eqb, eqb-true, eqb-false}
use Rattle.lemmas.proofs.Cases.{by_cases, and_true, and-false}

-- bit k of a number
abbrev bit_at : ℕ → ℕ → ℕ
bit_at v k = v / 2 ^ k % 2

or_bit : (v w k : ℕ) → bit_at (bit_or v w) k ≡ max (bit_at v k) (bit_at w k)
or_bit v w k = rw (or_shr v w k, or_step (v / 2 ^ k) (w / 2 ^ k)) (omega arith)

-- the lowest bit, and the bits above it
without_low : (h x a b : ℕ) → x ≤ h → a < 2 → b < 2 → h * 2 + a - (x * 2 + min a b) ≡ (h - x) * 2 + (a - b)
without_low h x a b l p q = let m : a - min a b ≡ a - b = omega arith in omega arith

without_split : (v w : ℕ) → v - bit_and v w ≡ (v / 2 - bit_and (v / 2) (w / 2)) * 2 + (v % 2 - w % 2)
without_split v w =
    let e : v ≡ v / 2 * 2 + v % 2 = omega arith in
    let a : v % 2 < 2 = omega arith in
    let b : w % 2 < 2 = omega arith in
    rw (and_step v w) (ap (λ (n : ℕ). n - (bit_and (v / 2) (w / 2) * 2 + min (v % 2) (w % 2))) e ∙ without_low (v / 2) (bit_and (v / 2) (w / 2)) (v % 2) (w % 2) (and_le_l (v / 2) (w / 2)) a b)

halved : (x k : ℕ) → x / 2 ^ suc k ≡ x / 2 / 2 ^ k
halved x k = ap (λ (n : ℕ). x / 2 ^ n) (omega arith) ∙ sym (shr-shr x 1 k)

lowest : (h d : ℕ) → d < 2 → (h * 2 + d) % 2 ≡ d
lowest h d l = omega arith

without_bit : (k v w : ℕ) → bit_at (v - bit_and v w) k ≡ bit_at v k - bit_at w k
without_bit zero v w =
    let d : v % 2 - w % 2 < 2 = omega arith in
    rw (div-one (v - bit_and v w), div-one v, div-one w, without_split v w) (lowest (v / 2 - bit_and (v / 2) (w / 2)) (v % 2 - w % 2) d)
without_bit (suc k) v w =
    let half : (v - bit_and v w) / 2 ≡ v / 2 - bit_and (v / 2) (w / 2) = rw (without_split v w) (omega arith) in
    rw (halved (v - bit_and v w) k, halved v k, halved w k, half) (without_bit k (v / 2) (w / 2))

-- a bit that is 0 or 1, as a test
bit_max : (a b : ℕ) → a < 2 → b < 2 → eqb (max a b) 1 ≡ (eqb a 1 || eqb b 1)
bit_max a b h k =
    by_cases (eqb a 1)
    (λ p. rw p (eq-eqb (max a b) 1 (omega (arith, eqb-true a 1 p))))
    (λ p. rw p (by_cases (eqb b 1)
    (λ q. rw q (eq-eqb (max a b) 1 (omega (arith, eqb-true b 1 q))))
    (λ q. rw q (ne_eqb (max a b) 1 (λ e. eqb-false b 1 q (max_b e (eqb-false a 1 p)))))))
  where
    max_b : max a b ≡ 1 → (a ≡ 1 → ⊥) → b ≡ 1
    max_b e n = omega arith

bit_sub : (a b : ℕ) → a < 2 → b < 2 → eqb (a - b) 1 ≡ (eqb a 1 && not (eqb b 1))
bit_sub a b h k =
    by_cases (eqb b 1)
    (λ q. rw (q, and-false (eqb a 1)) (ne_eqb (a - b) 1 (λ e. omega (arith, eqb-true b 1 q))))
    (λ q. let z : b ≡ 0 = zero_b (eqb-false b 1 q) in rw (q, z, sub-zero a, and_true (eqb a 1)))
  where
    zero_b : (b ≡ 1 → ⊥) → b ≡ 0
    zero_b n = omega arith

-- is bit k set?
abbrev pub is_set : ℕ → ℕ → Bool
is_set v k = eqb (bit_at v k) 1

-- a bit of a union is set if and only if it is set in one of the two,
pub or_set : (v w k : ℕ) → is_set (bit_or v w) k ≡ (is_set v k || is_set w k)
or_set v w k = rw (or_bit v w k) (bit_max (bit_at v k) (bit_at w k) (omega arith) (omega arith))

-- a bit of a difference if it is set in the first and not in the second,
pub without_set : (v w k : ℕ) → is_set (v - bit_and v w) k ≡ (is_set v k && not (is_set w k))
without_set v w k = rw (without_bit k v w) (bit_sub (bit_at v k) (bit_at w k) (omega arith) (omega arith))

-- a bit of 0 never,
pub none_set : (k : ℕ) → is_set 0 k ≡ false
none_set k = rw (zero-div (2 ^ k))

-- and a bit of a power of two if it is that bit
pub power_set : (k j : ℕ) → is_set (2 ^ k) j ≡ eqb k j
power_set zero zero = refl
power_set zero (suc j) = rw (halved 1 j, zero-div (2 ^ j)) (sym (ne_eqb 0 (suc j) (λ e. omega arith)))
power_set (suc k) zero =
    let even : 2 ^ suc k % 2 ≡ 0 = omega arith in
    rw (div-one (2 ^ suc k), even) (sym (ne_eqb (suc k) 0 (λ e. omega arith)))
power_set (suc k) (suc j) =
    let half : 2 ^ suc k / 2 ≡ 2 ^ k = omega arith in
    rw (halved (2 ^ suc k) j, half, power_set k j)
    (by_cases (eqb k j)
    (λ p. rw (p, eq-eqb (suc k) (suc j) (ap suc (eqb-true k j p))))
    (λ p. rw (p, ne_eqb (suc k) (suc j) (λ e. eqb-false k j p (omega arith)))))
