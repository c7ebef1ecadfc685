-- Flags and bits.
use Prim.Native.Nat.{ℕ, zero, suc, ◌%◌, ◌<◌, ◌≤◌}
use native.Mathlib.Omega.{arith}
use mathlib.Core.Path.{◌≡◌, refl}
use mathlib.Core.Bool.{Bool, true, false}
use lib.Dec.{eqb, lit≤}
use Rattle.packet.specs.Kinds.{bit_of}

pub bit_back : (b : Bool) → eqb (bit_of b) 1 ≡ b
bit_back true = refl
bit_back false = refl

pub bit_le : (b : Bool) → bit_of b ≤ 1
bit_le true = lit≤ tt
bit_le false = lit≤ tt

bit_is : (k : ℕ) → k < 2 → bit_of (eqb k 1) ≡ k
bit_is zero h = refl
bit_is (suc zero) h = refl
bit_is (suc (suc k)) h = absurd (omega arith)

pub bit_of_lem : (x : ℕ) → bit_of (eqb (x % 2) 1) ≡ x % 2
bit_of_lem x = let h : x % 2 < 2 = omega arith in bit_is (x % 2) h
