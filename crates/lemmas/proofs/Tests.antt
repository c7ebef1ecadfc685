-- Tests that are equivalent.
use mathlib.Core.Path.{◌≡◌, refl, sym, ◌∙◌}
use mathlib.Core.Bool.{Bool, true, false}
use Prim.Native.Nat.{ℕ, ◌+◌, ◌-◌, ◌^◌, ◌<◌, ◌≤◌}
use native.Mathlib.Nat.{not-le_of_lt}
use native.Mathlib.Omega.{arith}
use lib.Dec.{leb, ltb}
use borrow.Author.Tests.{leb-true, leb-false, lt-leb, lt-ltb}

pub same_leb : (a b c d : ℕ) → (a ≤ b → c ≤ d) → (c ≤ d → a ≤ b) → leb a b ≡ leb c d
same_leb a b c d f g = go (leb a b) (leb c d) refl refl
  where
    go : (x y : Bool) → leb a b ≡ x → leb c d ≡ y → leb a b ≡ leb c d
    go true true p q = p ∙ sym q
    go false false p q = p ∙ sym q
    go true false p q = absurd (not-le_of_lt (leb-false c d q) (f (leb-true a b p)))
    go false true p q = absurd (not-le_of_lt (leb-false a b p) (g (leb-true c d q)))

pub sub_leb : (k a b : ℕ) → a ≤ b → leb k (b - a) ≡ leb (a + k) b
sub_leb k a b h = same_leb k (b - a) (a + k) b (λ l. omega arith) (λ l. omega arith)

pub past_leb : (k a b : ℕ) → b < a → false ≡ leb (a + k) b
past_leb k a b h = sym (lt-leb (a + k) b (omega arith))

-- a sum that does not fit 64 bits is larger than any 64-bit number
pub over_ltb : (last first offset : ℕ) → last < 2 ^ 64 → 2 ^ 64 - 1 - first < offset → ltb last (first + offset) ≡ true
over_ltb last first offset h k = lt-ltb last (first + offset) (omega arith)

-- n bytes from a on end at or below 2 ^ 64
pub room_leb : (a n : ℕ) → a < 2 ^ 64 → 1 ≤ n → leb (n - 1) (2 ^ 64 - 1 - a) ≡ leb (a + n) (2 ^ 64)
room_leb a n h k = same_leb (n - 1) (2 ^ 64 - 1 - a) (a + n) (2 ^ 64) (λ l. omega arith) (λ l. omega arith)
