-- The QWORDs of a payload, and the translations in it, fit 64 bits.
use Rattle.std.specs.Prelude.{None, Option, Some}
use mathlib.Core.Path.{◌≡◌}
use mathlib.Core.Bool.{true}
use mathlib.Core.List.{List, [], ◌∷◌}
use Prim.Native.Nat.{ℕ, zero, suc, ◌*◌, ◌/◌, ◌%◌, ◌<◌, ◌^◌}
use native.Mathlib.Omega.{arith}
use lib.Dec.{ltb, lit≤}
use lib.ListN.{length, drop}
use borrow.Author.Tests.{ltb-true}
use Rattle.lemmas.proofs.Cases.{by_cases, and_both}
use Rattle.ranges.specs.Size.{base_of, size_of, bit, translation_of}
use Rattle.ranges.proofs.Units.{region_first}
use Rattle.packet.specs.Frames.{eight_bytes}
use Rattle.packet.specs.Reading.{qword_at}
use Rattle.tlp.specs.Bytes.{Bytes, are_bytes}
use Rattle.tlp.proofs.Frames.{num64_lt, four_back}
use Rattle.tlp.specs.Translations.{translation_at}

pub octets : (b : List ℕ) → are_bytes b ≡ true → Bytes b
octets [] e zero = lit≤ tt
octets [] e (suc i) = lit≤ tt
octets (x ∷ b) e zero = ltb-true x 256 (and_both (ltb x 256) (are_bytes b) e).0
octets (x ∷ b) e (suc i) = octets b (and_both (ltb x 256) (are_bytes b) e).1 i

pub dropped_bytes : (n : ℕ) (b : List ℕ) → Bytes b → Bytes (drop n b)
dropped_bytes zero b h = h
dropped_bytes (suc n) [] h = h
dropped_bytes (suc n) (x ∷ b) h = dropped_bytes n b (λ i. h (suc i))

word_lt : (b : List ℕ) → Bytes b → (k : ℕ) → qword_at b k < 2 ^ 64
unfolding qword_at
word_lt b h k =
    by_cases (ltb k (length b / 8))
    (λ e. rw e (num64_lt b h (8 * k)))
    (λ e. rw e (lit≤ tt))

-- a QWORD in bytes, read again
pub qword_of_bytes : (n : ℕ) → n < 2 ^ 64 → qword_at (eight_bytes n) 0 ≡ n
unfolding qword_at
qword_of_bytes n h =
    let high : n / 2 ^ 32 < 2 ^ 32 = omega arith in
    let low : n % 2 ^ 32 < 2 ^ 32 = omega arith in
    rw (four_back (n / 2 ^ 32) high, four_back (n % 2 ^ 32) low) (omega arith)

pub base_lt : (b : List ℕ) → Bytes b → (k : ℕ) → (translation_at b k).base < 2 ^ 64
unfolding translation_at translation_of
base_lt b h k = go (qword_at b k) (size_of (qword_at b k) (bit (qword_at b k) 11)) (word_lt b h k)
  where
    go : (w : ℕ) (s : Option ℕ) → w < 2 ^ 64 → base_of w s < 2 ^ 64
    go w (Some e) l = omega (arith, region_first w e)
    go w None l = lit≤ tt
