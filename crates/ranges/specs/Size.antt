-- Sizes: the code that a translation and an Invalidate Request's body share. 01, "Sizes".
use Rattle.std.specs.Prelude.{ℕ, zero, suc, ◌+◌, ◌-◌, ◌/◌, ◌%◌, ◌^◌, min, max, Bool, cond, ltb, eqb, None, Option, Some}
use Rattle.ranges.specs.declared.Translation.{Translation}
use Rattle.ranges.specs.Range.{region_of}

-- bit b of a number
abbrev pub bit : ℕ → ℕ → Bool
bit x b = eqb (x / 2 ^ b % 2) 1

-- the lowest zero bit among the k bits from bit b on, or b + k if there is none
unfoldable pub lowest_zero : ℕ → ℕ → ℕ → ℕ
lowest_zero zero b x = b
lowest_zero (suc k) b x = cond (bit x b) (lowest_zero k (b + 1) x) b

-- the lowest zero bit b encodes the size 2 ^ (b + 1); there is no size if bits 63:12 are all ones
abbrev pub size_at : ℕ → Option ℕ
size_at b = cond (ltb b 64) (Some (b + 1)) None

-- S clear encodes 2 ^ 12 bytes; with S set, the lowest zero bit at or above 12 gives the size
unfoldable pub size_of : ℕ → Bool → Option ℕ
size_of a s = cond s (size_at (lowest_zero 52 12 a)) (Some 12)

-- the address with the bits below its size cleared; 0 if there is no size
abbrev pub base_of : ℕ → Option ℕ → ℕ
base_of a (Some e) = (region_of a e).first
base_of a None = 0

-- a translation: S in bit 11, N in 10, U in 2, W in 1, R in 0
unfoldable pub translation_of : ℕ → Translation
translation_of x =
    record {
      base = base_of x (size_of x (bit x 11));
      size = size_of x (bit x 11);
      n = bit x 10;
      u = bit x 2;
      w = bit x 1;
      r = eqb (x % 2) 1;
    }

-- ---- the code of a size, and of a translation (02 b)

-- sizes are 2 ^ 12 to 2 ^ 64 bytes; an exponent outside counts as the nearest of them
abbrev pub size_exponent : ℕ → ℕ
size_exponent e = max 12 (min e 64)

-- The address that encodes the aligned region of 2 ^ e bytes which holds a: in the offset, bit e - 1 is zero and the bits
-- below it are ones, down to bit 12. For 4096 bytes the subtraction is cut at 0.
unfoldable pub coded : ℕ → ℕ → ℕ
coded a e = (region_of a (size_exponent e)).first + (2 ^ (size_exponent e - 1) - 4096)

-- the address with S in bit 11, which is clear for 4096 bytes; bits 63:11 are all ones if there is no size
abbrev pub coded_size : ℕ → Option ℕ → ℕ
coded_size a (Some e) = coded a e + cond (ltb 12 e) 2048 0
coded_size a None = 2 ^ 64 - 2048

-- a translation as a number of eight bytes
unfoldable pub word_of : Translation → ℕ
word_of t = coded_size t.base t.size + cond t.n 1024 0 + cond t.u 4 0 + cond t.w 2 0 + cond t.r 1 0
