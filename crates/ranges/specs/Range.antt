-- Ranges of addresses, from their first byte to their last. 01, "The Function's tables", "Invalidate Request".
use Rattle.std.specs.Prelude.{ℕ, ◌+◌, ◌-◌, ◌*◌, ◌/◌, ◌%◌, ◌^◌, min, max, Bool, ◌&&◌, leb}
use Rattle.ranges.specs.declared.Range.{Range}

-- the aligned region of 2 ^ e bytes that holds the address a, with e at most 64
abbrev pub region_in : ℕ → ℕ → Range
region_in a e = record { first = a / 2 ^ e * 2 ^ e; last = a / 2 ^ e * 2 ^ e + (2 ^ e - 1) }

unfoldable pub region_of : ℕ → ℕ → Range
region_of a e = region_in a (min e 64)

-- the exponent of the unit, which is 4096 × 2 ^ STU bytes; an STU above 31 counts modulo 32
abbrev pub unit_exponent : ℕ → ℕ
unit_exponent stu = 12 + stu % 32

abbrev pub unit_bytes : ℕ → ℕ
unit_bytes stu = 2 ^ unit_exponent stu

-- the region, or the unit that holds it if the unit is larger
unfoldable pub rounded_of : ℕ → ℕ → ℕ → Range
rounded_of a e u = region_of a (max e u)

-- a range of rest + 1 bytes, cut off at the top of the address space
unfoldable pub range_from : ℕ → ℕ → Range
range_from first rest = record { first = first; last = min (first + rest) (2 ^ 64 - 1) }

-- the number of units of a Translation Request: one, and at most 15 further ones
abbrev pub unit_count : ℕ → ℕ
unit_count further = 1 + further % 16

-- the range of a Translation Request: its units, beginning with the one that holds the address
unfoldable pub units_from : ℕ → ℕ → ℕ → Range
units_from a further stu = range_from (region_of a (unit_exponent stu)).first (unit_count further * unit_bytes stu - 1)

-- the address a moved into the region of base: its offset in the region stays the same
unfoldable pub relocated : ℕ → ℕ → ℕ → ℕ
relocated base a e = (region_of base e).first + (a - (region_of a e).first)

-- two ranges overlap where each begins no later than the other ends
abbrev pub overlaps : Range → Range → Bool
overlaps a b = leb a.first b.last && leb b.first a.last

-- one range lies in another
abbrev pub is_within : Range → Range → Bool
is_within a b = leb b.first a.first && leb a.last b.last
