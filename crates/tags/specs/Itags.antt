-- Sets of ITags as vectors, ITag 0 in the lowest bit. 01, "The seven packets", "Drain".
use Rattle.std.specs.Prelude.{Bool, ℕ, ◌-◌, ◌/◌, ◌%◌, ◌^◌, eqb}
use Rattle.std.specs.Int.Bits.{bit_and, bit_or}
use Rattle.packet.specs.declared.ITag.{ITag}

-- the bit of an ITag; an ITag has five bits
abbrev pub bit_index : ITag → ℕ
bit_index itag = itag.0 % 32

unfoldable pub is_in : ℕ → ITag → Bool
is_in v itag = eqb (v / 2 ^ bit_index itag % 2) 1

-- v with one more ITag
unfoldable pub with_itag : ℕ → ITag → ℕ
with_itag v itag = bit_or v (2 ^ bit_index itag)

-- v without the ITags of others
unfoldable pub without : ℕ → ℕ → ℕ
without v others = v - bit_and v others
