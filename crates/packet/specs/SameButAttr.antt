-- Packets that differ in no bit but those of Attr. 02, "a".
use Rattle.std.specs.Prelude.{◌≡◌, List, ℕ, ◌/◌, ◌%◌, length, drop}
use Rattle.packet.specs.Frames.{byte}

-- equal but for bit 2 of byte 1 and bits 5:4 of byte 2
pub record SameButAttr (b c : List ℕ) : Type 0 where
  pub long : length b ≡ length c
  pub byte0 : byte b 0 ≡ byte c 0
  pub byte1 : (byte b 1 / 8 ≡ byte c 1 / 8) × (byte b 1 % 4 ≡ byte c 1 % 4)
  pub byte2 : (byte b 2 / 64 ≡ byte c 2 / 64) × (byte b 2 % 16 ≡ byte c 2 % 16)
  pub rest : drop 3 b ≡ drop 3 c
