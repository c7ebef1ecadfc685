-- Decoding a header into a frame, and encoding a frame as bytes: byte 0 is the first on the wire, and numbers of several bytes have their high byte first. 01, "The seven packets".
use Rattle.std.specs.Prelude.{ℕ, ◌+◌, ◌*◌, ◌/◌, ◌%◌, ◌^◌, cond, List, [], ◌∷◌, ◌++◌, get_or, length, ltb}
use Rattle.packet.specs.declared.Common.{Common}
use Rattle.packet.specs.declared.Frame.{Frame}

-- byte i of a packet
abbrev pub byte : List ℕ → ℕ → ℕ
byte b i = get_or b i 0

-- the number in the two, four or eight bytes from byte i on
abbrev pub num16_at : List ℕ → ℕ → ℕ
num16_at b i = byte b i * 256 + byte b (i + 1)

abbrev pub num32_at : List ℕ → ℕ → ℕ
num32_at b i = num16_at b i * 65536 + num16_at b (i + 2)

abbrev pub num64_at : List ℕ → ℕ → ℕ
num64_at b i = num32_at b i * 2 ^ 32 + num32_at b (i + 4)

-- Length, in bits 1:0 of byte 2 with byte 3
abbrev pub dwords_at : List ℕ → ℕ
dwords_at b = byte b 2 % 4 * 256 + byte b 3

-- Attr (02 a), a number of three bits: bit 2 of byte 1, then bits 5:4 of byte 2
abbrev pub attr_at : List ℕ → ℕ
attr_at b = byte b 1 / 4 % 2 * 4 + byte b 2 / 16 % 4

-- byte 1 has TC in bits 6:4; byte 2 has TD and EP in bits 7:6; bytes 4 and 5 are the sender's ID
abbrev pub decode_common : List ℕ → Common
decode_common b = record { tc = byte b 1 / 16 % 8; attr = attr_at b; marks = byte b 2 / 64; sender = num16_at b 4 }

-- Byte 2 has AT in bits 3:2. Bytes 12 to 15 count as 0 in a packet of fewer than 16 bytes, and the body in one of fewer
-- than 24.
unfoldable pub decode_frame : List ℕ → Frame
decode_frame b =
    record {
      byte0 = byte b 0;
      common = decode_common b;
      at = byte b 2 / 4 % 4;
      dwords = dwords_at b;
      byte6 = byte b 6;
      byte7 = byte b 7;
      dword8 = num32_at b 8;
      dword12 = cond (ltb (length b) 16) 0 (num32_at b 12);
      body = cond (ltb (length b) 24) 0 (num64_at b 16);
    }

-- a DWORD as four bytes
abbrev pub four_bytes : ℕ → List ℕ
four_bytes n = (n / 16777216 % 256) ∷ (n / 65536 % 256) ∷ (n / 256 % 256) ∷ (n % 256) ∷ []

-- a QWORD as eight bytes
abbrev pub eight_bytes : ℕ → List ℕ
eight_bytes n = four_bytes (n / 2 ^ 32) ++ four_bytes (n % 2 ^ 32)

-- a frame as 24 bytes; TD, EP and every unnamed bit are zero
abbrev pub encode_frame : Frame → List ℕ
encode_frame f =
    f.byte0
    ∷ (f.common.tc % 8 * 16 + f.common.attr / 4 % 2 * 4)
    ∷ (f.common.attr % 4 * 16 + f.at % 4 * 4 + f.dwords / 256 % 4)
    ∷ (f.dwords % 256)
    ∷ (f.common.sender / 256 % 256)
    ∷ (f.common.sender % 256)
    ∷ f.byte6
    ∷ f.byte7
    ∷ (four_bytes f.dword8 ++ four_bytes f.dword12 ++ eight_bytes f.body)
