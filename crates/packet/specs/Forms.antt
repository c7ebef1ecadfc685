-- The first column of the table of kinds: what byte 0, and for a message byte 7, determine. 01, "The seven packets".
use Rattle.std.specs.Prelude.{ℕ, ◌+◌, ◌*◌, ◌/◌, ◌%◌, Bool, cond, eqb, None, Option, Some}
use Rattle.packet.specs.declared.Form.{Form}
use Rattle.packet.specs.declared.Form.TheVariants.{Mrd32, Mrd64, Mwr32, Mwr64, CplNoData, CplData, InvReq, InvCpl, PageReq, PrgResp}

-- byte 0 selects the form, and byte 7 among messages; any other values are unlisted
unfoldable pub choose : ℕ → ℕ → Option Form
choose b0 b7 =
    cond (eqb b0 0x00) (Some Mrd32)
    (cond (eqb b0 0x20) (Some Mrd64)
    (cond (eqb b0 0x40) (Some Mwr32)
    (cond (eqb b0 0x60) (Some Mwr64)
    (cond (eqb b0 0x0A) (Some CplNoData)
    (cond (eqb b0 0x4A) (Some CplData)
    (cond (eqb b0 0x72) (cond (eqb b7 0x01) (Some InvReq) None)
    (cond (eqb b0 0x32) (cond (eqb b7 0x02) (Some InvCpl) (cond (eqb b7 0x05) (Some PrgResp) None))
    (cond (eqb b0 0x30) (cond (eqb b7 0x04) (Some PageReq) None)
    None))))))))

-- byte 0 of each form
abbrev pub byte0_of : Form → ℕ
byte0_of Mrd32 = 0x00
byte0_of Mrd64 = 0x20
byte0_of Mwr32 = 0x40
byte0_of Mwr64 = 0x60
byte0_of CplNoData = 0x0A
byte0_of CplData = 0x4A
byte0_of InvReq = 0x72
byte0_of InvCpl = 0x32
byte0_of PageReq = 0x30
byte0_of PrgResp = 0x32

-- Bit 5 of byte 0 says how long the header is: 12 bytes where it is clear (a 32-bit address, and in
-- completions), 16 where it is set.
abbrev pub header_length : Form → ℕ
header_length m = cond (eqb (byte0_of m / 0x20 % 2) 0) 12 16

-- Bit 6 says whether 4 × Length bytes follow the header. It is set in writes, completions with
-- data and Invalidate Requests.
abbrev pub carries_data : Form → Bool
carries_data m = eqb (byte0_of m / 0x40 % 2) 1

-- the number of DWORDs that a Length field stands for; 0 means 1024
abbrev pub dword_count : ℕ → ℕ
dword_count w = cond (eqb w 0) 1024 w

-- the number of bytes of a packet of this form and Length
abbrev pub packet_length : Form → ℕ → ℕ
packet_length m w = cond (carries_data m) (header_length m + dword_count w * 4) (header_length m)

-- the number of bytes before the payload: the header, and in an Invalidate Request also its 8
-- bytes of data, which are fields
abbrev pub payload_offset : Form → ℕ
payload_offset m = cond (eqb (byte0_of m) (byte0_of InvReq)) (header_length m + 8) (header_length m)

-- byte 7 of a MEM packet, its byte enables
abbrev pub byte_enables : ℕ → ℕ
byte_enables w = cond (eqb w 1) 0x0F 0xFF
