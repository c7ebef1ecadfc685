-- The named bits of each kind as a mask, from the table. Bits outside the mask are ignored on reading and written as zero. 01, "The seven packets".
use Rattle.std.specs.Prelude.{ℕ, Bool, cond, List, [], ◌∷◌, ◌++◌, eqb, None, Option, Some}
use Rattle.std.specs.Int.Bits.{bit_and}
use Rattle.packet.specs.declared.Form.{Form}
use Rattle.packet.specs.declared.Form.TheVariants.{Mrd32, Mrd64, Mwr32, Mwr64, CplNoData, CplData, InvReq, InvCpl, PageReq, PrgResp}
use Rattle.packet.specs.Frames.{byte, decode_frame}
use Rattle.packet.specs.Forms.{choose}

-- TC and a bit of Attr (02 a) in byte 1; TD, EP and the other bits of Attr in byte 2, and AT and Length if the kind has
-- them; all of bytes 0, 4, 5 and 7; byte 6 depends on the kind
abbrev pub front_mask : ℕ → ℕ → ℕ → List ℕ
front_mask byte2 byte3 byte6 = 0xFF ∷ 0x74 ∷ byte2 ∷ byte3 ∷ 0xFF ∷ 0xFF ∷ byte6 ∷ 0xFF ∷ []

-- bytes 0 to 7 of the kinds that have AT and Length, Length alone, or neither
abbrev pub addressed_mask : ℕ → List ℕ
addressed_mask byte6 = front_mask 0xFF 0xFF byte6

abbrev pub counted_mask : ℕ → List ℕ
counted_mask byte6 = front_mask 0xF3 0xFF byte6

abbrev pub plain_mask : ℕ → List ℕ
plain_mask byte6 = front_mask 0xF0 0x00 byte6

-- the upper half of a 64-bit address
abbrev pub upper_mask : List ℕ
upper_mask = 0xFF ∷ 0xFF ∷ 0xFF ∷ 0xFF ∷ []

-- the last DWORD of an address: bits 31:12 and No Write in a TR, bits 31:2 in a MEM
abbrev pub tr_address_mask : List ℕ
tr_address_mask = 0xFF ∷ 0xFF ∷ 0xF0 ∷ 0x01 ∷ []

abbrev pub mem_address_mask : List ℕ
mem_address_mask = 0xFF ∷ 0xFF ∷ 0xFF ∷ 0xFC ∷ []

-- Requester ID, Tag and Lower Address of a completion
abbrev pub completion_mask : List ℕ
completion_mask = 0xFF ∷ 0xFF ∷ 0xFF ∷ 0x7F ∷ []

-- Device ID, and the fields of the kind in bytes 10 and 11
abbrev pub device_mask : ℕ → ℕ → List ℕ
device_mask byte10 byte11 = 0xFF ∷ 0xFF ∷ byte10 ∷ byte11 ∷ []

-- four unnamed bytes
abbrev pub unnamed_mask : List ℕ
unnamed_mask = 0x00 ∷ 0x00 ∷ 0x00 ∷ 0x00 ∷ []

-- the lower half of an INV body: address bits 31:12 and S
abbrev pub size_code_mask : List ℕ
size_code_mask = 0xFF ∷ 0xFF ∷ 0xF8 ∷ 0x00 ∷ []

-- tr: AT is 01
unfoldable pub mask_of : Form → Bool → List ℕ
mask_of Mrd32 tr = addressed_mask 0xFF ++ cond tr tr_address_mask mem_address_mask
mask_of Mrd64 tr = addressed_mask 0xFF ++ upper_mask ++ cond tr tr_address_mask mem_address_mask
mask_of Mwr32 tr = addressed_mask 0x00 ++ mem_address_mask
mask_of Mwr64 tr = addressed_mask 0x00 ++ upper_mask ++ mem_address_mask
mask_of CplNoData tr = plain_mask 0xEF ++ completion_mask
mask_of CplData tr = counted_mask 0xEF ++ completion_mask
mask_of InvReq tr = counted_mask 0x1F ++ device_mask 0x00 0x00 ++ unnamed_mask ++ upper_mask ++ size_code_mask
mask_of InvCpl tr = plain_mask 0x00 ++ device_mask 0x00 0x07 ++ upper_mask
mask_of PageReq tr = plain_mask 0x00 ++ upper_mask ++ upper_mask
mask_of PrgResp tr = plain_mask 0x00 ++ device_mask 0xF1 0xFF ++ unnamed_mask

-- each byte ANDed with its mask; the payload is unchanged
unfoldable pub masked : List ℕ → List ℕ → List ℕ
masked [] xs = xs
masked (m ∷ ms) [] = []
masked (m ∷ ms) (x ∷ xs) = bit_and x m ∷ masked ms xs

abbrev pub normal_as : Option Form → Bool → List ℕ → List ℕ
normal_as (Some m) tr b = masked (mask_of m tr) b
normal_as None tr b = b

-- a packet with its ignored bits cleared
unfoldable pub normal : List ℕ → List ℕ
normal b = normal_as (choose (byte b 0) (byte b 7)) (eqb (decode_frame b).at 1) b
