-- The rest of the table of kinds: the fields of each kind in a frame, the frame of a packet, forbidden values, and field widths. 01, "The seven packets", "Forbidden values".
use Rattle.std.specs.Prelude.{ℕ, ◌+◌, ◌*◌, ◌/◌, ◌%◌, ◌^◌, Bool, true, false, cond, not, ◌&&◌, ltb, leb, eqb}
use Rattle.packet.specs.declared.Common.{Common}
use Rattle.packet.specs.declared.Frame.{Frame}
use Rattle.packet.specs.declared.Form.{Form}
use Rattle.packet.specs.declared.Form.TheVariants.{Mrd32, Mrd64, Mwr32, Mwr64, CplNoData, CplData, InvReq, InvCpl, PageReq, PrgResp}
use Rattle.packet.specs.declared.Attr.{Attr}
use Rattle.packet.specs.declared.Head.{Head}
use Rattle.packet.specs.declared.Access.{Access}
use Rattle.packet.specs.declared.Access.TheVariants.{Read, Write}
use Rattle.packet.specs.declared.Outcome.{Outcome}
use Rattle.packet.specs.declared.Outcome.TheVariants.{Data, Status}
use Rattle.packet.specs.declared.Body.{Body}
use Rattle.packet.specs.declared.Body.TheVariants.{Tr, Mem, Cpl, Inv, Ic, Prq, Prs}
use Rattle.packet.specs.declared.Packet.{Packet}
use Rattle.packet.specs.Forms.{byte0_of, dword_count, byte_enables}

-- ---- the fields of a frame

-- Attr, from its high bit: ID-based ordering, Relaxed Ordering, No Snoop
abbrev pub attr_in : ℕ → Attr
attr_in n = record { ido = eqb (n / 4 % 2) 1; relaxed = eqb (n / 2 % 2) 1; nosnoop = eqb (n % 2) 1 }

-- Attr with no bit set
abbrev pub attr_zero : Attr
attr_zero = record { ido = false; relaxed = false; nosnoop = false }

abbrev pub head_in : Common → Head
head_in f = record { tc = f.tc; attr = attr_in f.attr; sender = f.sender }

-- the address of the 64-bit forms, and the QWORD that a Page Request has there
abbrev pub address64_in : Frame → ℕ
address64_in f = f.dword8 * 2 ^ 32 + f.dword12

-- TR: byte 6 is the Tag; bits 11:0 of the address field a are not part of the address, and bit 0 is No Write
abbrev pub tr_in : Frame → ℕ → Body
tr_in f a =
    Tr (record { tag = record { 0 = f.byte6 }; dwords = f.dwords; address = a / 4096 * 4096; nowrite = eqb (a % 2) 1 })

-- MEM: bits 1:0 of the address are unnamed; AT 10 is translated
abbrev pub mem_in : Frame → Access → ℕ → Body
mem_in f access a = Mem (record { access = access; dwords = f.dwords; address = a / 4 * 4; translated = eqb f.at 2 })

-- 00h and 20h are a TR if AT is 01, otherwise a MEM read, whose byte 6 is the Tag
abbrev pub read_request_in : Frame → ℕ → Body
read_request_in f a = cond (eqb f.at 1) (tr_in f a) (mem_in f (Read (record { 0 = f.byte6 })) a)

-- Byte Count: the low 4 bits of byte 6 with byte 7
abbrev pub count_in : Frame → ℕ
count_in f = f.byte6 % 16 * 256 + f.byte7

-- CPL: bytes 8-9 Requester ID, 10 Tag, 11 bits 6:0 Lower Address
abbrev pub cpl_in : Frame → Outcome → Body
cpl_in f outcome =
    Cpl
    (record {
      outcome = outcome;
      count = count_in f;
      requester = f.dword8 / 65536;
      tag = record { 0 = f.dword8 / 256 % 256 };
      lower = f.dword8 % 128;
    })

-- INV: byte 6 bits 4:0 ITag; bytes 8-9 Device ID; the body has the address in bits 63:12 and S in bit 11
abbrev pub inv_in : Frame → Body
inv_in f =
    Inv
    (record {
      itag = record { 0 = f.byte6 % 32 };
      device = f.dword8 / 65536;
      address = f.body / 4096 * 4096;
      sized = eqb (f.body / 2048 % 2) 1;
    })

-- IC: the Device ID in bytes 8 and 9, CC in the low three bits of byte 11, and the vector in the last DWORD
abbrev pub ic_in : Frame → Body
ic_in f = Ic (record { device = f.dword8 / 65536; cc = f.dword8 % 8; vector = f.dword12 })

-- PRQ: a is the number in bytes 8 to 15. It has the page address, and in its low 12 bits the PRG index, L, W and R.
abbrev pub prq_in : ℕ → Body
prq_in a =
    Prq
    (record {
      page = a / 4096 * 4096;
      index = record { 0 = a / 8 % 512 };
      last = eqb (a / 4 % 2) 1;
      write = eqb (a / 2 % 2) 1;
      read = eqb (a % 2) 1;
    })

-- PRS: bytes 8-9 Device ID; of bytes 10-11, the code in bits 15:12 and the PRG index in bits 8:0
abbrev pub prs_in : Frame → Body
prs_in f =
    Prs
    (record {
      device = f.dword8 / 65536;
      code = f.dword8 / 4096 % 16;
      index = record { 0 = f.dword8 % 512 };
    })

unfoldable pub body_in : Form → Frame → Body
body_in Mrd32 f = read_request_in f f.dword8
body_in Mrd64 f = read_request_in f (address64_in f)
body_in Mwr32 f = mem_in f Write f.dword8
body_in Mwr64 f = mem_in f Write (address64_in f)
body_in CplNoData f = cpl_in f (Status (f.byte6 / 32))
body_in CplData f = cpl_in f (Data f.dwords)
body_in InvReq f = inv_in f
body_in InvCpl f = ic_in f
body_in PageReq f = prq_in (address64_in f)
body_in PrgResp f = prs_in f

abbrev pub packet_in : Form → Frame → Packet
packet_in m f = record { head = head_in f.common; body = body_in m f }

-- ---- forbidden values that no field of a packet can hold, so that only the frame shows them

-- MEM: AT is 00 or 10, and byte 7 is as its Length requires
abbrev pub well_formed_mem : Frame → Bool
well_formed_mem f = eqb (f.at % 2) 0 && eqb f.byte7 (byte_enables f.dwords)

abbrev pub well_formed_read_request : Frame → Bool
well_formed_read_request f = cond (eqb f.at 1) (eqb f.byte7 0xFF) (well_formed_mem f)

-- in a 64-bit form the upper half of the address is not zero
abbrev pub well_formed64 : Frame → Bool → Bool
well_formed64 f rest = ltb 0 f.dword8 && rest

-- CPL with data: status 000; INV: Length 2
unfoldable pub well_formed : Form → Frame → Bool
well_formed Mrd32 f = well_formed_read_request f
well_formed Mrd64 f = well_formed64 f (well_formed_read_request f)
well_formed Mwr32 f = well_formed_mem f
well_formed Mwr64 f = well_formed64 f (well_formed_mem f)
well_formed CplNoData f = true
well_formed CplData f = eqb (f.byte6 / 32) 0
well_formed InvReq f = eqb f.dwords 2
well_formed InvCpl f = true
well_formed PageReq f = true
well_formed PrgResp f = true

-- ---- forbidden values of fields

abbrev pub short_enough : ℕ → Bool
short_enough w = leb (dword_count w) 32

abbrev pub even_and_short : ℕ → Bool
even_and_short w = eqb (w % 2) 0 && short_enough w

-- with S set, an address of all ones has no size
abbrev pub codes_size : ℕ → Bool → Bool
codes_size a s = cond s (not (eqb (a / 4096) 0xF_FFFF_FFFF_FFFF)) true

abbrev pub allowed_outcome : Outcome → Bool
allowed_outcome (Data w) = short_enough w
allowed_outcome (Status s) = not (eqb s 2)

-- Forbidden are: Length of a TR odd, 0 or above 32; Length of a MEM or a completion with data above 32; status 010; a
-- body with no size; TC of a PRQ or a PRS not 0.
unfoldable pub allowed_body : ℕ → Body → Bool
allowed_body tc (Tr t) = even_and_short t.dwords
allowed_body tc (Mem m) = short_enough m.dwords
allowed_body tc (Cpl c) = allowed_outcome c.outcome
allowed_body tc (Inv i) = codes_size i.address i.sized
allowed_body tc (Ic i) = true
allowed_body tc (Prq q) = eqb tc 0
allowed_body tc (Prs s) = eqb tc 0

abbrev pub allowed : Packet → Bool
allowed p = allowed_body p.head.tc p.body

-- ---- fields that do not fit their bits, and low address bits that have no field

abbrev pub outcome_in_range : Outcome → Bool
outcome_in_range (Data w) = ltb w 1024
outcome_in_range (Status s) = ltb s 8

unfoldable pub body_in_range : Body → Bool
body_in_range (Tr t) = ltb t.dwords 1024 && eqb (t.address % 4096) 0
body_in_range (Mem m) = ltb m.dwords 1024 && eqb (m.address % 4) 0
body_in_range (Cpl c) = ltb c.count 4096 && (ltb c.lower 128 && outcome_in_range c.outcome)
body_in_range (Inv i) = ltb i.itag.0 32 && eqb (i.address % 4096) 0
body_in_range (Ic i) = ltb i.cc 8
body_in_range (Prq q) = eqb (q.page % 4096) 0 && ltb q.index.0 512
body_in_range (Prs s) = ltb s.code 16 && ltb s.index.0 512

abbrev pub fields_in_range : Packet → Bool
fields_in_range p = ltb p.head.tc 8 && body_in_range p.body

-- ---- the payload of a packet: 4 × Length bytes in a MEM write and a completion with data

abbrev pub access_payload_length : Access → ℕ → ℕ
access_payload_length (Read tag) w = 0
access_payload_length Write w = dword_count w * 4

abbrev pub outcome_payload_length : Outcome → ℕ
outcome_payload_length (Data w) = dword_count w * 4
outcome_payload_length (Status s) = 0

unfoldable pub payload_length : Body → ℕ
payload_length (Tr t) = 0
payload_length (Mem m) = access_payload_length m.access m.dwords
payload_length (Cpl c) = outcome_payload_length c.outcome
payload_length (Inv i) = 0
payload_length (Ic i) = 0
payload_length (Prq q) = 0
payload_length (Prs s) = 0

-- ---- the form and the frame of a packet; the remainders change nothing if the fields fit their bits

-- the 64-bit form is used only if the address needs it
abbrev pub needs64_bits : ℕ → Bool
needs64_bits a = leb (2 ^ 32) a

abbrev pub access_form : Access → ℕ → Form
access_form (Read tag) a = cond (needs64_bits a) Mrd64 Mrd32
access_form Write a = cond (needs64_bits a) Mwr64 Mwr32

abbrev pub outcome_form : Outcome → Form
outcome_form (Data w) = CplData
outcome_form (Status s) = CplNoData

unfoldable pub form_of : Body → Form
form_of (Tr t) = cond (needs64_bits t.address) Mrd64 Mrd32
form_of (Mem m) = access_form m.access m.address
form_of (Cpl c) = outcome_form c.outcome
form_of (Inv i) = InvReq
form_of (Ic i) = InvCpl
form_of (Prq q) = PageReq
form_of (Prs s) = PrgResp

-- a flag as a bit
abbrev pub bit_of : Bool → ℕ
bit_of b = cond b 1 0

-- bytes 8-11 and 12-15 of the kinds that have an address there
abbrev pub address_dword8 : ℕ → ℕ
address_dword8 a = cond (needs64_bits a) (a / 2 ^ 32) a

abbrev pub address_dword12 : ℕ → ℕ
address_dword12 a = cond (needs64_bits a) (a % 2 ^ 32) 0

abbrev pub access_tag : Access → ℕ
access_tag (Read tag) = tag.0
access_tag Write = 0

abbrev pub outcome_dwords : Outcome → ℕ
outcome_dwords (Data w) = w
outcome_dwords (Status s) = 0

abbrev pub outcome_status : Outcome → ℕ
outcome_status (Data w) = 0
outcome_status (Status s) = s

-- Attr as a number, its high bit first
abbrev pub attr_bits : Attr → ℕ
attr_bits a = bit_of a.ido * 4 + bit_of a.relaxed * 2 + bit_of a.nosnoop

-- TD and EP are written as zero
abbrev pub common_of : Head → Common
common_of h = record { tc = h.tc; attr = attr_bits h.attr; marks = 0; sender = h.sender }

unfoldable pub packet_frame : Common → Body → Frame
packet_frame common (Tr t) =
    let a = t.address / 4096 * 4096 + bit_of t.nowrite in
    record {
      byte0 = byte0_of (form_of (Tr t));
      common = common;
      at = 1;
      dwords = t.dwords;
      byte6 = t.tag.0;
      byte7 = 0xFF;
      dword8 = address_dword8 a;
      dword12 = address_dword12 a;
      body = 0;
    }
packet_frame common (Mem m) =
    record {
      byte0 = byte0_of (form_of (Mem m));
      common = common;
      at = bit_of m.translated * 2;
      dwords = m.dwords;
      byte6 = access_tag m.access;
      byte7 = byte_enables m.dwords;
      dword8 = address_dword8 m.address;
      dword12 = address_dword12 m.address;
      body = 0;
    }
packet_frame common (Cpl c) =
    record {
      byte0 = byte0_of (form_of (Cpl c));
      common = common;
      at = 0;
      dwords = outcome_dwords c.outcome;
      byte6 = outcome_status c.outcome % 8 * 32 + c.count / 256 % 16;
      byte7 = c.count % 256;
      dword8 = c.requester * 65536 + c.tag.0 * 256 + c.lower;
      dword12 = 0;
      body = 0;
    }
packet_frame common (Inv i) =
    record {
      byte0 = byte0_of InvReq;
      common = common;
      at = 0;
      dwords = 2;
      byte6 = i.itag.0;
      byte7 = 0x01;
      dword8 = i.device * 65536;
      dword12 = 0;
      body = i.address / 4096 * 4096 + bit_of i.sized * 2048;
    }
packet_frame common (Ic i) =
    record {
      byte0 = byte0_of InvCpl;
      common = common;
      at = 0;
      dwords = 0;
      byte6 = 0;
      byte7 = 0x02;
      dword8 = i.device * 65536 + i.cc;
      dword12 = i.vector;
      body = 0;
    }
packet_frame common (Prq q) =
    let a = q.page / 4096 * 4096 + q.index.0 % 512 * 8 + bit_of q.last * 4 + bit_of q.write * 2 + bit_of q.read in
    record {
      byte0 = byte0_of PageReq;
      common = common;
      at = 0;
      dwords = 0;
      byte6 = 0;
      byte7 = 0x04;
      dword8 = a / 2 ^ 32;
      dword12 = a % 2 ^ 32;
      body = 0;
    }
packet_frame common (Prs s) =
    record {
      byte0 = byte0_of PrgResp;
      common = common;
      at = 0;
      dwords = 0;
      byte6 = 0;
      byte7 = 0x05;
      dword8 = s.device * 65536 + s.code % 16 * 4096 + s.index.0 % 512;
      dword12 = 0;
      body = 0;
    }

abbrev pub frame_of : Packet → Frame
frame_of p = packet_frame (common_of p.head) p.body
