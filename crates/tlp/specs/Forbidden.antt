-- The forbidden values once more, phrase by phrase as in the list, and independent of the definitions of the kinds. 01, "Forbidden values".
use Rattle.std.specs.Prelude.{Bool, not, cond, ◌&&◌, ◌||◌, List, ℕ, ◌+◌, ◌/◌, ◌%◌, eqb, ltb, length, Err, None, Ok, Option, Result, Some}
use Rattle.packet.specs.declared.Frame.{Frame}
use Rattle.packet.specs.declared.Packet.{Packet}
use Rattle.packet.specs.Numbers.{refuse, check}
use Rattle.packet.specs.Frames.{decode_frame}
use Rattle.packet.specs.Forms.{choose, packet_length, payload_offset}
use Rattle.packet.specs.Kinds.{packet_in, fields_in_range, payload_length, form_of, frame_of}
use Rattle.packet.specs.Writing.{check_room}
use Rattle.packet.specs.declared.Form.{Form}

-- ---- the kinds, determined by byte 0, byte 7 and AT

abbrev pub is_read_type : Frame → Bool
is_read_type f = eqb f.byte0 0x00 || eqb f.byte0 0x20

abbrev pub is_write_type : Frame → Bool
is_write_type f = eqb f.byte0 0x40 || eqb f.byte0 0x60

abbrev pub is_tr : Frame → Bool
is_tr f = is_read_type f && eqb f.at 1

abbrev pub is_mem : Frame → Bool
is_mem f = is_write_type f || (is_read_type f && not (eqb f.at 1))

abbrev pub is64_bit : Frame → Bool
is64_bit f = eqb f.byte0 0x20 || eqb f.byte0 0x60

abbrev pub has_data : Frame → Bool
has_data f = eqb f.byte0 0x4A

abbrev pub is_completion : Frame → Bool
is_completion f = eqb f.byte0 0x0A || has_data f

abbrev pub is_inv : Frame → Bool
is_inv f = eqb f.byte0 0x72

abbrev pub is_page : Frame → Bool
is_page f = eqb f.byte0 0x30 || (eqb f.byte0 0x32 && eqb f.byte7 0x05)

-- Length 0 means 1024, so it is above 32 too
abbrev pub above32 : ℕ → Bool
above32 dwords = eqb dwords 0 || ltb 32 dwords

abbrev pub status_in : Frame → ℕ
status_in f = f.byte6 / 32

-- ---- the list

abbrev pub at11 : Frame → Bool
at11 f = (is_read_type f || is_write_type f) && eqb f.at 3

abbrev pub at01_in_a_write : Frame → Bool
at01_in_a_write f = is_write_type f && eqb f.at 1

abbrev pub tr_length : Frame → Bool
tr_length f = is_tr f && (eqb (f.dwords % 2) 1 || above32 f.dwords)

abbrev pub length_above32 : Frame → Bool
length_above32 f = (is_mem f || has_data f) && above32 f.dwords

-- byte 7 of a message is its code: any other value is refused with 2
abbrev pub other_byte7 : Frame → Bool
other_byte7 f =
    (is_tr f && not (eqb f.byte7 0xFF)) || (is_mem f && not (eqb f.byte7 (cond (eqb f.dwords 1) 0x0F 0xFF)))

abbrev pub upper_half_zero : Frame → Bool
upper_half_zero f = is64_bit f && eqb f.dword8 0

abbrev pub inv_length : Frame → Bool
inv_length f = is_inv f && not (eqb f.dwords 2)

abbrev pub page_traffic_class : Frame → Bool
page_traffic_class f = is_page f && not (eqb f.common.tc 0)

abbrev pub status010 : Frame → Bool
status010 f = is_completion f && eqb (status_in f) 2

abbrev pub status_with_data : Frame → Bool
status_with_data f = has_data f && not (eqb (status_in f) 0)

abbrev pub no_size : Frame → Bool
no_size f = is_inv f && (eqb (f.body / 2048 % 2) 1 && eqb (f.body / 4096) 0xF_FFFF_FFFF_FFFF)

abbrev pub forbidden : Frame → Bool
forbidden f =
    at11 f
    || (at01_in_a_write f
    || (tr_length f
    || (length_above32 f
    || (other_byte7 f
    || (upper_half_zero f
    || (inv_length f
    || (page_traffic_class f
    || (status010 f
    || (status_with_data f
    || no_size f)))))))))

-- ---- reading and writing

-- reading with that list: 1, 2, 1 and 3 as they are, then 4 by the phrases
abbrev pub read_listed : Option Form → Frame → ℕ → Result Packet ℕ
read_listed (Some m) f n =
    check 1 (eqb n (packet_length m f.dwords))
    (check 3 (eqb f.common.marks 0)
    (refuse 4 (forbidden f)
    (Ok (packet_in m f))))
read_listed None f n = Err 2

abbrev pub reading_by_phrases : List ℕ → Result Packet ℕ
reading_by_phrases b =
    let f = decode_frame b in
    refuse 1 (ltb (length b) 12)
    (refuse 1 (ltb 144 (length b))
    (read_listed (choose f.byte0 f.byte7) f (length b)))

-- writing with that list, applied to the frame that would be sent: 12 as it is, then 4 by the phrases, then 17
abbrev pub writing_by_phrases : Packet → ℕ → ℕ → Result ℕ ℕ
writing_by_phrases p load room =
    check 12 (fields_in_range p)
    (check 12 (eqb load (payload_length p.body))
    (refuse 4 (forbidden (frame_of p))
    (check_room (payload_offset (form_of p.body) + load) room)))
