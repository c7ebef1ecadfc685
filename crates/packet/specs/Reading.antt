-- Reading, in its order: 1 (under 12, over 144), 2, 1 (any other length), 3, 4. 01, "Order".
use Rattle.std.specs.Prelude.{ℕ, ◌*◌, ◌/◌, cond, List, [], length, drop, ltb, eqb, Err, None, Ok, Option, Result, Some}
use Rattle.packet.specs.declared.Form.{Form}
use Rattle.packet.specs.declared.Frame.{Frame}
use Rattle.packet.specs.declared.Packet.{Packet}
use Rattle.packet.specs.Numbers.{refuse, check}
use Rattle.packet.specs.Frames.{byte, num64_at, decode_frame}
use Rattle.packet.specs.Forms.{choose, packet_length, payload_offset}
use Rattle.packet.specs.Kinds.{packet_in, well_formed, allowed}

-- a packet of n bytes with the frame f
unfoldable pub read_form : Form → Frame → ℕ → Result Packet ℕ
read_form m f n =
    check 1 (eqb n (packet_length m f.dwords))
    (check 3 (eqb f.common.marks 0)
    (check 4 (well_formed m f)
    (check 4 (allowed (packet_in m f))
    (Ok (packet_in m f)))))

abbrev pub read_choice : Option Form → Frame → ℕ → Result Packet ℕ
read_choice (Some m) f n = read_form m f n
read_choice None f n = Err 2

abbrev pub read_frame : Frame → ℕ → Result Packet ℕ
read_frame f n = read_choice (choose f.byte0 f.byte7) f n

unfoldable pub reading : List ℕ → Result Packet ℕ
reading b =
    refuse 1 (ltb (length b) 12)
    (refuse 1 (ltb 144 (length b))
    (read_frame (decode_frame b) (length b)))

-- the payload of a packet: what follows the bytes that hold fields
abbrev pub payload_as : Option Form → List ℕ → List ℕ
payload_as (Some m) b = drop (payload_offset m) b
payload_as None b = []

unfoldable pub payload_in : List ℕ → List ℕ
payload_in b = cond (ltb (length b) 12) [] (payload_as (choose (byte b 0) (byte b 7)) b)

-- QWORD k of a payload, or 0 past the last whole one
unfoldable pub qword_at : List ℕ → ℕ → ℕ
qword_at b k = cond (ltb k (length b / 8)) (num64_at b (8 * k)) 0
