-- Writing, in its order: 12, 4, 17; the bytes of a packet; the buffer afterwards. 01, "Order".
use Rattle.std.specs.Prelude.{ℕ, ◌+◌, List, ◌++◌, length, take, drop, ltb, eqb, Err, Ok, Result}
use Rattle.packet.specs.declared.Packet.{Packet}
use Rattle.packet.specs.Numbers.{refuse, check}
use Rattle.packet.specs.Frames.{encode_frame}
use Rattle.packet.specs.Forms.{payload_offset}
use Rattle.packet.specs.Kinds.{fields_in_range, allowed, payload_length, form_of, frame_of}

-- the bytes of a packet: its fields, and then its payload
unfoldable pub bytes_of : Packet → List ℕ → List ℕ
bytes_of p payload = take (payload_offset (form_of p.body)) (encode_frame (frame_of p)) ++ payload

-- n if there is room for n bytes, otherwise refused with 17
abbrev pub check_room : ℕ → ℕ → Result ℕ ℕ
check_room n room = refuse 17 (ltb room n) (Ok n)

-- load is the length of the payload, room that of the buffer
unfoldable pub writing : Packet → ℕ → ℕ → Result ℕ ℕ
writing p load room =
    check 12 (fields_in_range p)
    (check 12 (eqb load (payload_length p.body))
    (check 4 (allowed p)
    (check_room (payload_offset (form_of p.body) + load) room)))

-- the buffer afterwards: the packet at its start and the rest unchanged, or all of it unchanged
abbrev pub buffer_after : Result ℕ ℕ → List ℕ → List ℕ → List ℕ
buffer_after (Ok n) bytes out = bytes ++ drop (length bytes) out
buffer_after (Err k) bytes out = out
