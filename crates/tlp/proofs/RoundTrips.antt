-- The round trips: write then read, read with ignored bits cleared, read then write.
use Rattle.std.specs.Prelude.{Err, None, Ok, Option, Result, Some}
use Prim.Native.Nat.{ℕ, ◌+◌, ◌/◌, ◌≤◌}
use native.Mathlib.Omega.{arith}
use mathlib.Core.Path.{◌≡◌, refl, sym, ap, ◌∙◌}
use mathlib.Core.Bool.{Bool, true}
use mathlib.Core.List.{List}
use lib.ListN.{length, take, drop, length-append, length-drop, take-append-drop}
use lib.Seq.{drop_at}
use lib.Dec.{ltb, eqb}
use borrow.Author.Tests.{ltb-false, eqb-true, lt-ltb, le-ltb, eq-eqb}
use Rattle.packet.specs.declared.Packet.{Packet}
use Rattle.packet.specs.declared.Common.{Common}
use Rattle.packet.specs.declared.Frame.{Frame}
use Rattle.packet.specs.declared.Form.{Form}
use Rattle.packet.specs.Numbers.{refuse}
use Rattle.packet.specs.Frames.{byte, decode_frame, encode_frame}
use Rattle.packet.specs.Forms.{choose, payload_offset, packet_length}
use Rattle.packet.specs.Kinds.{head_in, well_formed, body_in, packet_in, allowed, payload_length, form_of, common_of, packet_frame, frame_of}
use Rattle.packet.specs.Reading.{read_form, read_frame, read_choice, reading, payload_in}
use Rattle.packet.specs.Writing.{writing, bytes_of, buffer_after}
use Rattle.packet.specs.Normal.{mask_of, masked, normal_as, normal}
use Rattle.packet.proofs.Laws.{check_passed, refuse_passed, ok_injective, Accepted, accepted}
use Rattle.tlp.specs.Bytes.{Bytes}
use Rattle.tlp.proofs.Common.{frame_common}
use Rattle.tlp.proofs.Frames.{up_to, read_up_to, encode_frame_back, fixed_length, fixed_low, frame_sound, encode_frame_up_to}
use Rattle.tlp.specs.Fields.{Typed}
use Rattle.tlp.proofs.Fields.{Framed, framed_packet, fields, longest}
use Rattle.tlp.proofs.Masks.{masked_length, masked_drop}
use Rattle.tlp.proofs.Tidy.{mask, read_tidy, tidy_frame, under_0, under_1, under_2, under_7, under_bytes}
use Rattle.tlp.proofs.Refit.{chosen_by, Refit, refit}
use Rattle.lemmas.proofs.Cases.{impossible}

-- ---- a refused packet leaves the buffer unchanged

pub refused_writes_nothing : (p : Packet) (payload out : List ℕ) (k : ℕ)
    → writing p (length payload) (length out) ≡ Err k
    → buffer_after (writing p (length payload) (length out)) (bytes_of p payload) out ≡ out
refused_writes_nothing p payload out k e = rw e

-- ---- a written packet is read as the same packet

-- a list of 12 to 144 bytes is read by its frame
read_by_frame : (b : List ℕ) → 12 ≤ length b → length b ≤ 144 → reading b ≡ read_frame (decode_frame b) (length b)
unfolding reading
read_by_frame b h k = rw (le-ltb (length b) 12 h, le-ltb 144 (length b) k)

-- and by the form that it selects
read_by_form : (b : List ℕ) (m : Form) (n : ℕ) → choose (byte b 0) (byte b 7) ≡ Some m
    → read_frame (decode_frame b) n ≡ read_form m (decode_frame b) n
unfolding decode_frame
read_by_form b m n e = ap (λ (c : Option Form). read_choice c (decode_frame b) n) e

-- a frame that passes each test is read as its packet
read_whole : (m : Form) (f : Frame) (n : ℕ) → n ≡ packet_length m f.dwords → f.common.marks ≡ 0 → well_formed m f ≡ true
    → allowed (packet_in m f) ≡ true → read_form m f n ≡ Ok (packet_in m f)
unfolding read_form
read_whole m f n l z s a = rw (eq-eqb n (packet_length m f.dwords) l, eq-eqb f.common.marks 0 z, s, a)

pub written_length : (p : Packet) (payload : List ℕ) (room n : ℕ) → writing p (length payload) room ≡ Ok n
    → length (bytes_of p payload) ≡ n
unfolding bytes_of
written_length p payload room n e = rw (length-append, fixed_length) (accepted p (length payload) room n e).long

module _ (p : Packet) (payload : List ℕ) (room n : ℕ) (ty : Typed p) (e : writing p (length payload) room ≡ Ok n) where
  passed : Accepted p (length payload) room n
  passed = accepted p (length payload) room n e

  seated : Framed p.head p.body
  seated = fields p.head passed.tc ty.sender p.body passed.body ty.body

  no_marks : (frame_of p).common.marks ≡ 0
  no_marks = ap (λ (f : Common). f.marks) (frame_common (common_of p.head) p.body)

  -- the first fields of a written packet are those of its frame
  up_to_back : up_to (payload_offset (form_of p.body)) (decode_frame (bytes_of p payload))
      ≡ up_to (payload_offset (form_of p.body)) (frame_of p)
  unfolding bytes_of
  up_to_back =
      encode_frame_back (frame_of p) seated.sound no_marks (form_of p.body) payload

  -- bytes 0 and 7 select the form of the packet
  pub kind_of_written : choose (byte (bytes_of p payload) 0) (byte (bytes_of p payload) 7) ≡ Some (form_of p.body)
  unfolding decode_frame
  kind_of_written =
      let b0 = ap (λ (f : Frame). f.byte0) up_to_back in
      let b7 = ap (λ (f : Frame). f.byte7) up_to_back in
      rw (b0, b7) seated.chosen

  pub written_reads : reading (bytes_of p payload) ≡ Ok p
  written_reads =
      let b = bytes_of p payload in
      let m = form_of p.body in
      let f = frame_of p in
      let low = fixed_low m in
      let high = longest p.head.tc p.body passed.allows in
      let len : length b ≡ payload_offset m + payload_length p.body = written_length p payload room n e ∙ sym passed.long ∙ ap (λ (k : ℕ). payload_offset m + k) passed.fills in
      let h : 12 ≤ length b = omega arith in
      let k : length b ≤ 144 = omega arith in
      let same : packet_in m f ≡ p = framed_packet p.head p.body seated in
      read_by_frame b h k
      ∙ read_by_form b m (length b) kind_of_written
      ∙ sym (read_up_to m (decode_frame b) (length b))
      ∙ ap (λ (x : Frame). read_form m x (length b)) up_to_back
      ∙ read_up_to m f (length b)
      ∙ read_whole m f (length b) (len ∙ sym seated.long) no_marks seated.shape (ap allowed same ∙ passed.allows)
      ∙ ap Ok same

  pub written_payload : payload_in (bytes_of p payload) ≡ payload
  unfolding payload_in bytes_of
  written_payload =
      let m = form_of p.body in
      let f = frame_of p in
      let low = fixed_low m in
      let l = written_length p payload room n e in
      let h : 12 ≤ length (bytes_of p payload) = omega (arith, passed.long) in
      rw (le-ltb (length (bytes_of p payload)) 12 h, kind_of_written) (drop_at (take (payload_offset m) (encode_frame f)) payload (payload_offset m) (fixed_length m f))

-- ---- reading does not depend on ignored bits

module _ (b : List ℕ) (h : Bytes b) where
  normal_frame : (m : Form) (t : Bool) → t ≡ eqb (decode_frame b).at 1
      → read_form m (decode_frame (masked (mask_of m t) b)) (length b) ≡ read_form m (decode_frame b) (length b)
  normal_frame m t e =
      sym (read_up_to m (decode_frame (masked (mask_of m t) b)) (length b))
      ∙ ap (λ (f : Frame). read_form m f (length b)) (tidy_frame b h m t)
      ∙ rw e (read_tidy (decode_frame b) (length b) m)

  normal_as_lem : (c : Option Form) → choose (byte b 0) (byte b 7) ≡ c
      → reading (normal_as c (eqb (decode_frame b).at 1) b) ≡ reading b
  unfolding reading
  normal_as_lem None e = refl
  normal_as_lem (Some m) e =
      let t = eqb (decode_frame b).at 1 in
      let c = masked (mask_of m t) b in
      let n = length b in
      let e2 : choose (byte c 0) (byte c 7) ≡ Some m = rw (under_0 b h m t, under_7 b h m t) e in
      let same : read_frame (decode_frame c) n ≡ read_frame (decode_frame b) n = read_by_form c m n e2 ∙ normal_frame m t refl ∙ sym (read_by_form b m n e) in
      rw (masked_length (mask_of m t) b) (ap (λ (x : Result Packet ℕ). refuse 1 (ltb n 12) (refuse 1 (ltb 144 n) x)) same)

  pub normal_reads : reading (normal b) ≡ reading b
  unfolding normal
  normal_reads = normal_as_lem (choose (byte b 0) (byte b 7)) refl

-- ---- a packet that was read is written as the same bytes, with its unnamed bits cleared

-- a packet that was read has passed each test
pub record Taken (b : List ℕ) (p : Packet) : Type 0 where
  pub form : Form
  pub low : 12 ≤ length b
  pub chosen : choose (byte b 0) (byte b 7) ≡ Some form
  pub long : length b ≡ packet_length form (decode_frame b).dwords
  pub marks : (decode_frame b).common.marks ≡ 0
  pub shape : well_formed form (decode_frame b) ≡ true
  pub allows : allowed p ≡ true
  pub whole : packet_in form (decode_frame b) ≡ p

module _ (b : List ℕ) (p : Packet) (low : 12 ≤ length b) where
  taken_as : (c : Option Form) → choose (byte b 0) (byte b 7) ≡ c → read_choice c (decode_frame b) (length b) ≡ Ok p
      → Taken b p
  unfolding read_form
  taken_as None q e = impossible cc
  taken_as (Some m) q e =
      let f = decode_frame b in
      let p1 = check_passed (eqb (length b) (packet_length m f.dwords)) 1 _ e in
      let p2 = check_passed (eqb f.common.marks 0) 3 _ p1.1 in
      let p3 = check_passed (well_formed m f) 4 _ p2.1 in
      let p4 = check_passed (allowed (packet_in m f)) 4 (Ok (packet_in m f)) p3.1 in
      let same = ok_injective p4.1 in
      record {
        form = m;
        low = low;
        chosen = q;
        long = eqb-true (length b) (packet_length m f.dwords) p1.0;
        marks = eqb-true f.common.marks 0 p2.0;
        shape = p3.0;
        allows = ap allowed (sym same) ∙ p4.0;
        whole = same;
      }

pub taken : (b : List ℕ) (p : Packet) → reading b ≡ Ok p → Taken b p
unfolding reading decode_frame
taken b p e =
    let p1 = refuse_passed (ltb (length b) 12) 1 _ e in
    let p2 = refuse_passed (ltb 144 (length b)) 1 (read_frame (decode_frame b) (length b)) p1.1 in
    taken_as b p (ltb-false (length b) 12 p1.0) (choose (byte b 0) (byte b 7)) refl p2.1

marks_is : (b : List ℕ) → (decode_frame b).common.marks ≡ 0 → byte b 2 / 64 ≡ 0
unfolding decode_frame
marks_is b z = z

module _ (b : List ℕ) (p : Packet) (h : Bytes b) (e : reading b ≡ Ok p) where
  pub told : Taken b p
  told = taken b p e

  refitted : Refit told.form (decode_frame b)
  unfolding decode_frame
  refitted =
      let c = rw told.chosen at (chosen_by (byte b 0) (byte b 7)) in
      refit (decode_frame b) (frame_sound b h) told.marks told.form told.shape c.0 c.1

  pub payload_is : payload_in b ≡ drop (payload_offset told.form) b
  unfolding payload_in
  payload_is = rw (le-ltb (length b) 12 told.low, told.chosen)

  -- the fixed bytes and the payload are the whole packet
  sum_is : payload_offset told.form + payload_length (body_in told.form (decode_frame b)) ≡ length b
  sum_is = refitted.load ∙ sym told.long

  pub read_written : bytes_of p (payload_in b) ≡ normal b
  unfolding bytes_of normal
  read_written =
      let m = told.form in
      let f = decode_frame b in
      let u = eqb f.at 1 in
      let c = masked (mask_of m u) b in
      let n = payload_offset m in
      let sum = sum_is in
      let len = masked_length (mask_of m u) b in
      let fits : n ≤ length c = omega arith in
      let front : take n (encode_frame (packet_frame (common_of (head_in f.common)) (body_in m f))) ≡ take n c =
      ap (λ (x : Frame). take n (encode_frame x)) (refitted.frame ∙ sym (tidy_frame b h m u))
      ∙ encode_frame_up_to c (under_bytes b h m u) (under_1 b h m u) (under_2 b h m u (marks_is b told.marks)) m fits in
      let rest : payload_in b ≡ drop n c = payload_is ∙ sym (rw (mask m u).long at (masked_drop (mask_of m u) b)) in
      let all : bytes_of (packet_in m f) (payload_in b) ≡ c = rw (refitted.form, front, rest) (take-append-drop n c) in
      ap (λ (x : Packet). bytes_of x (payload_in b)) (sym told.whole) ∙ all ∙ rw told.chosen

  writes_back : (room : ℕ) → length b ≤ room → writing p (length (payload_in b)) room ≡ Ok (length b)
  unfolding writing
  writes_back room k =
      let m = told.form in
      let f = decode_frame b in
      let sum = sum_is in
      let low = told.low in
      let d = length-drop (payload_offset m) b in
      let load : length (payload_in b) ≡ payload_length (body_in m f) = rw (payload_is, d) (omega arith) in
      let wide : payload_offset m + length (payload_in b) ≡ length b = rw load sum in
      let tc = lt-ltb f.common.tc 8 (frame_sound b h).common.tc in
      let a : allowed (packet_in m f) ≡ true = ap allowed told.whole ∙ told.allows in
      let all : writing (packet_in m f) (length (payload_in b)) room ≡ Ok (length b) =
      rw (tc, refitted.within, eq-eqb (length (payload_in b)) (payload_length (body_in m f)) load, a, refitted.form, wide, le-ltb room (length b) k) in
      ap (λ (x : Packet). writing x (length (payload_in b)) room) (sym told.whole) ∙ all

pub read_writes : (b : List ℕ) (p : Packet) (room : ℕ) → Bytes b → reading b ≡ Ok p → length b ≤ room
    → writing p (length (payload_in b)) room ≡ Ok (length b)
read_writes b p room h e k = writes_back b p h e room k
