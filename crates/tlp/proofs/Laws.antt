-- The laws of packets that the layers above use, so that they need not unfold the definitions.
use Rattle.std.specs.Prelude.{Err, None, Ok, Option, Some}
use mathlib.Core.Path.{◌≡◌, refl, sym, ap, ◌∙◌}
use mathlib.Core.Bool.{Bool, true, false, not}
use mathlib.Core.List.{List, []}
use Prim.Native.Nat.{ℕ, ◌/◌, ◌%◌, ◌^◌, ◌<◌}
use native.Mathlib.Omega.{arith}
use native.Mathlib.Nat.{mod-eq_of_lt}
use lib.Dec.{eqb}
use lib.ListN.{length, take, drop, length-append, length-drop}
use lib.Seq.{take_at, drop_at}
use borrow.Author.Tests.{eq-eqb}
use Rattle.lemmas.proofs.Cases.{by_cases, impossible}
use Rattle.packet.specs.declared.Packet.{Packet}
use Rattle.packet.specs.declared.Completion.{Completion}
use Rattle.packet.specs.declared.InvalidateRequest.{InvalidateRequest}
use Rattle.packet.specs.declared.Common.{Common}
use Rattle.packet.specs.declared.Frame.{Frame}
use Rattle.packet.specs.declared.Form.{Form}
use Rattle.packet.specs.declared.Form.TheVariants.{Mrd32, Mrd64, Mwr32, Mwr64, CplNoData, CplData, InvReq, InvCpl, PageReq, PrgResp}
use Rattle.packet.specs.declared.Body.TheVariants.{Cpl, Inv}
use Rattle.packet.proofs.Laws.{accepted}
use Rattle.packet.specs.Frames.{attr_at, decode_frame}
use Rattle.packet.specs.Forms.{payload_offset}
use Rattle.packet.specs.Kinds.{codes_size, allowed_body, body_in, payload_length, form_of, attr_in, attr_bits, common_of, frame_of}
use Rattle.packet.specs.Reading.{reading, payload_in}
use Rattle.packet.specs.Writing.{writing, bytes_of, buffer_after}
use Rattle.ranges.specs.Size.{size_of}
use Rattle.ranges.proofs.Laws.{no_size_lem}
use Rattle.tlp.specs.Bytes.{Bytes}
use Rattle.tlp.proofs.Common.{attr_lt, frame_common}
use Rattle.tlp.proofs.Frames.{Sound, frame_sound, encoded_attr}
use Rattle.tlp.specs.Fields.{TypedBody, Typed}
use Rattle.tlp.proofs.RoundTrips.{written_reads, written_payload, written_length, read_writes, taken, told, payload_is}

-- ---- a packet that was sent is at the start of the buffer

module _ (p : Packet) (payload out : List ℕ) (n : ℕ) (e : writing p (length payload) (length out) ≡ Ok n) where
  abbrev sent : List ℕ
  sent = buffer_after (writing p (length payload) (length out)) (bytes_of p payload) out

  long : length (bytes_of p payload) ≡ n
  long = written_length p payload (length out) n e

  pub sent_bytes : take n sent ≡ bytes_of p payload
  sent_bytes = rw e (take_at (bytes_of p payload) (drop (length (bytes_of p payload)) out) n long)

  -- the rest of the buffer is unchanged
  pub sent_rest : drop n sent ≡ drop n out
  sent_rest = rw e (drop_at (bytes_of p payload) (drop (length (bytes_of p payload)) out) n long ∙ ap (λ (k : ℕ). drop k out) long)

  pub sent_length : length sent ≡ length out
  sent_length = rw e (length-append (bytes_of p payload) _ ∙ rw (long, length-drop n out) (omega (arith, (accepted p (length payload) (length out) n e).fits)))

  -- and it is read as that packet
  module _ (ty : Typed p) where
    pub sent_reads : reading (take n sent) ≡ Ok p
    sent_reads = rw sent_bytes (written_reads p payload (length out) n ty e)

    pub sent_payload : payload_in (take n sent) ≡ payload
    sent_payload = rw sent_bytes (written_payload p payload (length out) n ty e)

-- it has the packet's Attr, whether or not it can be written
pub written_attr : (p : Packet) (payload : List ℕ) → attr_at (bytes_of p payload) ≡ attr_bits p.head.attr
unfolding bytes_of
written_attr p payload =
    encoded_attr (frame_of p) (form_of p.body) payload
    ∙ ap (λ (f : Common). f.attr % 8) (frame_common (common_of p.head) p.body)
    ∙ mod-eq_of_lt (attr_lt p.head.attr)

-- no bytes are not a packet
pub nothing_reads : reading [] ≡ Err 1
unfolding reading
nothing_reads = refl

-- ---- a packet that was read

-- its fields fit their types, so that it can be written
typed_in : (m : Form) (f : Frame) → Sound f → TypedBody (body_in m f)
unfolding body_in TypedBody
typed_in Mrd32 f s = by_cases (eqb f.at 1) (λ t. rw t (s.byte6, omega (arith, s.dword8))) (λ t. rw t (s.byte6, omega (arith, s.dword8)))
typed_in Mrd64 f s = by_cases (eqb f.at 1) (λ t. rw t (s.byte6, omega (arith, s.dword8, s.dword12))) (λ t. rw t (s.byte6, omega (arith, s.dword8, s.dword12)))
typed_in Mwr32 f s = (tt, omega (arith, s.dword8))
typed_in Mwr64 f s = (tt, omega (arith, s.dword8, s.dword12))
typed_in CplNoData f s = (omega (arith, s.dword8), omega arith)
typed_in CplData f s = (omega (arith, s.dword8), omega arith)
typed_in InvReq f s = (omega (arith, s.dword8), omega (arith, s.body))
typed_in InvCpl f s = (omega (arith, s.dword8), s.dword12)
typed_in PageReq f s = omega (arith, s.dword8, s.dword12)
typed_in PrgResp f s = omega (arith, s.dword8)

-- only a completion form is read as a completion
from_12 : (m : Form) (f : Frame) (c : Completion) → body_in m f ≡ Cpl c → payload_offset m ≡ 12
unfolding body_in
from_12 Mrd32 f c q = refl
from_12 Mrd64 f c q =
    by_cases (eqb f.at 1)
    (λ t. let r = rw t at q in impossible cc)
    (λ t. let r = rw t at q in impossible cc)
from_12 Mwr32 f c q = refl
from_12 Mwr64 f c q = impossible cc
from_12 CplNoData f c q = refl
from_12 CplData f c q = refl
from_12 InvReq f c q = impossible cc
from_12 InvCpl f c q = impossible cc
from_12 PageReq f c q = impossible cc
from_12 PrgResp f c q = impossible cc

-- its Attr is what stands in the bytes
pub read_attr : (b : List ℕ) (p : Packet) → reading b ≡ Ok p → p.head.attr ≡ attr_in (attr_at b)
unfolding decode_frame
read_attr b p e = ap (λ (x : Packet). x.head.attr) (sym (taken b p e).whole)

module _ (b : List ℕ) (p : Packet) (h : Bytes b) (e : reading b ≡ Ok p) where
  pub read_typed : Typed p
  unfolding decode_frame
  read_typed =
      let t = told b p h e in
      let s = frame_sound b h in
      record {
        sender = rw (← t.whole) s.common.sender;
        body = rw (← t.whole) (typed_in t.form (decode_frame b) s);
      }

  -- its payload has the length that its fields give
  pub read_load : length (payload_in b) ≡ payload_length p.body
  read_load =
      (accepted p (length (payload_in b)) (length b) (length b) (read_writes b p (length b) h e (omega arith))).fills

  -- the payload of a completion begins at byte 12
  pub completion_payload : (c : Completion) → p.body ≡ Cpl c → payload_in b ≡ drop 12 b
  completion_payload c q = payload_is b p h e ∙ ap (λ (n : ℕ). drop n b) (from_12 (told b p h e).form (decode_frame b) c (ap (λ (x : Packet). x.body) (told b p h e).whole ∙ q))

-- ---- an Invalidate Request that was read has a size

size_given : (a : ℕ) (s : Bool) → a < 2 ^ 64 → codes_size a s ≡ true → (e : ℕ) × (size_of a s ≡ Some e)
size_given a s h k = go (size_of a s) refl
  where
    all_ones : (s ≡ true) × (a / 4096 ≡ 0xF_FFFF_FFFF_FFFF) → ⊥
    all_ones w = let q : not (eqb (a / 4096) 0xF_FFFF_FFFF_FFFF) ≡ true = rw w.0 at k in let r : false ≡ true = rw (eq-eqb _ _ w.1) at q in impossible cc

    go : (x : Option ℕ) → size_of a s ≡ x → (e : ℕ) × (size_of a s ≡ Some e)
    go (Some e) q = (e, q)
    go None q = absurd (all_ones (no_size_lem a s h q))

pub read_sized : (b : List ℕ) (p : Packet) (i : InvalidateRequest) → Bytes b → reading b ≡ Ok p → p.body ≡ Inv i
    → (e : ℕ) × (size_of i.address i.sized ≡ Some e)
unfolding TypedBody allowed_body
read_sized b p i h e q =
    let ty = rw q at (read_typed b p h e).body in
    let al = rw q at (told b p h e).allows in
    size_given i.address i.sized ty.1 al
