-- Reading depends on Attr in nothing but the packet's own Attr.
use Rattle.std.specs.Prelude.{Err, None, Ok, Option, Result, Some}
use Prim.Native.Nat.{ℕ, ◌/◌, ◌%◌, ◌≤◌}
use native.Mathlib.Omega.{arith}
use mathlib.Core.Path.{◌≡◌, refl}
use mathlib.Core.Bool.{Bool, true, false, cond}
use mathlib.Core.List.{List, [], ◌∷◌}
use lib.ListN.{length, drop}
use lib.Dec.{ltb, eqb}
use borrow.Author.Tests.{ltb-false}
use Rattle.lemmas.proofs.Cases.{by_cases}
use Rattle.packet.specs.declared.Packet.{Packet}
use Rattle.packet.specs.declared.Frame.{Frame}
use Rattle.packet.specs.declared.Form.{Form}
use Rattle.packet.specs.declared.Form.TheVariants.{Mrd32, Mrd64, Mwr32, Mwr64, CplNoData, CplData, InvReq, InvCpl, PageReq, PrgResp}
use Rattle.packet.specs.Frames.{byte, attr_at, decode_frame}
use Rattle.packet.specs.Forms.{choose, packet_length}
use Rattle.packet.specs.Kinds.{attr_zero, body_in, well_formed, allowed_body}
use Rattle.packet.specs.Reading.{read_form, read_choice, reading, payload_as, payload_in}
use Rattle.packet.specs.SameButAttr.{SameButAttr}
use Rattle.packet.proofs.Laws.{by_fixed}

-- what was read, with Attr cleared
abbrev pub attr_cleared : Result Packet ℕ → Result Packet ℕ
attr_cleared (Ok p) = Ok (record { head = record { tc = p.head.tc; attr = attr_zero; sender = p.head.sender }; body = p.body })
attr_cleared (Err n) = Err n

-- ---- frames

-- both pass a test, or neither does
same_test : (t : Bool) (n : ℕ) (x y : Result Packet ℕ) → attr_cleared x ≡ attr_cleared y
    → attr_cleared (cond t x (Err n)) ≡ attr_cleared (cond t y (Err n))
same_test true n x y e = e
same_test false n x y e = refl

module _ (f : Frame) (attr : ℕ) where
  -- the frame with another Attr
  abbrev with_attr : Frame
  with_attr =
      record {
        byte0 = f.byte0;
        common = record { tc = f.common.tc; attr = attr; marks = f.common.marks; sender = f.common.sender };
        at = f.at;
        dwords = f.dwords;
        byte6 = f.byte6;
        byte7 = f.byte7;
        dword8 = f.dword8;
        dword12 = f.dword12;
        body = f.body;
      }

  -- no kind looks at it
  same_kind : (m : Form) → (body_in m with_attr ≡ body_in m f) × (well_formed m with_attr ≡ well_formed m f)
  unfolding body_in well_formed
  same_kind Mrd32 = (refl, refl)
  same_kind Mrd64 = (refl, refl)
  same_kind Mwr32 = (refl, refl)
  same_kind Mwr64 = (refl, refl)
  same_kind CplNoData = (refl, refl)
  same_kind CplData = (refl, refl)
  same_kind InvReq = (refl, refl)
  same_kind InvCpl = (refl, refl)
  same_kind PageReq = (refl, refl)
  same_kind PrgResp = (refl, refl)

  same_form : (m : Form) (n : ℕ) → attr_cleared (read_form m with_attr n) ≡ attr_cleared (read_form m f n)
  unfolding read_form
  same_form m n =
      rw ((same_kind m).0, (same_kind m).1)
      (same_test (eqb n (packet_length m f.dwords)) 1 _ _
      (same_test (eqb f.common.marks 0) 3 _ _
      (same_test (well_formed m f) 4 _ _
      (same_test (allowed_body f.common.tc (body_in m f)) 4 _ _ refl))))

  same_choice : (c : Option Form) (n : ℕ) → attr_cleared (read_choice c with_attr n) ≡ attr_cleared (read_choice c f n)
  same_choice (Some m) n = same_form m n
  same_choice None n = refl

-- ---- bytes

-- the payload begins after byte 3
payload_as_lem : (b0 b1 b2 c0 c1 c2 : ℕ) (r : List ℕ) (c : Option Form)
    → payload_as c (b0 ∷ b1 ∷ b2 ∷ r) ≡ payload_as c (c0 ∷ c1 ∷ c2 ∷ r)
payload_as_lem b0 b1 b2 c0 c1 c2 r (Some m) =
    by_fixed (λ (n : ℕ). drop n (b0 ∷ b1 ∷ b2 ∷ r) ≡ drop n (c0 ∷ c1 ∷ c2 ∷ r)) refl refl refl m
payload_as_lem b0 b1 b2 c0 c1 c2 r None = refl

abbrev Same : List ℕ → List ℕ → Type 0
Same b c =
    (decode_frame b ≡ with_attr (decode_frame c) (attr_at b))
    × (payload_as (choose (byte b 0) (byte b 7)) b ≡ payload_as (choose (byte c 0) (byte c 7)) c)

same_bytes : (b c : List ℕ) → 3 ≤ length b → SameButAttr b c → Same b c
unfolding decode_frame
same_bytes [] c h e = absurd (omega arith)
same_bytes (b0 ∷ []) c h e = absurd (omega arith)
same_bytes (b0 ∷ b1 ∷ []) c h e = absurd (omega arith)
same_bytes (b0 ∷ b1 ∷ b2 ∷ r) [] h e = absurd (omega (arith, e.long))
same_bytes (b0 ∷ b1 ∷ b2 ∷ r) (c0 ∷ []) h e = absurd (omega (arith, e.long))
same_bytes (b0 ∷ b1 ∷ b2 ∷ r) (c0 ∷ c1 ∷ []) h e = absurd (omega (arith, e.long))
same_bytes (b0 ∷ b1 ∷ b2 ∷ r) (c0 ∷ c1 ∷ c2 ∷ s) h e =
    let tc : b1 / 16 % 8 ≡ c1 / 16 % 8 = omega (arith, e.byte1.0) in
    let at : b2 / 4 % 4 ≡ c2 / 4 % 4 = omega (arith, e.byte2.1) in
    let words : b2 % 4 ≡ c2 % 4 = omega (arith, e.byte2.1) in
    let rest : r ≡ s = e.rest in
    (simp (e.byte0, tc, at, words, e.byte2.0, rest), rw (e.byte0, rest) (payload_as_lem c0 b1 b2 c0 c1 c2 s (choose c0 (byte (c0 ∷ c1 ∷ c2 ∷ s) 7))))

-- ---- what is read

module _ (b c : List ℕ) (e : SameButAttr b c) where
  pub same_reading : attr_cleared (reading b) ≡ attr_cleared (reading c)
  unfolding reading
  same_reading =
      let n = length c in
      rw e.long
      (by_cases (ltb n 12)
      (λ t. rw t)
      (λ t.
      let k : 3 ≤ length b = omega (arith, ltb-false n 12 t, e.long) in
      let f = decode_frame c in
      rw (t, (same_bytes b c k e).0)
      (by_cases (ltb 144 n) (λ u. rw u) (λ u. rw u (same_choice f (attr_at b) (choose f.byte0 f.byte7) n)))))

  pub same_payload : payload_in b ≡ payload_in c
  unfolding payload_in
  same_payload =
      rw e.long
      (by_cases (ltb (length c) 12)
      (λ t. rw t)
      (λ t. let k : 3 ≤ length b = omega (arith, ltb-false (length c) 12 t, e.long) in rw t (same_bytes b c k e).1))
