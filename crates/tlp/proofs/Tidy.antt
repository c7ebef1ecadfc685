-- A frame with its ignored bits cleared.
use Prim.Native.Nat.{ℕ, zero, suc, ◌+◌, ◌-◌, ◌*◌, ◌/◌, ◌%◌, ◌^◌, ◌<◌, ◌≤◌}
use native.Mathlib.Omega.{arith}
use native.Mathlib.Nat.{div-add-mod', mod-lt, mod-eq_of_lt}
use mathlib.Core.Path.{◌≡◌, refl, sym, ap, ap₂, ◌∙◌}
use mathlib.Core.Bool.{Bool, true, false, cond, ◌&&◌}
use mathlib.Core.List.{List, [], ◌∷◌}
use lib.ListN.{length}
use lib.Bits.{bit_and, and_block, and_mask, and_zero_r, and_le_l}
use lib.Pow.{pow_pos}
use lib.Dec.{ltb, eqb, lit≤}
use borrow.Author.Tests.{ltb-true, eqb-true}
use Rattle.packet.specs.declared.Frame.{Frame}
use Rattle.packet.specs.declared.Form.{Form}
use Rattle.packet.specs.declared.Form.TheVariants.{Mrd32, Mrd64, Mwr32, Mwr64, CplNoData, CplData, InvReq, InvCpl, PageReq, PrgResp}
use Rattle.packet.specs.Frames.{byte, decode_frame}
use Rattle.packet.specs.Forms.{payload_offset}
use Rattle.packet.specs.Kinds.{body_in, well_formed}
use Rattle.packet.specs.Reading.{read_form}
use Rattle.packet.specs.Normal.{mask_of, masked}
use Rattle.lemmas.proofs.Cases.{by_cases, and_both}
use Rattle.tlp.specs.Bytes.{Bytes}
use Rattle.tlp.proofs.Frames.{Sound, up_to, fixed_low, frame_sound}
use Rattle.tlp.proofs.Masks.{masked_at, masked_le, meet, frame_meet}

-- ---- one mask

-- a mask of all ones, as wide as the number
whole : (k x : ℕ) → x < 2 ^ k → bit_and x (2 ^ k - 1) ≡ x
whole k x h = and_mask x k ∙ mod-eq_of_lt h

-- a mask of j ones from bit k on, and l ones at the bottom
parted : (j k l x : ℕ) → 2 ^ l - 1 < 2 ^ k
    → bit_and x ((2 ^ j - 1) * 2 ^ k + (2 ^ l - 1)) ≡ x / 2 ^ k % 2 ^ j * 2 ^ k + x % 2 ^ k % 2 ^ l
parted j k l x h =
    ap (λ (y : ℕ). bit_and y ((2 ^ j - 1) * 2 ^ k + (2 ^ l - 1))) (sym (div-add-mod' x (2 ^ k)))
    ∙ and_block k (x / 2 ^ k) (2 ^ j - 1) (x % 2 ^ k) (2 ^ l - 1) (mod-lt x (pow_pos k)) h
    ∙ ap₂ (λ (y z : ℕ). y * 2 ^ k + z) (and_mask (x / 2 ^ k) j) (and_mask (x % 2 ^ k) l)

-- ---- the fields of a frame that a kind has

abbrev pub keeping : Frame → ℕ → ℕ → ℕ → ℕ → ℕ → ℕ → Frame
keeping f at dwords byte6 dword8 dword12 body =
    record {
      byte0 = f.byte0;
      common = f.common;
      at = at;
      dwords = dwords;
      byte6 = byte6;
      byte7 = f.byte7;
      dword8 = dword8;
      dword12 = dword12;
      body = body;
    }

-- the last DWORD of an address
abbrev pub tidy_address : Bool → ℕ → ℕ
tidy_address tr x = cond tr (x / 4096 * 4096 + x % 2) (x / 4 * 4)

abbrev pub tidy_status : ℕ → ℕ
tidy_status x = x / 32 * 32 + x % 16

abbrev pub tidy_target : ℕ → ℕ
tidy_target x = x / 256 * 256 + x % 128

unfoldable pub tidy : Form → Bool → Frame → Frame
tidy Mrd32 tr f = keeping f f.at f.dwords f.byte6 (tidy_address tr f.dword8) 0 0
tidy Mrd64 tr f = keeping f f.at f.dwords f.byte6 f.dword8 (tidy_address tr f.dword12) 0
tidy Mwr32 tr f = keeping f f.at f.dwords 0 (tidy_address false f.dword8) 0 0
tidy Mwr64 tr f = keeping f f.at f.dwords 0 f.dword8 (tidy_address false f.dword12) 0
tidy CplNoData tr f = keeping f 0 0 (tidy_status f.byte6) (tidy_target f.dword8) 0 0
tidy CplData tr f = keeping f 0 f.dwords (tidy_status f.byte6) (tidy_target f.dword8) 0 0
tidy InvReq tr f = keeping f 0 f.dwords (f.byte6 % 32) (f.dword8 / 65536 * 65536) 0 (f.body / 2048 * 2048)
tidy InvCpl tr f = keeping f 0 0 0 (f.dword8 / 65536 * 65536 + f.dword8 % 8) f.dword12 0
tidy PageReq tr f = keeping f 0 0 0 f.dword8 f.dword12 0
tidy PrgResp tr f = keeping f 0 0 0 (f.dword8 / 4096 * 4096 + f.dword8 % 512) 0 0

-- the masks of DWORDs and of the body
module _ (x : ℕ) (h : x < 2 ^ 32) where
  mask_tr : bit_and x 0xFFFFF001 ≡ x / 4096 * 4096 + x % 2
  mask_tr = parted 20 12 1 x (lit≤ tt) ∙ omega arith

  mask_mem : bit_and x 0xFFFFFFFC ≡ x / 4 * 4
  mask_mem = parted 30 2 0 x (lit≤ tt) ∙ omega arith

  mask_target : bit_and x 0xFFFFFF7F ≡ tidy_target x
  mask_target = parted 24 8 7 x (lit≤ tt) ∙ omega arith

  mask_device : bit_and x 0xFFFF0000 ≡ x / 65536 * 65536
  mask_device = parted 16 16 0 x (lit≤ tt) ∙ omega arith

  mask_cc : bit_and x 0xFFFF0007 ≡ x / 65536 * 65536 + x % 8
  mask_cc = parted 16 16 3 x (lit≤ tt) ∙ omega arith

  mask_code : bit_and x 0xFFFFF1FF ≡ x / 4096 * 4096 + x % 512
  mask_code = parted 20 12 9 x (lit≤ tt) ∙ omega arith

mask_size : (x : ℕ) → x < 2 ^ 64 → bit_and x 0xFFFFFFFFFFFFF800 ≡ x / 2048 * 2048
mask_size x h = parted 53 11 0 x (lit≤ tt) ∙ omega arith

-- TC and the high bit of Attr
mask_byte1 : (x : ℕ) → bit_and x 0x74 ≡ x / 16 % 8 * 16 + x / 4 % 2 * 4
mask_byte1 x =
    ap (λ (y : ℕ). bit_and y 0x74) (sym (div-add-mod' x 16))
    ∙ and_block 4 (x / 16) 7 (x % 16) 4 (mod-lt x (lit≤ tt)) (lit≤ tt)
    ∙ ap₂ (λ (y z : ℕ). y * 16 + z) (and_mask (x / 16) 3) (parted 1 2 0 (x % 16) (lit≤ tt) ∙ omega arith)

byte1_kept : (t o : ℕ) → t < 8 → o < 2 → (t * 16 + o * 4) / 16 % 8 * 16 + (t * 16 + o * 4) / 4 % 2 * 4 ≡ t * 16 + o * 4
byte1_kept t o ht ho =
    let p : (t * 16 + o * 4) / 16 % 8 ≡ t = omega arith in
    let q : (t * 16 + o * 4) / 4 % 2 ≡ o = omega arith in
    rw (p, q)

mask_status : (x : ℕ) → x < 256 → bit_and x 0xEF ≡ tidy_status x
mask_status x h = parted 3 5 4 x (lit≤ tt) ∙ omega arith

module _ (f : Frame) (s : Sound f) where
  -- the fields that are kept whole
  all0 : bit_and f.byte0 0xFF ≡ f.byte0
  all0 = whole 8 f.byte0 s.byte0

  all_tc : bit_and f.common.tc 7 ≡ f.common.tc
  all_tc = whole 3 f.common.tc s.common.tc

  all_attr : bit_and f.common.attr 7 ≡ f.common.attr
  all_attr = whole 3 f.common.attr s.common.attr

  all_marks : bit_and f.common.marks 3 ≡ f.common.marks
  all_marks = whole 2 f.common.marks s.common.marks

  all_at : bit_and f.at 3 ≡ f.at
  all_at = whole 2 f.at s.at

  all_words : bit_and f.dwords 0x3FF ≡ f.dwords
  all_words = whole 10 f.dwords s.dwords

  all_sender : bit_and f.common.sender 0xFFFF ≡ f.common.sender
  all_sender = whole 16 f.common.sender s.common.sender

  all6 : bit_and f.byte6 0xFF ≡ f.byte6
  all6 = whole 8 f.byte6 s.byte6

  all7 : bit_and f.byte7 0xFF ≡ f.byte7
  all7 = whole 8 f.byte7 s.byte7

  all8 : bit_and f.dword8 0xFFFFFFFF ≡ f.dword8
  all8 = whole 32 f.dword8 s.dword8

  all12 : bit_and f.dword12 0xFFFFFFFF ≡ f.dword12
  all12 = whole 32 f.dword12 s.dword12

  ruleset alls = (all0, all_tc, all_attr, all_marks, all_at, all_words, all_sender, all6, all7, all8, all12, and_zero_r)

  pub tidy_is : (m : Form) (tr : Bool) → meet f (decode_frame (mask_of m tr)) ≡ tidy m tr f
  unfolding decode_frame mask_of tidy
  tidy_is Mrd32 true = simp (alls, mask_tr f.dword8 s.dword8)
  tidy_is Mrd32 false = simp (alls, mask_mem f.dword8 s.dword8)
  tidy_is Mrd64 true = simp (alls, mask_tr f.dword12 s.dword12)
  tidy_is Mrd64 false = simp (alls, mask_mem f.dword12 s.dword12)
  tidy_is Mwr32 tr = simp (alls, mask_mem f.dword8 s.dword8)
  tidy_is Mwr64 tr = simp (alls, mask_mem f.dword12 s.dword12)
  tidy_is CplNoData tr = simp (alls, mask_status f.byte6 s.byte6, mask_target f.dword8 s.dword8)
  tidy_is CplData tr = simp (alls, mask_status f.byte6 s.byte6, mask_target f.dword8 s.dword8)
  tidy_is InvReq tr =
      simp (alls, and_mask f.byte6 5, mask_device f.dword8 s.dword8, mask_size f.body s.body)
  tidy_is InvCpl tr = simp (alls, mask_cc f.dword8 s.dword8)
  tidy_is PageReq tr = simp alls
  tidy_is PrgResp tr = simp (alls, mask_code f.dword8 s.dword8)

-- ---- the masks of a form

-- every element is a byte
below : List ℕ → Bool
below [] = true
below (x ∷ xs) = ltb x 256 && below xs

bytes_below : (xs : List ℕ) → below xs ≡ true → Bytes xs
unfolding below
bytes_below [] e i = lit≤ tt
bytes_below (x ∷ xs) e zero = ltb-true x 256 (and_both (ltb x 256) (below xs) e).0
bytes_below (x ∷ xs) e (suc i) = bytes_below xs (and_both (ltb x 256) (below xs) e).1 i

-- what the masks of every form have in common: n bytes; in byte 1 only TC and the high bit of Attr; all of bytes 0
-- and 7
pub record Mask (n : ℕ) (ms : List ℕ) : Type 0 where
  pub bytes : Bytes ms
  pub long : length ms ≡ n
  pub byte0 : byte ms 0 ≡ 0xFF
  pub byte1 : byte ms 1 ≡ 0x74
  pub byte7 : byte ms 7 ≡ 0xFF

abbrev judged : ℕ → List ℕ → Bool
judged n ms =
    below ms
    && eqb (length ms) n && eqb (byte ms 0) 0xFF && eqb (byte ms 1) 0x74 && eqb (byte ms 7) 0xFF

judge : (n : ℕ) (ms : List ℕ) → judged n ms ≡ true → Mask n ms
judge n ms e =
    let a = and_both (below ms && eqb (length ms) n && eqb (byte ms 0) 0xFF && eqb (byte ms 1) 0x74) (eqb (byte ms 7) 0xFF) e in
    let b = and_both (below ms && eqb (length ms) n && eqb (byte ms 0) 0xFF) (eqb (byte ms 1) 0x74) a.0 in
    let c = and_both (below ms && eqb (length ms) n) (eqb (byte ms 0) 0xFF) b.0 in
    let d = and_both (below ms) (eqb (length ms) n) c.0 in
    record {
      bytes = bytes_below ms d.0;
      long = eqb-true (length ms) n d.1;
      byte0 = eqb-true (byte ms 0) 0xFF c.1;
      byte1 = eqb-true (byte ms 1) 0x74 b.1;
      byte7 = eqb-true (byte ms 7) 0xFF a.1;
    }

-- proved for each form by computation
pub mask : (m : Form) (tr : Bool) → Mask (payload_offset m) (mask_of m tr)
unfolding mask_of below
mask Mrd32 true = judge 12 (mask_of Mrd32 true) refl
mask Mrd32 false = judge 12 (mask_of Mrd32 false) refl
mask Mrd64 true = judge 16 (mask_of Mrd64 true) refl
mask Mrd64 false = judge 16 (mask_of Mrd64 false) refl
mask Mwr32 t = judge 12 (mask_of Mwr32 t) refl
mask Mwr64 t = judge 16 (mask_of Mwr64 t) refl
mask CplNoData t = judge 12 (mask_of CplNoData t) refl
mask CplData t = judge 12 (mask_of CplData t) refl
mask InvReq t = judge 24 (mask_of InvReq t) refl
mask InvCpl t = judge 16 (mask_of InvCpl t) refl
mask PageReq t = judge 16 (mask_of PageReq t) refl
mask PrgResp t = judge 16 (mask_of PrgResp t) refl

-- ---- the bits that a mask clears are ignored on reading

-- the address of a TR and of a MEM, and the fields of the other kinds
module _ (x : ℕ) where
  tr_kept : ((x / 4096 * 4096 + x % 2) / 4096 * 4096 ≡ x / 4096 * 4096) × ((x / 4096 * 4096 + x % 2) % 2 ≡ x % 2)
  tr_kept = (omega arith, omega arith)

  mem_kept : x / 4 * 4 / 4 * 4 ≡ x / 4 * 4
  mem_kept = omega arith

  status_kept : (tidy_status x / 32 ≡ x / 32) × (tidy_status x % 16 ≡ x % 16)
  status_kept = (omega arith, omega arith)

  target_kept : (tidy_target x / 65536 ≡ x / 65536) × (tidy_target x / 256 ≡ x / 256) × (tidy_target x % 128 ≡ x % 128)
  target_kept = (omega arith, omega arith, omega arith)

  size_kept : (x / 2048 * 2048 / 4096 ≡ x / 4096) × (x / 2048 * 2048 / 2048 ≡ x / 2048)
  size_kept = (omega arith, omega arith)

  device_kept : x / 65536 * 65536 / 65536 ≡ x / 65536
  device_kept = omega arith

  cc_kept : ((x / 65536 * 65536 + x % 8) / 65536 ≡ x / 65536) × ((x / 65536 * 65536 + x % 8) % 8 ≡ x % 8)
  cc_kept = (omega arith, omega arith)

  code_kept :
      ((x / 4096 * 4096 + x % 512) / 65536 ≡ x / 65536)
      × ((x / 4096 * 4096 + x % 512) / 4096 ≡ x / 4096)
      × ((x / 4096 * 4096 + x % 512) % 512 ≡ x % 512)
  code_kept = (omega arith, omega arith, omega arith)

-- the same below an upper half u
module _ (u x : ℕ) where
  long_tr_kept :
      ((u * 2 ^ 32 + (x / 4096 * 4096 + x % 2)) / 4096 * 4096 ≡ (u * 2 ^ 32 + x) / 4096 * 4096)
      × ((u * 2 ^ 32 + (x / 4096 * 4096 + x % 2)) % 2 ≡ (u * 2 ^ 32 + x) % 2)
  long_tr_kept = (omega arith, omega arith)

  long_mem_kept : (u * 2 ^ 32 + x / 4 * 4) / 4 * 4 ≡ (u * 2 ^ 32 + x) / 4 * 4
  long_mem_kept = omega arith

-- a frame with its ignored bits cleared is read as the frame itself
module _ (f : Frame) (n : ℕ) where
  pub read_tidy : (m : Form) → read_form m (tidy m (eqb f.at 1) f) n ≡ read_form m f n
  unfolding read_form tidy body_in well_formed
  read_tidy Mrd32 =
      let x = tr_kept f.dword8 in
      by_cases (eqb f.at 1) (λ e. simp (e, x.0, x.1)) (λ e. simp (e, mem_kept f.dword8))
  read_tidy Mrd64 =
      let x = long_tr_kept f.dword8 f.dword12 in
      by_cases (eqb f.at 1) (λ e. simp (e, x.0, x.1)) (λ e. simp (e, long_mem_kept f.dword8 f.dword12))
  read_tidy Mwr32 = simp (mem_kept f.dword8)
  read_tidy Mwr64 = simp (long_mem_kept f.dword8 f.dword12)
  read_tidy CplNoData =
      let x = status_kept f.byte6 in
      let y = target_kept f.dword8 in
      simp (x.0, x.1, y.0, y.1, y.2)
  read_tidy CplData =
      let x = status_kept f.byte6 in
      let y = target_kept f.dword8 in
      simp (x.0, x.1, y.0, y.1, y.2)
  read_tidy InvReq =
      let k : f.byte6 % 32 % 32 ≡ f.byte6 % 32 = omega arith in
      let x = size_kept f.body in
      simp (k, x.0, x.1, device_kept f.dword8)
  read_tidy InvCpl =
      let x = cc_kept f.dword8 in
      simp (x.0, x.1)
  read_tidy PageReq = refl
  read_tidy PrgResp =
      let x = code_kept f.dword8 in
      simp (x.0, x.1, x.2)

-- ---- the bytes of a form under its masks

module _ (b : List ℕ) (h : Bytes b) (m : Form) (t : Bool) where
  abbrev under : List ℕ
  under = masked (mask_of m t) b

  mask_long : 12 ≤ length (mask_of m t)
  mask_long = let g = (mask m t).long in let k = fixed_low m in omega arith

  pub tidy_frame : up_to (payload_offset m) (decode_frame under) ≡ tidy m t (decode_frame b)
  tidy_frame =
      ap (λ (n : ℕ). up_to n (decode_frame under)) (sym (mask m t).long)
      ∙ frame_meet (mask_of m t) b (mask m t).bytes h mask_long
      ∙ tidy_is (decode_frame b) (frame_sound b h) m t

  under_at : (i : ℕ) → i < 12 → byte under i ≡ bit_and (byte b i) (byte (mask_of m t) i)
  under_at i k = let l = mask_long in let g : i < length (mask_of m t) = omega arith in masked_at (mask_of m t) b i g

  -- bytes 0 and 7 select the same form
  pub under_0 : byte under 0 ≡ byte b 0
  under_0 = under_at 0 (lit≤ tt) ∙ ap (bit_and (byte b 0)) (mask m t).byte0 ∙ whole 8 (byte b 0) (h 0)

  pub under_7 : byte under 7 ≡ byte b 7
  under_7 = under_at 7 (lit≤ tt) ∙ ap (bit_and (byte b 7)) (mask m t).byte7 ∙ whole 8 (byte b 7) (h 7)

  -- no ignored bit is set in the first DWORD
  pub under_1 : byte under 1 / 16 % 8 * 16 + byte under 1 / 4 % 2 * 4 ≡ byte under 1
  under_1 =
      let x = byte b 1 in
      let e : byte under 1 ≡ x / 16 % 8 * 16 + x / 4 % 2 * 4 = under_at 1 (lit≤ tt) ∙ ap (bit_and x) (mask m t).byte1 ∙ mask_byte1 x in
      rw e (byte1_kept (x / 16 % 8) (x / 4 % 2) (mod-lt (x / 16) (lit≤ tt)) (mod-lt (x / 4) (lit≤ tt)))

  pub under_2 : byte b 2 / 64 ≡ 0 → byte under 2 < 64
  under_2 z = let e = under_at 2 (lit≤ tt) in let p = and_le_l (byte b 2) (byte (mask_of m t) 2) in rw e (omega arith)

  pub under_bytes : Bytes under
  under_bytes i = let p = masked_le (mask_of m t) b i in let q = h i in omega arith
