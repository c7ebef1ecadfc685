-- A frame and the bytes that encode it, for all kinds.
use Prim.Native.Nat.{ℕ, zero, suc, ◌+◌, ◌*◌, ◌/◌, ◌%◌, ◌<◌, ◌≤◌, ◌^◌}
use native.Mathlib.Omega.{arith}
use native.Mathlib.Nat.{mod-lt, mod-eq_of_lt, not-suc-le-zero, le_of_suc-le-suc}
use mathlib.Core.Path.{◌≡◌, refl, sym, ap, ◌∙◌}
use mathlib.Core.Bool.{Bool, true, false, cond}
use mathlib.Core.List.{List, [], ◌∷◌, ◌++◌}
use lib.ListN.{length, take}
use lib.Dec.{ltb, lit≤}
use borrow.Author.Tests.{le-ltb}
use Rattle.packet.specs.declared.Frame.{Frame}
use Rattle.packet.specs.declared.Form.{Form}
use Rattle.packet.specs.declared.Form.TheVariants.{Mrd32, Mrd64, Mwr32, Mwr64, CplNoData, CplData, InvReq, InvCpl, PageReq, PrgResp}
use Rattle.packet.specs.Frames.{byte, num16_at, num32_at, num64_at, attr_at, decode_common, decode_frame, four_bytes, encode_frame}
use Rattle.packet.specs.Forms.{payload_offset}
use Rattle.packet.specs.Kinds.{body_in, well_formed}
use Rattle.packet.specs.Reading.{read_form}
use Rattle.packet.proofs.Laws.{by_fixed}
use Rattle.tlp.specs.Bytes.{Bytes}
use Rattle.tlp.proofs.Common.{SoundCommon, unmarked}

-- each field of a frame fits the bits that it has in the bytes
pub record Sound (f : Frame) : Type 0 where
  pub byte0 : f.byte0 < 256
  pub common : SoundCommon f.common
  pub at : f.at < 4
  pub dwords : f.dwords < 1024
  pub byte6 : f.byte6 < 256
  pub byte7 : f.byte7 < 256
  pub dword8 : f.dword8 < 2 ^ 32
  pub dword12 : f.dword12 < 2 ^ 32
  pub body : f.body < 2 ^ 64

-- a frame as determined by its first n bytes
abbrev pub up_to : ℕ → Frame → Frame
up_to n f =
    record {
      byte0 = f.byte0;
      common = f.common;
      at = f.at;
      dwords = f.dwords;
      byte6 = f.byte6;
      byte7 = f.byte7;
      dword8 = f.dword8;
      dword12 = cond (ltb n 16) 0 f.dword12;
      body = cond (ltb n 24) 0 f.body;
    }

-- reading does not depend on what follows the bytes that hold fields
pub read_up_to : (m : Form) (f : Frame) (n : ℕ) → read_form m (up_to (payload_offset m) f) n ≡ read_form m f n
unfolding read_form body_in well_formed
read_up_to Mrd32 f n = refl
read_up_to Mrd64 f n = refl
read_up_to Mwr32 f n = refl
read_up_to Mwr64 f n = refl
read_up_to CplNoData f n = refl
read_up_to CplData f n = refl
read_up_to InvReq f n = refl
read_up_to InvCpl f n = refl
read_up_to PageReq f n = refl
read_up_to PrgResp f n = refl

-- ---- from a frame to bytes and back

-- the number in four bytes
abbrev from_bytes : ℕ → ℕ → ℕ → ℕ → ℕ
from_bytes a b c d = (a * 256 + b) * 65536 + (c * 256 + d)

pub four_back : (n : ℕ) → n < 2 ^ 32 → from_bytes (n / 16777216 % 256) (n / 65536 % 256) (n / 256 % 256) (n % 256) ≡ n
four_back n h =
    let e : n / 16777216 % 256 ≡ n / 16777216 = omega arith in
    rw e (omega arith)

-- Attr from bytes 1 and 2, whatever the other fields are
attr_at_lem : (t o a w : ℕ) → (t % 8 * 16 + o / 4 % 2 * 4) / 4 % 2 * 4 + (o % 4 * 16 + a % 4 * 4 + w / 256 % 4) / 16 % 4 ≡ o % 8
attr_at_lem t o a w =
    let p : (t % 8 * 16 + o / 4 % 2 * 4) / 4 % 2 ≡ o / 4 % 2 = omega arith in
    let q : (o % 4 * 16 + a % 4 * 4 + w / 256 % 4) / 16 % 4 ≡ o % 4 = omega arith in
    rw (p, q) (omega arith)

-- TC and the high bit of Attr in byte 1; the rest of Attr, AT and the high bits of Length in byte 2
module _ (t o a w : ℕ) (ht : t < 8) (ho : o < 8) (ha : a < 4) (hw : w < 1024) where
  abbrev byte1 : ℕ
  byte1 = t % 8 * 16 + o / 4 % 2 * 4

  abbrev byte2 : ℕ
  byte2 = o % 4 * 16 + a % 4 * 4 + w / 256 % 4

  bytes12_back :
      (byte1 / 16 % 8 ≡ t)
      × (byte1 / 4 % 2 * 4 + byte2 / 16 % 4 ≡ o)
      × (byte2 / 64 ≡ 0)
      × (byte2 / 4 % 4 ≡ a)
      × (byte2 % 4 * 256 + w % 256 ≡ w)
  bytes12_back = (omega arith, attr_at_lem t o a w ∙ mod-eq_of_lt ho, omega arith, omega arith, omega arith)

two_back : (n : ℕ) → n < 65536 → n / 256 % 256 * 256 + n % 256 ≡ n
two_back n h = omega arith

pub halves : (n : ℕ) → n / 2 ^ 32 * 2 ^ 32 + n % 2 ^ 32 ≡ n
halves n = omega arith

-- a frame with other fields from byte 12 on
abbrev ending : Frame → ℕ → ℕ → Frame
ending f d b =
    record {
      byte0 = f.byte0;
      common = f.common;
      at = f.at;
      dwords = f.dwords;
      byte6 = f.byte6;
      byte7 = f.byte7;
      dword8 = f.dword8;
      dword12 = d;
      body = b;
    }

module _ (f : Frame) (s : Sound f) (z : f.common.marks ≡ 0) where
  -- what the first 12 bytes determine, whatever follows them
  first : (rest : List ℕ) →
      decode_frame (take 12 (encode_frame f) ++ rest)
      ≡ ending f (decode_frame (take 12 (encode_frame f) ++ rest)).dword12 (decode_frame (take 12 (encode_frame f) ++ rest)).body
  unfolding decode_frame
  first rest =
      let b = bytes12_back f.common.tc f.common.attr f.at f.dwords s.common.tc s.common.attr s.at s.dwords in
      simp (b.0, b.1, b.2, b.3, b.4, two_back f.common.sender s.common.sender, four_back f.dword8 s.dword8, unmarked f.common z)

  abbrev Back : ℕ → List ℕ → Type 0
  Back n pay = up_to n (decode_frame (take n (encode_frame f) ++ pay)) ≡ up_to n f

  back12 : (pay : List ℕ) → Back 12 pay
  back12 pay = ap (up_to 12) (first pay)

  back16 : (pay : List ℕ) → Back 16 pay
  unfolding decode_frame
  back16 pay =
      let rest = four_bytes f.dword12 ++ pay in
      let h : 16 ≤ length (take 12 (encode_frame f) ++ rest) = omega arith in
      ap (up_to 16) (first rest) ∙ simp (le-ltb (length (take 12 (encode_frame f) ++ rest)) 16 h, four_back f.dword12 s.dword12)

  back24 : (pay : List ℕ) → Back 24 pay
  unfolding decode_frame
  back24 pay =
      let hi : f.body / 2 ^ 32 < 2 ^ 32 = omega (arith, s.body) in
      let lo : f.body % 2 ^ 32 < 2 ^ 32 = omega arith in
      let rest = four_bytes f.dword12 ++ four_bytes (f.body / 2 ^ 32) ++ four_bytes (f.body % 2 ^ 32) ++ pay in
      let n = length (take 12 (encode_frame f) ++ rest) in
      let h : 24 ≤ n = omega arith in
      let k : 16 ≤ n = omega arith in
      ap (up_to 24) (first rest)
      ∙ simp (
        le-ltb n 16 k,
        le-ltb n 24 h,
        four_back f.dword12 s.dword12,
        four_back (f.body / 2 ^ 32) hi,
        four_back (f.body % 2 ^ 32) lo,
        halves f.body,
      )

  pub encode_frame_back : (m : Form) (pay : List ℕ) → Back (payload_offset m) pay
  encode_frame_back m pay = by_fixed (λ (n : ℕ). Back n pay) (back12 pay) (back16 pay) (back24 pay) m

pub encoded_attr : (f : Frame) (m : Form) (pay : List ℕ)
    → attr_at (take (payload_offset m) (encode_frame f) ++ pay) ≡ f.common.attr % 8
encoded_attr f m pay =
    let e = attr_at_lem f.common.tc f.common.attr f.at f.dwords in
    by_fixed (λ (n : ℕ). attr_at (take n (encode_frame f) ++ pay) ≡ f.common.attr % 8) e e e m

-- the number of bytes before the payload
pub fixed_length : (m : Form) (f : Frame) → length (take (payload_offset m) (encode_frame f)) ≡ payload_offset m
fixed_length m f = by_fixed (λ (n : ℕ). length (take n (encode_frame f)) ≡ n) refl refl refl m

pub fixed_low : (m : Form) → 12 ≤ payload_offset m
fixed_low m = by_fixed (λ (n : ℕ). 12 ≤ n) (lit≤ tt) (lit≤ tt) (lit≤ tt) m

-- ---- from bytes to a frame and back

pub num16_lt : (b : List ℕ) → Bytes b → (i : ℕ) → num16_at b i < 65536
num16_lt b h i = let p = h i in let q = h (i + 1) in omega arith

pub num32_lt : (b : List ℕ) → Bytes b → (i : ℕ) → num32_at b i < 2 ^ 32
num32_lt b h i = let p = num16_lt b h i in let q = num16_lt b h (i + 2) in omega arith

pub num64_lt : (b : List ℕ) → Bytes b → (i : ℕ) → num64_at b i < 2 ^ 64
num64_lt b h i = let p = num32_lt b h i in let q = num32_lt b h (i + 4) in omega arith

-- a field that may be missing
missing_lt : (t : Bool) (x n : ℕ) → 0 < n → x < n → cond t 0 x < n
missing_lt true x n z h = z
missing_lt false x n z h = h

words_lt : (x y : ℕ) → y < 256 → x % 4 * 256 + y < 1024
words_lt x y h = omega arith

marks_lt : (x : ℕ) → x < 256 → x / 64 < 4
marks_lt x h = omega arith

attr_at_lt : (x y : ℕ) → x / 4 % 2 * 4 + y / 16 % 4 < 8
attr_at_lt x y = omega arith

pub frame_sound : (b : List ℕ) → Bytes b → Sound (decode_frame b)
unfolding decode_frame
frame_sound b h =
    record {
      byte0 = h 0;
      common = record { tc = mod-lt (byte b 1 / 16) (lit≤ tt); attr = attr_at_lt (byte b 1) (byte b 2); marks = marks_lt (byte b 2) (h 2); sender = num16_lt b h 4 };
      at = mod-lt (byte b 2 / 4) (lit≤ tt);
      dwords = words_lt (byte b 2) (byte b 3) (h 3);
      byte6 = h 6;
      byte7 = h 7;
      dword8 = num32_lt b h 8;
      dword12 = missing_lt (ltb (length b) 16) (num32_at b 12) (2 ^ 32) (lit≤ tt) (num32_lt b h 12);
      body = missing_lt (ltb (length b) 24) (num64_at b 16) (2 ^ 64) (lit≤ tt) (num64_lt b h 16);
    }

-- the first n values of a function
abbrev row : ℕ → (ℕ → ℕ) → List ℕ
row zero g = []
row (suc n) g = g 0 ∷ row n (λ i. g (suc i))

take_row : (n : ℕ) (b : List ℕ) → n ≤ length b → take n b ≡ row n (byte b)
take_row zero b h = refl
take_row (suc n) [] h = absurd (not-suc-le-zero h)
take_row (suc n) (x ∷ b) h = ap {B = List ℕ} (λ r. x ∷ r) (take_row n b (le_of_suc-le-suc h))

-- the frame of bytes that are all there
abbrev full : List ℕ → Frame
full b =
    record {
      byte0 = byte b 0;
      common = decode_common b;
      at = byte b 2 / 4 % 4;
      dwords = byte b 2 % 4 * 256 + byte b 3;
      byte6 = byte b 6;
      byte7 = byte b 7;
      dword8 = num32_at b 8;
      dword12 = num32_at b 12;
      body = num64_at b 16;
    }

up_to_full : (m : Form) (b : List ℕ) → payload_offset m ≤ length b
    → up_to (payload_offset m) (decode_frame b) ≡ up_to (payload_offset m) (full b)
unfolding decode_frame
up_to_full m b h =
    by_fixed (λ (n : ℕ). n ≤ length b → up_to n (decode_frame b) ≡ up_to n (full b))
    (λ g. refl)
    (λ g. rw (le-ltb (length b) 16 g))
    (λ g. let k : 16 ≤ length b = omega arith in rw (le-ltb (length b) 16 k, le-ltb (length b) 24 g))
    m h

-- four bytes, encoded again from the number that they hold
module _ (a b c d : ℕ) (ha : a < 256) (hb : b < 256) (hc : c < 256) (hd : d < 256) where
  four_is :
      (from_bytes a b c d / 16777216 % 256 ≡ a)
      × (from_bytes a b c d / 65536 % 256 ≡ b)
      × (from_bytes a b c d / 256 % 256 ≡ c)
      × (from_bytes a b c d % 256 ≡ d)
  four_is =
      let p : from_bytes a b c d / 65536 ≡ a * 256 + b = omega arith in
      let q : from_bytes a b c d / 256 ≡ (a * 256 + b) * 256 + c = omega arith in
      let r : from_bytes a b c d / 16777216 ≡ a = omega arith in
      (rw r (omega arith), rw p (omega arith), rw q (omega arith), omega arith)

-- bytes 1 to 3, encoded again
module _ (x y z : ℕ) (hx : x / 16 % 8 * 16 + x / 4 % 2 * 4 ≡ x) (hy : y < 64) (hz : z < 256) where
  abbrev attr : ℕ
  attr = x / 4 % 2 * 4 + y / 16 % 4

  bytes12_is :
      (x / 16 % 8 % 8 * 16 + attr / 4 % 2 * 4 ≡ x)
      × (attr % 4 * 16 + y / 4 % 4 % 4 * 4 + (y % 4 * 256 + z) / 256 % 4 ≡ y)
      × ((y % 4 * 256 + z) % 256 ≡ z)
  bytes12_is =
      let p : (y % 4 * 256 + z) / 256 ≡ y % 4 = omega arith in
      let q : attr / 4 % 2 ≡ x / 4 % 2 = omega arith in
      let r : attr % 4 ≡ y / 16 % 4 = omega arith in
      let s : x / 16 % 8 % 8 ≡ x / 16 % 8 = omega arith in
      (rw (q, s) hx, rw (p, r) (omega arith), omega arith)

two_is : (x y : ℕ) → x < 256 → y < 256 → ((x * 256 + y) / 256 % 256 ≡ x) × ((x * 256 + y) % 256 ≡ y)
two_is x y hx hy =
    let p : (x * 256 + y) / 256 ≡ x = omega arith in
    (rw p (omega arith), omega arith)

pub halves_is : (x y : ℕ) → y < 2 ^ 32 → ((x * 2 ^ 32 + y) / 2 ^ 32 ≡ x) × ((x * 2 ^ 32 + y) % 2 ^ 32 ≡ y)
halves_is x y h = (omega arith, omega arith)

-- bytes whose first DWORD has no ignored bit set, and neither TD nor EP, are encoded again from their frame
module _ (b : List ℕ) (h : Bytes b) (h1 : byte b 1 / 16 % 8 * 16 + byte b 1 / 4 % 2 * 4 ≡ byte b 1) (h2 : byte b 2 < 64) where
  encode_frame_full : encode_frame (full b) ≡ row 24 (byte b)
  encode_frame_full =
      let p = bytes12_is (byte b 1) (byte b 2) (byte b 3) h1 h2 (h 3) in
      let q = two_is (byte b 4) (byte b 5) (h 4) (h 5) in
      let x = halves_is (num32_at b 16) (num32_at b 20) (num32_lt b h 20) in
      let b8 = four_is (byte b 8) (byte b 9) (byte b 10) (byte b 11) (h 8) (h 9) (h 10) (h 11) in
      let b12 = four_is (byte b 12) (byte b 13) (byte b 14) (byte b 15) (h 12) (h 13) (h 14) (h 15) in
      let b16 = four_is (byte b 16) (byte b 17) (byte b 18) (byte b 19) (h 16) (h 17) (h 18) (h 19) in
      let b20 = four_is (byte b 20) (byte b 21) (byte b 22) (byte b 23) (h 20) (h 21) (h 22) (h 23) in
      simp (
        p.0,
        p.1,
        p.2,
        q.0,
        q.1,
        x.0,
        x.1,
        b8.0,
        b8.1,
        b8.2,
        b8.3,
        b12.0,
        b12.1,
        b12.2,
        b12.3,
        b16.0,
        b16.1,
        b16.2,
        b16.3,
        b20.0,
        b20.1,
        b20.2,
        b20.3,
      )

  pub encode_frame_up_to : (m : Form) → payload_offset m ≤ length b
      → take (payload_offset m) (encode_frame (up_to (payload_offset m) (decode_frame b))) ≡ take (payload_offset m) b
  encode_frame_up_to m k =
      ap (λ (f : Frame). take (payload_offset m) (encode_frame f)) (up_to_full m b k)
      ∙ by_fixed (λ (n : ℕ). take n (encode_frame (up_to n (full b))) ≡ take n (encode_frame (full b))) refl refl refl m
      ∙ ap (λ (l : List ℕ). take (payload_offset m) l) encode_frame_full
      ∙ by_fixed (λ (n : ℕ). take n (row 24 (byte b)) ≡ row n (byte b)) refl refl refl m
      ∙ sym (take_row (payload_offset m) b k)
