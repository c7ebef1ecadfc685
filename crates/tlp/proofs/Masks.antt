-- Bytes under masks: the frame of the masked bytes is, field by field, the frame of the bytes
-- masked by the frame of the masks.
use Prim.Native.Nat.{ℕ, zero, suc, ◌+◌, ◌*◌, ◌/◌, ◌%◌, ◌<◌, ◌≤◌}
use native.Mathlib.Omega.{arith}
use native.Mathlib.Nat.{le_refl, mod-lt, not-suc-le-zero, le_of_suc-le-suc}
use mathlib.Core.Path.{◌≡◌, refl, sym, ap}
use mathlib.Core.Bool.{cond}
use mathlib.Core.List.{List, [], ◌∷◌}
use lib.ListN.{length, drop}
use lib.Bits.{bit_and, and_block, and_shr, and_mod, and_zero_r, and_le_l}
use lib.Dec.{ltb, lit≤}
use borrow.Author.Tests.{ltb-false}
use Rattle.packet.specs.declared.Common.{Common}
use Rattle.packet.specs.declared.Frame.{Frame}
use Rattle.packet.specs.Frames.{byte, num16_at, num32_at, num64_at, attr_at, decode_frame}
use Rattle.packet.specs.Normal.{masked}
use Rattle.lemmas.proofs.Cases.{by_cases}
use Rattle.tlp.specs.Bytes.{Bytes}
use Rattle.tlp.proofs.Frames.{num16_lt, num32_lt, up_to}

-- ---- lists

pub masked_length : (ms b : List ℕ) → length (masked ms b) ≡ length b
unfolding masked
masked_length [] b = refl
masked_length (m ∷ ms) [] = refl
masked_length (m ∷ ms) (x ∷ b) = ap suc (masked_length ms b)

pub masked_drop : (ms b : List ℕ) → drop (length ms) (masked ms b) ≡ drop (length ms) b
unfolding masked
masked_drop [] b = refl
masked_drop (m ∷ ms) [] = refl
masked_drop (m ∷ ms) (x ∷ b) = masked_drop ms b

pub masked_at : (ms b : List ℕ) (i : ℕ) → i < length ms → byte (masked ms b) i ≡ bit_and (byte b i) (byte ms i)
unfolding masked
masked_at [] b i h = absurd (not-suc-le-zero h)
masked_at (m ∷ ms) [] i h = refl
masked_at (m ∷ ms) (x ∷ b) zero h = refl
masked_at (m ∷ ms) (x ∷ b) (suc i) h = masked_at ms b i (le_of_suc-le-suc h)

pub masked_le : (ms b : List ℕ) (i : ℕ) → byte (masked ms b) i ≤ byte b i
unfolding masked
masked_le [] b i = le_refl (byte b i)
masked_le (m ∷ ms) [] i = lit≤ tt
masked_le (m ∷ ms) (x ∷ b) zero = and_le_l x m
masked_le (m ∷ ms) (x ∷ b) (suc i) = masked_le ms b i

-- ---- numbers of several bytes

module _ (ms b : List ℕ) (hm : Bytes ms) (hb : Bytes b) where
  masked_16 : (i : ℕ) → i + 1 < length ms → num16_at (masked ms b) i ≡ bit_and (num16_at b i) (num16_at ms i)
  masked_16 i h =
      let k : i < length ms = omega arith in
      rw (masked_at ms b i k, masked_at ms b (i + 1) h) (sym (and_block 8 (byte b i) (byte ms i) (byte b (i + 1)) (byte ms (i + 1)) (hb (i + 1)) (hm (i + 1))))

  masked_32 : (i : ℕ) → i + 3 < length ms → num32_at (masked ms b) i ≡ bit_and (num32_at b i) (num32_at ms i)
  masked_32 i h =
      let k : i + 1 < length ms = omega arith in
      let l : i + 2 + 1 < length ms = omega arith in
      rw (masked_16 i k, masked_16 (i + 2) l)
      (sym (and_block 16 (num16_at b i) (num16_at ms i) (num16_at b (i + 2)) (num16_at ms (i + 2)) (num16_lt b hb (i + 2)) (num16_lt ms hm (i + 2))))

  masked_64 : (i : ℕ) → i + 7 < length ms → num64_at (masked ms b) i ≡ bit_and (num64_at b i) (num64_at ms i)
  masked_64 i h =
      let k : i + 3 < length ms = omega arith in
      let l : i + 4 + 3 < length ms = omega arith in
      rw (masked_32 i k, masked_32 (i + 4) l)
      (sym (and_block 32 (num32_at b i) (num32_at ms i) (num32_at b (i + 4)) (num32_at ms (i + 4)) (num32_lt b hb (i + 4)) (num32_lt ms hm (i + 4))))

-- ---- frames

-- the bitwise AND of two frames
abbrev meet_common : Common → Common → Common
meet_common f g =
    record {
      tc = bit_and f.tc g.tc;
      attr = bit_and f.attr g.attr;
      marks = bit_and f.marks g.marks;
      sender = bit_and f.sender g.sender;
    }

abbrev pub meet : Frame → Frame → Frame
meet f g =
    record {
      byte0 = bit_and f.byte0 g.byte0;
      common = meet_common f.common g.common;
      at = bit_and f.at g.at;
      dwords = bit_and f.dwords g.dwords;
      byte6 = bit_and f.byte6 g.byte6;
      byte7 = bit_and f.byte7 g.byte7;
      dword8 = bit_and f.dword8 g.dword8;
      dword12 = bit_and f.dword12 g.dword12;
      body = bit_and f.body g.body;
    }

-- a field that is present only if the bytes and the masks are long enough
reached : (end n l x y z : ℕ) → (end ≤ n → x ≡ bit_and y z)
    → cond (ltb n end) 0 (cond (ltb l end) 0 x) ≡ bit_and (cond (ltb l end) 0 y) (cond (ltb n end) 0 z)
reached end n l x y z e =
    by_cases (ltb n end)
    (λ p. rw p (sym (and_zero_r (cond (ltb l end) 0 y))))
    (λ p. rw p (by_cases (ltb l end) (λ q. rw q) (λ q. rw q (e (ltb-false n end p)))))

module _ (ms b : List ℕ) (hm : Bytes ms) (hb : Bytes b) (long : 12 ≤ length ms) where
  at_i : (i : ℕ) → i < 12 → byte (masked ms b) i ≡ bit_and (byte b i) (byte ms i)
  at_i i h = let k : i < length ms = omega arith in masked_at ms b i k

  tc_meet : bit_and (byte b 1) (byte ms 1) / 16 % 8 ≡ bit_and (byte b 1 / 16 % 8) (byte ms 1 / 16 % 8)
  tc_meet = rw (and_shr (byte b 1) (byte ms 1) 4) (and_mod (byte b 1 / 16) (byte ms 1 / 16) 3)

  attr_meet : bit_and (byte b 1) (byte ms 1) / 4 % 2 * 4 + bit_and (byte b 2) (byte ms 2) / 16 % 4 ≡ bit_and (attr_at b) (attr_at ms)
  attr_meet =
      rw (and_shr (byte b 1) (byte ms 1) 2, and_mod (byte b 1 / 4) (byte ms 1 / 4) 1, and_shr (byte b 2) (byte ms 2) 4, and_mod (byte b 2 / 16) (byte ms 2 / 16) 2)
      (sym (and_block 2 (byte b 1 / 4 % 2) (byte ms 1 / 4 % 2) (byte b 2 / 16 % 4) (byte ms 2 / 16 % 4) (mod-lt (byte b 2 / 16) (lit≤ tt)) (mod-lt (byte ms 2 / 16) (lit≤ tt))))

  at_meet : bit_and (byte b 2) (byte ms 2) / 4 % 4 ≡ bit_and (byte b 2 / 4 % 4) (byte ms 2 / 4 % 4)
  at_meet = rw (and_shr (byte b 2) (byte ms 2) 2) (and_mod (byte b 2 / 4) (byte ms 2 / 4) 2)

  words_meet : bit_and (byte b 2) (byte ms 2) % 4 * 256 + bit_and (byte b 3) (byte ms 3)
      ≡ bit_and (byte b 2 % 4 * 256 + byte b 3) (byte ms 2 % 4 * 256 + byte ms 3)
  words_meet = rw (and_mod (byte b 2) (byte ms 2) 2) (sym (and_block 8 (byte b 2 % 4) (byte ms 2 % 4) (byte b 3) (byte ms 3) (hb 3) (hm 3)))

  pub frame_meet : up_to (length ms) (decode_frame (masked ms b)) ≡ meet (decode_frame b) (decode_frame ms)
  unfolding decode_frame
  frame_meet =
      let k4 : 4 + 1 < length ms = omega arith in
      let k8 : 8 + 3 < length ms = omega arith in
      let e12 : 16 ≤ length ms → num32_at (masked ms b) 12 ≡ bit_and (num32_at b 12) (num32_at ms 12) = λ (h : 16 ≤ length ms). masked_32 ms b hm hb 12 h in
      let e16 : 24 ≤ length ms → num64_at (masked ms b) 16 ≡ bit_and (num64_at b 16) (num64_at ms 16) = λ (h : 24 ≤ length ms). masked_64 ms b hm hb 16 h in
      simp (
        masked_length ms b,
        reached 16 (length ms) (length b) (num32_at (masked ms b) 12) (num32_at b 12) (num32_at ms 12) e12,
        reached 24 (length ms) (length b) (num64_at (masked ms b) 16) (num64_at b 16) (num64_at ms 16) e16,
        masked_16 ms b hm hb 4 k4,
        masked_32 ms b hm hb 8 k8,
        at_i 0 (lit≤ tt),
        at_i 1 (lit≤ tt),
        at_i 2 (lit≤ tt),
        at_i 3 (lit≤ tt),
        at_i 6 (lit≤ tt),
        at_i 7 (lit≤ tt),
        tc_meet,
        attr_meet,
        at_meet,
        words_meet,
        and_shr (byte b 2) (byte ms 2) 6,
      )
