-- The common fields of every kind: from a head to numbers and back.
use Prim.Native.Nat.{ℕ, ◌+◌, ◌*◌, ◌/◌, ◌%◌, ◌<◌, ◌≤◌}
use native.Mathlib.Omega.{arith}
use mathlib.Core.Path.{◌≡◌, refl, sym, ap, ◌∙◌}
use lib.Dec.{lit≤}
use Rattle.packet.specs.declared.Attr.{Attr}
use Rattle.packet.specs.declared.Common.{Common}
use Rattle.packet.specs.declared.Head.{Head}
use Rattle.packet.specs.declared.Body.{Body}
use Rattle.packet.specs.declared.Body.TheVariants.{Tr, Mem, Cpl, Inv, Ic, Prq, Prs}
use Rattle.packet.specs.Kinds.{attr_in, head_in, bit_of, attr_bits, common_of, packet_frame}
use Rattle.tlp.proofs.Flags.{bit_back, bit_le, bit_of_lem}

-- ---- Attr

pub attr_lt : (a : Attr) → attr_bits a < 8
attr_lt a = omega (arith, bit_le a.ido, bit_le a.relaxed, bit_le a.nosnoop)

-- three bits in a number
module _ (i r n : ℕ) (hi : i ≤ 1) (hr : r ≤ 1) (hn : n ≤ 1) where
  abbrev three : ℕ
  three = i * 4 + r * 2 + n

  three_bits : (three / 4 % 2 ≡ i) × (three / 2 % 2 ≡ r) × (three % 2 ≡ n)
  three_bits = (omega arith, omega arith, omega arith)

attr_back : (a : Attr) → attr_in (attr_bits a) ≡ a
attr_back a =
    let t = three_bits (bit_of a.ido) (bit_of a.relaxed) (bit_of a.nosnoop) (bit_le a.ido) (bit_le a.relaxed) (bit_le a.nosnoop) in
    rw (t.0, t.1, t.2, bit_back a.ido, bit_back a.relaxed, bit_back a.nosnoop)

attr_of : (n : ℕ) → n < 8 → attr_bits (attr_in n) ≡ n
attr_of n h =
    let p : n / 4 % 2 ≡ n / 4 = omega arith in
    let q : n / 4 * 2 + n / 2 % 2 ≡ n / 2 = omega arith in
    rw (bit_of_lem (n / 4), bit_of_lem (n / 2), bit_of_lem n, p) (omega arith)

-- ---- heads

-- each field fits the bits that it has in the bytes
pub record SoundCommon (f : Common) : Type 0 where
  pub tc : f.tc < 8
  pub attr : f.attr < 8
  pub marks : f.marks < 4
  pub sender : f.sender < 65536

pub common_sound : (h : Head) → h.tc < 8 → h.sender < 65536 → SoundCommon (common_of h)
common_sound h t s = record { tc = t; attr = attr_lt h.attr; marks = lit≤ tt; sender = s }

pub head_back : (h : Head) → head_in (common_of h) ≡ h
head_back h = ap (λ (a : Attr). record { tc = h.tc; attr = a; sender = h.sender }) (attr_back h.attr)

-- common fields without TD and EP
module _ (f : Common) (z : f.marks ≡ 0) where
  pub unmarked : record { tc = f.tc; attr = f.attr; marks = 0; sender = f.sender } ≡ f
  unmarked = ap (λ (m : ℕ). record { tc = f.tc; attr = f.attr; marks = m; sender = f.sender }) (sym z)

  -- are made again from their head
  pub common_back : f.attr < 8 → common_of (head_in f) ≡ f
  common_back h = ap (λ (a : ℕ). record { tc = f.tc; attr = a; marks = 0; sender = f.sender }) (attr_of f.attr h) ∙ unmarked

-- ---- a frame has the common fields that it is given

pub frame_common : (f : Common) (b : Body) → (packet_frame f b).common ≡ f
unfolding packet_frame
frame_common f (Tr t) = refl
frame_common f (Mem m) = refl
frame_common f (Cpl c) = refl
frame_common f (Inv i) = refl
frame_common f (Ic i) = refl
frame_common f (Prq q) = refl
frame_common f (Prs s) = refl
