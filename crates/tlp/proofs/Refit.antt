-- The frame of a packet that was read is the frame it was read from, with its ignored bits cleared.
use Rattle.std.specs.Prelude.{None, Option, Some}
use Prim.Native.Nat.{ℕ, zero, suc, ◌+◌, ◌*◌, ◌/◌, ◌%◌, ◌<◌, ◌≤◌, ◌^◌}
use native.Mathlib.Omega.{arith}
use mathlib.Core.Path.{◌≡◌, refl, sym}
use mathlib.Core.Bool.{Bool, true, false, cond, ◌&&◌}
use lib.Dec.{ltb, eqb}
use borrow.Author.Tests.{ltb-true, eqb-true, lt-ltb, le-leb, lt-leb}
use Rattle.packet.specs.declared.Frame.{Frame}
use Rattle.packet.specs.declared.Form.{Form}
use Rattle.packet.specs.declared.Form.TheVariants.{Mrd32, Mrd64, Mwr32, Mwr64, CplNoData, CplData, InvReq, InvCpl, PageReq, PrgResp}
use Rattle.packet.specs.declared.Access.{Access}
use Rattle.packet.specs.declared.Access.TheVariants.{Read, Write}
use Rattle.packet.specs.declared.Outcome.{Outcome}
use Rattle.packet.specs.declared.Outcome.TheVariants.{Data, Status}
use Rattle.packet.specs.Forms.{choose, byte0_of, payload_offset, packet_length, byte_enables}
use Rattle.packet.specs.Kinds.{head_in, address64_in, tr_in, mem_in, cpl_in, body_in, access_payload_length, access_form, access_tag, outcome_form, outcome_dwords, outcome_status, outcome_payload_length, outcome_in_range, well_formed_mem, well_formed_read_request, well_formed, body_in_range, payload_length, needs64_bits, form_of, bit_of, address_dword8, address_dword12, common_of, packet_frame}
use Rattle.lemmas.proofs.Cases.{by_cases, and_both}
use Rattle.tlp.proofs.Flags.{bit_of_lem}
use Rattle.tlp.proofs.Common.{common_back}
use Rattle.tlp.proofs.Frames.{Sound, halves_is}
use Rattle.tlp.proofs.Tidy.{keeping, tidy_status, tidy_target, tidy}

-- ---- what selects a form

-- byte 7 of a message
abbrev pub Seven : Form → ℕ → Type 0
Seven Mrd32 b = Unit {0}
Seven Mrd64 b = Unit {0}
Seven Mwr32 b = Unit {0}
Seven Mwr64 b = Unit {0}
Seven CplNoData b = Unit {0}
Seven CplData b = Unit {0}
Seven InvReq b = b ≡ 0x01
Seven InvCpl b = b ≡ 0x02
Seven PageReq b = b ≡ 0x04
Seven PrgResp b = b ≡ 0x05

module _ (b0 b7 : ℕ) where
  abbrev Chosen : Option Form → Type 0
  Chosen (Some m) = (b0 ≡ byte0_of m) × Seven m b7
  Chosen None = Unit {0}

  tested : (t : Bool) (x y : Option Form) → (t ≡ true → Chosen x) → Chosen y → Chosen (cond t x y)
  tested true x y p q = p refl
  tested false x y p q = q

  pub chosen_by : Chosen (choose b0 b7)
  unfolding choose
  chosen_by =
      tested (eqb b0 0x00) _ _ (λ e. (eqb-true b0 0x00 e, tt))
      (tested (eqb b0 0x20) _ _ (λ e. (eqb-true b0 0x20 e, tt))
      (tested (eqb b0 0x40) _ _ (λ e. (eqb-true b0 0x40 e, tt))
      (tested (eqb b0 0x60) _ _ (λ e. (eqb-true b0 0x60 e, tt))
      (tested (eqb b0 0x0A) _ _ (λ e. (eqb-true b0 0x0A e, tt))
      (tested (eqb b0 0x4A) _ _ (λ e. (eqb-true b0 0x4A e, tt))
      (tested (eqb b0 0x72) _ _ (λ e. tested (eqb b7 0x01) _ _ (λ d. (eqb-true b0 0x72 e, eqb-true b7 0x01 d)) tt)
      (tested (eqb b0 0x32) _ _ (λ e. tested (eqb b7 0x02) _ _ (λ d. (eqb-true b0 0x32 e, eqb-true b7 0x02 d)) (tested (eqb b7 0x05) _ _ (λ d. (eqb-true b0 0x32 e, eqb-true b7 0x05 d)) tt))
      (tested (eqb b0 0x30) _ _ (λ e. tested (eqb b7 0x04) _ _ (λ d. (eqb-true b0 0x30 e, eqb-true b7 0x04 d)) tt)
      tt))))))))

-- ---- flags and addresses

at_half : (k : ℕ) → k < 2 → bit_of (eqb (k * 2) 2) * 2 ≡ k * 2
at_half zero h = refl
at_half (suc zero) h = refl
at_half (suc (suc k)) h = absurd (omega arith)

at_is : (a : ℕ) → a < 4 → a % 2 ≡ 0 → bit_of (eqb a 2) * 2 ≡ a
at_is a h e =
    let k : a / 2 < 2 = omega arith in
    let p : a / 2 * 2 ≡ a = omega arith in
    rw p at (at_half (a / 2) k)

-- parts of an address: its page, its page and bit 0, and all but its bits 1:0
module _ (x : ℕ) where
  parts_le : (x / 4096 * 4096 ≤ x) × (x / 4096 * 4096 + x % 2 ≤ x) × (x / 4 * 4 ≤ x)
  parts_le = (omega arith, omega arith, omega arith)

  page_twice : x / 4096 * 4096 / 4096 * 4096 ≡ x / 4096 * 4096
  page_twice = omega arith

  page_clean : x / 4096 * 4096 % 4096 ≡ 0
  page_clean = omega arith

  mem_clean : x / 4 * 4 % 4 ≡ 0
  mem_clean = omega arith

-- the same below an upper half u
module _ (u x : ℕ) where
  abbrev above : ℕ
  above = u * 2 ^ 32 + x

  parts_above :
      (above / 4096 * 4096 ≡ u * 2 ^ 32 + x / 4096 * 4096)
      × (above / 4096 * 4096 + above % 2 ≡ u * 2 ^ 32 + (x / 4096 * 4096 + x % 2))
      × (above / 4 * 4 ≡ u * 2 ^ 32 + x / 4 * 4)
  parts_above = (omega arith, omega arith, omega arith)

-- CPL: byte 6 and byte 7, and the DWORD
module _ (x y : ℕ) (hx : x < 256) (hy : y < 256) where
  abbrev count : ℕ
  count = x % 16 * 256 + y

  count_is : (count / 256 % 16 ≡ x % 16) × (count % 256 ≡ y) × (count < 4096) × (x / 32 % 8 ≡ x / 32)
  count_is = (omega arith, omega arith, omega arith, omega arith)

target_is : (x : ℕ) → x / 65536 * 65536 + x / 256 % 256 * 256 + x % 128 ≡ tidy_target x
target_is x = let p : x / 256 ≡ x / 65536 * 256 + x / 256 % 256 = omega arith in omega arith

-- INV: the body
size_is : (x : ℕ) → x / 4096 * 4096 / 4096 * 4096 + x / 2048 % 2 * 2048 ≡ x / 2048 * 2048
size_is x = omega arith

-- PRQ: all 64 bits
page_is : (a : ℕ) → a / 4096 * 4096 / 4096 * 4096 + a / 8 % 512 % 512 * 8 + a / 4 % 2 * 4 + a / 2 % 2 * 2 + a % 2 ≡ a
page_is a =
    let p : a / 4096 * 4096 / 4096 * 4096 ≡ a / 4096 * 4096 = omega arith in
    let q : a / 8 % 512 % 512 ≡ a / 8 % 512 = omega arith in
    let r : a / 4096 * 4096 + a / 8 % 512 * 8 ≡ a / 8 * 8 = omega arith in
    let k : a / 8 * 8 + a / 4 % 2 * 4 ≡ a / 4 * 4 = omega arith in
    let l : a / 4 * 4 + a / 2 % 2 * 2 ≡ a / 2 * 2 = omega arith in
    let n : a / 2 * 2 + a % 2 ≡ a = omega arith in
    rw (p, q, r, k, l, n)

-- PRS: the DWORD
code_is : (x : ℕ) → x / 65536 * 65536 + x / 4096 % 16 % 16 * 4096 + x % 512 % 512 ≡ x / 4096 * 4096 + x % 512
code_is x =
    let p : x / 4096 % 16 % 16 ≡ x / 4096 % 16 = omega arith in
    let q : x % 512 % 512 ≡ x % 512 = omega arith in
    let r : x / 65536 * 65536 + x / 4096 % 16 * 4096 ≡ x / 4096 * 4096 = omega arith in
    rw (p, q, r)

-- ---- from a frame to a packet and back

-- what holds of the packet in a frame
pub record Refit (m : Form) (f : Frame) : Type 0 where
  pub form : form_of (body_in m f) ≡ m
  pub frame : packet_frame (common_of (head_in f.common)) (body_in m f) ≡ tidy m (eqb f.at 1) f
  pub within : body_in_range (body_in m f) ≡ true
  pub load : payload_offset m + payload_length (body_in m f) ≡ packet_length m f.dwords

module _ (f : Frame) (s : Sound f) (z : f.common.marks ≡ 0) where
  same_common : common_of (head_in f.common) ≡ f.common
  same_common = common_back f.common z s.common.attr

  words_fit : ltb f.dwords 1024 ≡ true
  words_fit = lt-ltb f.dwords 1024 s.dwords

  status_lt : f.byte6 / 32 < 8
  status_lt = omega (arith, s.byte6)

  -- TR, with the address in one DWORD or two: m is its form, and a the address field
  tr : (m : Form) (a : ℕ) →
      body_in m f ≡ tr_in f a →
      cond (needs64_bits (a / 4096 * 4096)) Mrd64 Mrd32 ≡ m →
      tidy m (eqb f.at 1) f ≡ keeping f f.at f.dwords f.byte6 (address_dword8 (a / 4096 * 4096 + a % 2)) (address_dword12 (a / 4096 * 4096 + a % 2)) 0 →
      payload_offset m + 0 ≡ packet_length m f.dwords →
      f.byte0 ≡ byte0_of m → f.at ≡ 1 → f.byte7 ≡ 0xFF → Refit m f
  unfolding form_of packet_frame body_in_range payload_length
  tr m a body form clean load b0 e b7 =
      record {
        form = rw (body, form);
        frame = rw (body, clean, b0, b7, same_common, e, form, bit_of_lem a, page_twice a);
        within = rw (body, words_fit, page_clean a);
        load = rw (body, load);
      }

  -- MEM read or write, with the address in one DWORD or two: m is its form, and a the address field
  mem : (m : Form) (access : Access) (a : ℕ) →
      body_in m f ≡ mem_in f access a →
      access_form access (a / 4 * 4) ≡ m →
      tidy m (eqb f.at 1) f ≡ keeping f f.at f.dwords (access_tag access) (address_dword8 (a / 4 * 4)) (address_dword12 (a / 4 * 4)) 0 →
      payload_offset m + access_payload_length access f.dwords ≡ packet_length m f.dwords →
      f.byte0 ≡ byte0_of m → f.at % 2 ≡ 0 → f.byte7 ≡ byte_enables f.dwords → Refit m f
  unfolding form_of packet_frame body_in_range payload_length
  mem m access a body form clean load b0 e b7 =
      record {
        form = rw (body, form);
        frame = rw (body, clean, b0, b7, same_common, form, at_is f.at s.at e);
        within = rw (body, words_fit, mem_clean a);
        load = rw (body, load);
      }

  -- an address in the first DWORD, or in both
  short : (x : ℕ) → x ≤ f.dword8 → needs64_bits x ≡ false
  short x h = let k = s.dword8 in let g : x < 2 ^ 32 = omega arith in lt-leb (2 ^ 32) x g

  long : (x r : ℕ) → x ≡ f.dword8 * 2 ^ 32 + r → 0 < f.dword8 → r ≤ f.dword12
      → (needs64_bits x ≡ true) × (x / 2 ^ 32 ≡ f.dword8) × (x % 2 ^ 32 ≡ r)
  long x r e u h =
      let k = s.dword12 in
      let l : r < 2 ^ 32 = omega arith in
      let g : (2 ^ 32) ≤ f.dword8 * 2 ^ 32 + r = omega arith in
      let q = halves_is f.dword8 r l in
      rw e (le-leb (2 ^ 32) (f.dword8 * 2 ^ 32 + r) g, q.0, q.1)

  -- CPL, with data or without: m is its form
  cpl : (m : Form) (outcome : Outcome) →
      body_in m f ≡ cpl_in f outcome →
      outcome_form outcome ≡ m →
      tidy m (eqb f.at 1) f ≡ keeping f 0 (outcome_dwords outcome) (tidy_status f.byte6) (tidy_target f.dword8) 0 0 →
      payload_offset m + outcome_payload_length outcome ≡ packet_length m f.dwords →
      f.byte0 ≡ byte0_of m → outcome_status outcome ≡ f.byte6 / 32 → outcome_in_range outcome ≡ true → Refit m f
  unfolding form_of packet_frame body_in_range payload_length
  cpl m outcome body form clean load b0 e fits =
      let x = count_is f.byte6 f.byte7 s.byte6 s.byte7 in
      let n = f.byte6 % 16 * 256 + f.byte7 in
      let low : f.dword8 % 128 < 128 = omega arith in
      record {
        form = rw (body, form);
        frame = simp (body, clean, b0, same_common, form, e, x.0, x.1, x.3, target_is f.dword8);
        within = rw (body, lt-ltb n 4096 x.2, lt-ltb (f.dword8 % 128) 128 low, fits);
        load = rw (body, load);
      }

  inv : f.byte0 ≡ 0x72 → f.byte7 ≡ 0x01 → f.dwords ≡ 2 → Refit InvReq f
  unfolding form_of packet_frame body_in body_in_range payload_length tidy
  inv b0 b7 e =
      let low : f.byte6 % 32 < 32 = omega arith in
      record {
        form = refl;
        frame = simp (b0, b7, same_common, e, bit_of_lem (f.body / 2048), size_is f.body);
        within = simp (lt-ltb (f.byte6 % 32) 32 low, page_clean f.body);
        load = simp e;
      }

  ic : f.byte0 ≡ 0x32 → f.byte7 ≡ 0x02 → Refit InvCpl f
  unfolding form_of packet_frame body_in body_in_range payload_length tidy
  ic b0 b7 =
      let low : f.dword8 % 8 < 8 = omega arith in
      record {
        form = refl;
        frame = simp (b0, b7, same_common);
        within = simp (lt-ltb (f.dword8 % 8) 8 low);
        load = refl;
      }

  prq : f.byte0 ≡ 0x30 → f.byte7 ≡ 0x04 → Refit PageReq f
  unfolding form_of packet_frame body_in body_in_range payload_length tidy
  prq b0 b7 =
      let a = f.dword8 * 2 ^ 32 + f.dword12 in
      let low : a / 8 % 512 < 512 = omega arith in
      let g = halves_is f.dword8 f.dword12 s.dword12 in
      record {
        form = refl;
        frame = simp (b0, b7, same_common, bit_of_lem (a / 4), bit_of_lem (a / 2), bit_of_lem a, page_is a, g.0, g.1);
        within = simp (page_clean a, lt-ltb (a / 8 % 512) 512 low);
        load = refl;
      }

  prs : f.byte0 ≡ 0x32 → f.byte7 ≡ 0x05 → Refit PrgResp f
  unfolding form_of packet_frame body_in body_in_range payload_length tidy
  prs b0 b7 =
      let d = f.dword8 in
      let hi : d / 4096 % 16 < 16 = omega arith in
      let low : d % 512 < 512 = omega arith in
      record {
        form = refl;
        frame = simp (b0, b7, same_common, code_is d);
        within = simp (lt-ltb (d / 4096 % 16) 16 hi, lt-ltb (d % 512) 512 low);
        load = refl;
      }

  -- the tests of a MEM
  mem_shape : well_formed_mem f ≡ true → (f.at % 2 ≡ 0) × (f.byte7 ≡ byte_enables f.dwords)
  mem_shape e =
      let p = and_both (eqb (f.at % 2) 0) (eqb f.byte7 (byte_enables f.dwords)) e in
      (eqb-true (f.at % 2) 0 p.0, eqb-true f.byte7 (byte_enables f.dwords) p.1)

  -- 00h and 20h are a TR or a MEM read
  fetched : {A : Type 0} → well_formed_read_request f ≡ true → (f.at ≡ 1 → f.byte7 ≡ 0xFF → A)
      → (eqb f.at 1 ≡ false → f.at % 2 ≡ 0 → f.byte7 ≡ byte_enables f.dwords → A) → A
  fetched e t m =
      by_cases (eqb f.at 1)
      (λ p. t (eqb-true f.at 1 p) (eqb-true f.byte7 0xFF (rw p at e)))
      (λ p. let g = mem_shape (rw p at e) in m p g.0 g.1)

  long_shape : (t : Bool) → (ltb 0 f.dword8 && t) ≡ true → (0 < f.dword8) × (t ≡ true)
  long_shape t e = let p = and_both (ltb 0 f.dword8) t e in (ltb-true 0 f.dword8 p.0, p.1)

  refit_32 : well_formed_read_request f ≡ true → f.byte0 ≡ 0x00 → Refit Mrd32 f
  unfolding body_in tidy
  refit_32 e b0 =
      let d = f.dword8 in
      let k = parts_le d in
      let x = short (d / 4096 * 4096) k.0 in
      let y = short (d / 4096 * 4096 + d % 2) k.1 in
      let w = short (d / 4 * 4) k.2 in
      fetched e
      (λ a q. tr Mrd32 d (simp a) (simp x) (simp (a, y)) refl b0 a q)
      (λ a p q. mem Mrd32 (Read (record { 0 = f.byte6 })) d (simp a) (simp w) (simp (a, w)) refl b0 p q)

  refit_64 : 0 < f.dword8 → well_formed_read_request f ≡ true → f.byte0 ≡ 0x20 → Refit Mrd64 f
  unfolding body_in tidy
  refit_64 u e b0 =
      let l = f.dword12 in
      let k = parts_le l in
      let g = parts_above f.dword8 l in
      let x = long (address64_in f / 4096 * 4096) (l / 4096 * 4096) g.0 u k.0 in
      let y = long (address64_in f / 4096 * 4096 + address64_in f % 2) (l / 4096 * 4096 + l % 2) g.1 u k.1 in
      let w = long (address64_in f / 4 * 4) (l / 4 * 4) g.2 u k.2 in
      fetched e
      (λ a q. tr Mrd64 (address64_in f) (simp a) (simp x.0) (simp (a, y.0, y.1, y.2)) refl b0 a q)
      (λ a p q. mem Mrd64 (Read (record { 0 = f.byte6 })) (address64_in f) (simp a) (simp w.0) (simp (a, w.0, w.1, w.2)) refl b0 p q)

  pub refit : (m : Form) → well_formed m f ≡ true → f.byte0 ≡ byte0_of m → Seven m f.byte7 → Refit m f
  unfolding well_formed body_in tidy
  refit Mrd32 e b0 b7 = refit_32 e b0
  refit Mrd64 e b0 b7 = let u = long_shape (well_formed_read_request f) e in refit_64 u.0 u.1 b0
  refit Mwr32 e b0 b7 =
      let g = mem_shape e in
      let w = short (f.dword8 / 4 * 4) (parts_le f.dword8).2 in
      mem Mwr32 Write f.dword8 refl (simp w) (simp w) refl b0 g.0 g.1
  refit Mwr64 e b0 b7 =
      let u = long_shape (well_formed_mem f) e in
      let g = mem_shape u.1 in
      let w = long (address64_in f / 4 * 4) (f.dword12 / 4 * 4) (parts_above f.dword8 f.dword12).2 u.0 (parts_le f.dword12).2 in
      mem Mwr64 Write (address64_in f) refl (simp w.0) (simp (w.0, w.1, w.2)) refl b0 g.0 g.1
  refit CplNoData e b0 b7 =
      cpl CplNoData (Status (f.byte6 / 32)) refl refl refl refl b0 refl (lt-ltb (f.byte6 / 32) 8 status_lt)
  refit CplData e b0 b7 =
      cpl CplData (Data f.dwords) refl refl refl refl b0 (sym (eqb-true (f.byte6 / 32) 0 e)) words_fit
  refit InvReq e b0 b7 = inv b0 b7 (eqb-true f.dwords 2 e)
  refit InvCpl e b0 b7 = ic b0 b7
  refit PageReq e b0 b7 = prq b0 b7
  refit PrgResp e b0 b7 = prs b0 b7
