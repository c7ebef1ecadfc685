-- A packet and its frame, kind by kind.
use Rattle.std.specs.Prelude.{Some}
use Prim.Native.Nat.{ℕ, ◌+◌, ◌*◌, ◌/◌, ◌%◌, ◌<◌, ◌≤◌, ◌^◌}
use native.Mathlib.Omega.{arith}
use mathlib.Core.Path.{◌≡◌, refl, sym, ap, ap₂, ◌∙◌}
use mathlib.Core.Bool.{Bool, true, false, cond, ◌&&◌}
use lib.Dec.{ltb, leb, eqb, lit≤}
use borrow.Author.Tests.{ltb-true, leb-true, leb-false, eqb-true, lt-ltb, le-leb, lt-leb, eq-eqb}
use Rattle.packet.specs.declared.Frame.{Frame}
use Rattle.packet.specs.declared.Form.{Form}
use Rattle.packet.specs.declared.Form.TheVariants.{Mrd32, Mrd64, Mwr32, Mwr64}
use Rattle.packet.specs.declared.Head.{Head}
use Rattle.packet.specs.declared.Access.{Access}
use Rattle.packet.specs.declared.Access.TheVariants.{Read, Write}
use Rattle.packet.specs.declared.Outcome.{Outcome}
use Rattle.packet.specs.declared.Outcome.TheVariants.{Data, Status}
use Rattle.packet.specs.declared.TranslationRequest.{TranslationRequest}
use Rattle.packet.specs.declared.MemoryRequest.{MemoryRequest}
use Rattle.packet.specs.declared.InvalidateRequest.{InvalidateRequest}
use Rattle.packet.specs.declared.InvalidateCompletion.{InvalidateCompletion}
use Rattle.packet.specs.declared.PageRequest.{PageRequest}
use Rattle.packet.specs.declared.PrgResponse.{PrgResponse}
use Rattle.packet.specs.declared.Body.{Body}
use Rattle.packet.specs.declared.Body.TheVariants.{Tr, Mem, Cpl, Inv, Ic, Prq, Prs}
use Rattle.packet.specs.Forms.{choose, byte0_of, payload_offset, packet_length, byte_enables, dword_count}
use Rattle.packet.specs.Kinds.{head_in, common_of, address64_in, read_request_in, mem_in, body_in, packet_in, well_formed_mem, well_formed_read_request, well_formed, short_enough, allowed_outcome, allowed_body, body_in_range, access_payload_length, outcome_payload_length, payload_length, needs64_bits, access_form, outcome_form, form_of, bit_of, address_dword8, address_dword12, packet_frame}
use Rattle.lemmas.proofs.Cases.{by_cases, and_both}
use Rattle.tlp.proofs.Flags.{bit_back, bit_le}
use Rattle.tlp.proofs.Common.{SoundCommon, common_sound, head_back, frame_common}
use Rattle.tlp.proofs.Frames.{Sound, halves}
use Rattle.tlp.specs.Fields.{TypedAccess, TypedBody, Typed}

-- packets whose fields fit their types
module _ (head : Head) (sound : head.sender < 65536) where
  pub typed_request : (t : TranslationRequest) → t.tag.0 < 256 → t.address < 2 ^ 64
      → Typed (record { head = head; body = Tr t })
  unfolding TypedBody
  typed_request t tag address = record { sender = sound; body = (tag, address) }

  pub typed_access : (m : MemoryRequest) → TypedAccess m.access → m.address < 2 ^ 64
      → Typed (record { head = head; body = Mem m })
  unfolding TypedBody
  typed_access m access address = record { sender = sound; body = (access, address) }

  pub typed_completion : (i : InvalidateCompletion) → i.device < 65536 → i.vector < 2 ^ 32
      → Typed (record { head = head; body = Ic i })
  unfolding TypedBody
  typed_completion i device vector = record { sender = sound; body = (device, vector) }

  pub typed_page : (q : PageRequest) → q.page < 2 ^ 64 → Typed (record { head = head; body = Prq q })
  unfolding TypedBody
  typed_page q page = record { sender = sound; body = page }

-- ---- flags and addresses

enables_lt : (w : ℕ) → byte_enables w < 256
enables_lt w = by_cases (eqb w 1) (λ e. rw e (lit≤ tt)) (λ e. rw e (lit≤ tt))

-- an address in one DWORD or in two
module _ (a : ℕ) where
  address_back : cond (needs64_bits a) (address_dword8 a * 2 ^ 32 + address_dword12 a) (address_dword8 a) ≡ a
  address_back = by_cases (needs64_bits a) (λ e. rw e (omega arith)) (λ e. rw e)

  upper_lt : a < 2 ^ 64 → address_dword8 a < 2 ^ 32
  upper_lt h = by_cases (needs64_bits a) (λ e. rw e (omega arith)) (λ e. rw e (leb-false (2 ^ 32) a e))

  lower_lt : address_dword12 a < 2 ^ 32
  lower_lt = by_cases (needs64_bits a) (λ e. rw e (omega arith)) (λ e. rw e (lit≤ tt))

  -- the upper half is never zero in a 64-bit form
  upper_shape : (t : Bool) → t ≡ true → cond (needs64_bits a) (ltb 0 (address_dword8 a) && t) t ≡ true
  upper_shape t q =
      by_cases (needs64_bits a)
      (λ e.
      let h = leb-true (2 ^ 32) a e in
      let k : 0 < a / 2 ^ 32 = omega arith in
      rw (e, lt-ltb 0 (a / 2 ^ 32) k, q))
      (λ e. rw (e, q))

-- ---- the two forms of a request, distinguished by one test

record Forms (x y : Form) (body_of : Frame → ℕ → Body) (shapedAs : Frame → Bool) (loads : ℕ → ℕ) (w : Bool) : Type 0 where
  body : (f : Frame) → body_in (cond w x y) f ≡ body_of f (cond w (address64_in f) f.dword8)
  shape : (f : Frame) → well_formed (cond w x y) f ≡ cond w (ltb 0 f.dword8 && shapedAs f) (shapedAs f)
  chosen : (b7 : ℕ) → choose (byte0_of (cond w x y)) b7 ≡ Some (cond w x y)
  first : byte0_of (cond w x y) < 256
  long : (n : ℕ) → packet_length (cond w x y) n ≡ payload_offset (cond w x y) + loads n
  fixed : payload_offset (cond w x y) ≤ 16

fetches : (w : Bool) → Forms Mrd64 Mrd32 read_request_in well_formed_read_request (λ n. 0) w
unfolding body_in well_formed choose
fetches true = record { body = λ f. refl; shape = λ f. refl; chosen = λ b7. refl; first = lit≤ tt; long = λ n. refl; fixed = lit≤ tt }
fetches false = record { body = λ f. refl; shape = λ f. refl; chosen = λ b7. refl; first = lit≤ tt; long = λ n. refl; fixed = lit≤ tt }

stores : (w : Bool) → Forms Mwr64 Mwr32 (λ f. mem_in f Write) well_formed_mem (λ n. dword_count n * 4) w
unfolding body_in well_formed choose
stores true = record { body = λ f. refl; shape = λ f. refl; chosen = λ b7. refl; first = lit≤ tt; long = λ n. refl; fixed = lit≤ tt }
stores false = record { body = λ f. refl; shape = λ f. refl; chosen = λ b7. refl; first = lit≤ tt; long = λ n. refl; fixed = lit≤ tt }

-- ---- from a packet to its frame and back

-- what holds of a packet's frame
pub record Framed (h : Head) (b : Body) : Type 0 where
  pub sound : Sound (packet_frame (common_of h) b)
  pub chosen : choose (packet_frame (common_of h) b).byte0 (packet_frame (common_of h) b).byte7 ≡ Some (form_of b)
  pub shape : well_formed (form_of b) (packet_frame (common_of h) b) ≡ true
  pub back : body_in (form_of b) (packet_frame (common_of h) b) ≡ b
  pub long : packet_length (form_of b) (packet_frame (common_of h) b).dwords ≡ payload_offset (form_of b) + payload_length b

-- it is read as that packet
pub framed_packet : (h : Head) (b : Body) → Framed h b
    → packet_in (form_of b) (packet_frame (common_of h) b) ≡ record { head = h; body = b }
framed_packet h b k =
    ap₂ (λ (x : Head) (y : Body). record { head = x; body = y }) (ap head_in (frame_common (common_of h) b) ∙ head_back h) k.back

-- TR: the number that holds an address a and No Write
module _ (a n : ℕ) (z : a % 4096 ≡ 0) (h : n ≤ 1) where
  tr_word : (a / 4096 * 4096 + n ≡ a + n) × ((a + n) / 4096 * 4096 ≡ a) × ((a + n) % 2 ≡ n)
  tr_word = (omega arith, omega arith, omega arith)

  tr_wide : needs64_bits (a + n) ≡ needs64_bits a
  tr_wide =
      by_cases (needs64_bits a)
      (λ e. let k = leb-true (2 ^ 32) a e in let g : (2 ^ 32) ≤ a + n = omega arith in le-leb (2 ^ 32) (a + n) g ∙ sym e)
      (λ e. let k = leb-false (2 ^ 32) a e in let g : a + n < 2 ^ 32 = omega arith in lt-leb (2 ^ 32) (a + n) g ∙ sym e)

  tr_lt : a < 2 ^ 64 → a + n < 2 ^ 64
  tr_lt k = omega arith

-- MEM: AT from the flag and back
at_back : (t : Bool)
    → (eqb (bit_of t * 2) 1 ≡ false) × (eqb (bit_of t * 2 % 2) 0 ≡ true) × (eqb (bit_of t * 2) 2 ≡ t) × (bit_of t * 2 < 4)
at_back true = (refl, refl, refl, lit≤ tt)
at_back false = (refl, refl, refl, lit≤ tt)

mem_word : (a : ℕ) → a % 4 ≡ 0 → a / 4 * 4 ≡ a
mem_word a h = omega arith

self : (n : ℕ) → eqb n n ≡ true
self n = eq-eqb n n refl

-- CPL: status and Byte Count in byte 6 and byte 7; three fields in one DWORD
module _ (s n : ℕ) (hs : s < 8) (hn : n < 4096) where
  abbrev status6 : ℕ
  status6 = s % 8 * 32 + n / 256 % 16

  cpl_bytes : (status6 / 32 ≡ s) × (status6 % 16 * 256 + n % 256 ≡ n) × (status6 < 256) × (n % 256 < 256)
  cpl_bytes = (omega arith, omega arith, omega arith, omega arith)

module _ (d t l : ℕ) (hd : d < 65536) (ht : t < 256) (hl : l < 128) where
  abbrev target : ℕ
  target = d * 65536 + t * 256 + l

  cpl_word : (target / 65536 ≡ d) × (target / 256 % 256 ≡ t) × (target % 128 ≡ l) × (target < 2 ^ 32)
  cpl_word = (omega arith, omega arith, omega arith, omega arith)

-- INV: the body
module _ (a n : ℕ) (ha : a % 4096 ≡ 0) (hn : n ≤ 1) (h : a < 2 ^ 64) where
  abbrev sized : ℕ
  sized = a / 4096 * 4096 + n * 2048

  inv_word : (sized / 4096 * 4096 ≡ a) × (sized / 2048 % 2 ≡ n) × (sized < 2 ^ 64)
  inv_word = (omega arith, omega arith, omega arith)

-- a Device ID and the 16 bits after it
module _ (d c : ℕ) (hd : d < 65536) (hc : c < 65536) where
  device_word : ((d * 65536 + c) / 65536 ≡ d) × (d * 65536 + c < 2 ^ 32)
  device_word = (omega arith, omega arith)

-- PRQ: the number that holds a page a, an index i and three bits
module _ (a i l w r : ℕ) (ha : a % 4096 ≡ 0) (h : a < 2 ^ 64) (hi : i < 512) (hl : l ≤ 1) (hw : w ≤ 1) (hr : r ≤ 1) where
  abbrev paged : ℕ
  paged = a / 4096 * 4096 + i % 512 * 8 + l * 4 + w * 2 + r

  prq_word : (paged / 4096 * 4096 ≡ a) × (paged / 8 % 512 ≡ i) × (paged / 4 % 2 ≡ l) × (paged / 2 % 2 ≡ w)
      × (paged % 2 ≡ r) × (paged < 2 ^ 64)
  prq_word =
      let p : a / 4096 * 4096 ≡ a = omega arith in
      let q : i % 512 ≡ i = omega arith in
      rw (p, q) (omega arith, omega arith, omega arith, omega arith, omega arith, omega arith)

halves_lt : (a : ℕ) → a < 2 ^ 64 → (a / 2 ^ 32 < 2 ^ 32) × (a % 2 ^ 32 < 2 ^ 32)
halves_lt a h = (omega arith, omega arith)

-- PRS: code and index in the 16 bits after the device
module _ (d c i : ℕ) (hd : d < 65536) (hc : c < 16) (hi : i < 512) where
  abbrev answered : ℕ
  answered = d * 65536 + c % 16 * 4096 + i % 512

  prs_word : (answered / 65536 ≡ d) × (answered / 4096 % 16 ≡ c) × (answered % 512 ≡ i) × (answered < 2 ^ 32)
  prs_word =
      let p : c % 16 ≡ c = omega arith in
      let q : i % 512 ≡ i = omega arith in
      let y : (d * 65536 + c * 4096 + i) / 4096 ≡ d * 16 + c = omega arith in
      rw (p, q) (omega arith, rw y (omega arith), omega arith, omega arith)

-- a frame's bounds: those of its common fields, of bytes 0 to 3, of bytes 6 and 7, of the rest
seat : {f : Frame} → SoundCommon f.common →
    (f.byte0 < 256) × (f.at < 4) × (f.dwords < 1024) →
    (f.byte6 < 256) × (f.byte7 < 256) →
    (f.dword8 < 2 ^ 32) × (f.dword12 < 2 ^ 32) × (f.body < 2 ^ 64) →
    Sound f
seat common start pair rest =
    record {
      byte0 = start.0;
      common = common;
      at = start.1;
      dwords = start.2;
      byte6 = pair.0;
      byte7 = pair.1;
      dword8 = rest.0;
      dword12 = rest.1;
      body = rest.2;
    }

module _ (h : Head) (htc : h.tc < 8) (hs : h.sender < 65536) where
  sound_common : SoundCommon (common_of h)
  sound_common = common_sound h htc hs

  tr_framed : (t : TranslationRequest) → body_in_range (Tr t) ≡ true → TypedBody (Tr t) → Framed h (Tr t)
  unfolding packet_frame form_of body_in_range TypedBody payload_length
  tr_framed t e ty =
      let p = and_both (ltb t.dwords 1024) (eqb (t.address % 4096) 0) e in
      let n = bit_of t.nowrite in
      let z = eqb-true (t.address % 4096) 0 p.1 in
      let hn = bit_le t.nowrite in
      let x = tr_word t.address n z hn in
      let w = tr_wide t.address n z hn in
      let a = t.address + n in
      record {
        sound = seat sound_common ((fetches (needs64_bits t.address)).first, lit≤ tt, ltb-true t.dwords 1024 p.0) (ty.0, lit≤ tt) (rw x.0 (upper_lt a (tr_lt t.address n z hn ty.1)), rw x.0 (lower_lt a), lit≤ tt);
        chosen = (fetches (needs64_bits t.address)).chosen _;
        shape = (fetches (needs64_bits t.address)).shape _ ∙ rw (x.0, ← w) (upper_shape a true refl);
        back = (fetches (needs64_bits t.address)).body _ ∙ rw (x.0, ← w, address_back a, x.1, x.2, bit_back t.nowrite);
        long = (fetches (needs64_bits t.address)).long t.dwords;
      }

  mem_framed : (access : Access) (dwords address : ℕ) (translated : Bool) →
      let b = Mem (record { access = access; dwords = dwords; address = address; translated = translated }) in
      body_in_range b ≡ true → TypedBody b → Framed h b
  unfolding packet_frame form_of body_in_range TypedBody payload_length
  mem_framed (Read tag) dwords a t e ty =
      let p = and_both (ltb dwords 1024) (eqb (a % 4) 0) e in
      let x = at_back t in
      record {
        sound = seat sound_common ((fetches (needs64_bits a)).first, x.3, ltb-true dwords 1024 p.0) (ty.0, enables_lt dwords) (upper_lt a ty.1, lower_lt a, lit≤ tt);
        chosen = (fetches (needs64_bits a)).chosen (byte_enables dwords);
        shape = (fetches (needs64_bits a)).shape _ ∙ rw (x.0, x.1, self (byte_enables dwords)) (upper_shape a true refl);
        back = (fetches (needs64_bits a)).body _ ∙ rw (x.0, x.2, address_back a, mem_word a (eqb-true (a % 4) 0 p.1));
        long = (fetches (needs64_bits a)).long dwords;
      }
  mem_framed Write dwords a t e ty =
      let p = and_both (ltb dwords 1024) (eqb (a % 4) 0) e in
      let x = at_back t in
      record {
        sound = seat sound_common ((stores (needs64_bits a)).first, x.3, ltb-true dwords 1024 p.0) (lit≤ tt, enables_lt dwords) (upper_lt a ty.1, lower_lt a, lit≤ tt);
        chosen = (stores (needs64_bits a)).chosen (byte_enables dwords);
        shape = (stores (needs64_bits a)).shape _ ∙ rw (x.1, self (byte_enables dwords)) (upper_shape a true refl);
        back = (stores (needs64_bits a)).body _ ∙ rw (x.2, address_back a, mem_word a (eqb-true (a % 4) 0 p.1));
        long = (stores (needs64_bits a)).long dwords;
      }

  cpl_framed : (outcome : Outcome) (count requester tag lower : ℕ) →
      let b = Cpl (record { outcome = outcome; count = count; requester = requester; tag = record { 0 = tag }; lower = lower }) in
      body_in_range b ≡ true → TypedBody b → Framed h b
  unfolding packet_frame form_of body_in_range TypedBody payload_length choose well_formed body_in
  cpl_framed (Data w) n d t l e ty =
      let p = and_both (ltb n 4096) (ltb l 128 && ltb w 1024) e in
      let q = and_both (ltb l 128) (ltb w 1024) p.1 in
      let x = cpl_bytes 0 n (lit≤ tt) (ltb-true n 4096 p.0) in
      let y = cpl_word d t l ty.0 ty.1 (ltb-true l 128 q.0) in
      record {
        sound = seat sound_common (lit≤ tt, lit≤ tt, ltb-true w 1024 q.1) (x.2, x.3) (y.3, lit≤ tt, lit≤ tt);
        chosen = refl;
        shape = rw x.0;
        back = rw (x.1, y.0, y.1, y.2);
        long = refl;
      }
  cpl_framed (Status s) n d t l e ty =
      let p = and_both (ltb n 4096) (ltb l 128 && ltb s 8) e in
      let q = and_both (ltb l 128) (ltb s 8) p.1 in
      let x = cpl_bytes s n (ltb-true s 8 q.1) (ltb-true n 4096 p.0) in
      let y = cpl_word d t l ty.0 ty.1 (ltb-true l 128 q.0) in
      record {
        sound = seat sound_common (lit≤ tt, lit≤ tt, lit≤ tt) (x.2, x.3) (y.3, lit≤ tt, lit≤ tt);
        chosen = refl;
        shape = refl;
        back = rw (x.0, x.1, y.0, y.1, y.2);
        long = refl;
      }

  inv_framed : (i : InvalidateRequest) → body_in_range (Inv i) ≡ true → TypedBody (Inv i) → Framed h (Inv i)
  unfolding packet_frame form_of body_in_range TypedBody payload_length choose well_formed body_in
  inv_framed i e ty =
      let p = and_both (ltb i.itag.0 32) (eqb (i.address % 4096) 0) e in
      let k = ltb-true i.itag.0 32 p.0 in
      let g : (i.itag.0 < 256) × (i.itag.0 % 32 ≡ i.itag.0) = (omega arith, omega arith) in
      let x = inv_word i.address (bit_of i.sized) (eqb-true (i.address % 4096) 0 p.1) (bit_le i.sized) ty.1 in
      let d : (i.device * 65536 / 65536 ≡ i.device) × (i.device * 65536 < 2 ^ 32) = (omega arith, omega (arith, ty.0)) in
      record {
        sound = seat sound_common (lit≤ tt, lit≤ tt, lit≤ tt) (g.0, lit≤ tt) (d.1, lit≤ tt, x.2);
        chosen = refl;
        shape = refl;
        back = rw (g.1, d.0, x.0, x.1, bit_back i.sized);
        long = refl;
      }

  ic_framed : (i : InvalidateCompletion) → body_in_range (Ic i) ≡ true → TypedBody (Ic i) → Framed h (Ic i)
  unfolding packet_frame form_of body_in_range TypedBody payload_length choose well_formed body_in
  ic_framed i e ty =
      let k = ltb-true i.cc 8 e in
      let g : i.cc < 65536 = omega arith in
      let d = device_word i.device i.cc ty.0 g in
      let c : (i.device * 65536 + i.cc) % 8 ≡ i.cc = omega arith in
      record {
        sound = seat sound_common (lit≤ tt, lit≤ tt, lit≤ tt) (lit≤ tt, lit≤ tt) (d.1, ty.1, lit≤ tt);
        chosen = refl;
        shape = refl;
        back = rw (d.0, c);
        long = refl;
      }

  prq_framed : (q : PageRequest) → body_in_range (Prq q) ≡ true → TypedBody (Prq q) → Framed h (Prq q)
  unfolding packet_frame form_of body_in_range TypedBody payload_length choose well_formed body_in
  prq_framed q e ty =
      let p = and_both (eqb (q.page % 4096) 0) (ltb q.index.0 512) e in
      let i = q.index.0 in
      let l = bit_of q.last in
      let w = bit_of q.write in
      let r = bit_of q.read in
      let x = prq_word q.page i l w r (eqb-true (q.page % 4096) 0 p.0) ty (ltb-true i 512 p.1) (bit_le q.last) (bit_le q.write) (bit_le q.read) in
      let a = q.page / 4096 * 4096 + i % 512 * 8 + l * 4 + w * 2 + r in
      let g = halves_lt a x.5 in
      record {
        sound = seat sound_common (lit≤ tt, lit≤ tt, lit≤ tt) (lit≤ tt, lit≤ tt) (g.0, g.1, lit≤ tt);
        chosen = refl;
        shape = refl;
        back = rw (halves a, x.0, x.1, x.2, x.3, x.4, bit_back q.last, bit_back q.write, bit_back q.read);
        long = refl;
      }

  prs_framed : (s : PrgResponse) → body_in_range (Prs s) ≡ true → TypedBody (Prs s) → Framed h (Prs s)
  unfolding packet_frame form_of body_in_range TypedBody payload_length choose well_formed body_in
  prs_framed s e ty =
      let p = and_both (ltb s.code 16) (ltb s.index.0 512) e in
      let x = prs_word s.device s.code s.index.0 ty (ltb-true s.code 16 p.0) (ltb-true s.index.0 512 p.1) in
      record {
        sound = seat sound_common (lit≤ tt, lit≤ tt, lit≤ tt) (lit≤ tt, lit≤ tt) (x.3, lit≤ tt, lit≤ tt);
        chosen = refl;
        shape = refl;
        back = rw (x.0, x.1, x.2);
        long = refl;
      }

  pub fields : (b : Body) → body_in_range b ≡ true → TypedBody b → Framed h b
  fields (Tr t) = tr_framed t
  fields (Mem m) = mem_framed m.access m.dwords m.address m.translated
  fields (Cpl c) = cpl_framed c.outcome c.count c.requester c.tag.0 c.lower
  fields (Inv i) = inv_framed i
  fields (Ic i) = ic_framed i
  fields (Prq q) = prq_framed q
  fields (Prs s) = prs_framed s

-- ---- a packet that is allowed has at most 144 bytes

loaded : (f n : ℕ) → f ≤ 16 → leb n 32 ≡ true → f + n * 4 ≤ 144
loaded f n h e = let k = leb-true n 32 e in omega arith

unloaded : (f : ℕ) → f ≤ 16 → f + 0 ≤ 144
unloaded f h = omega arith

mem_longest : (access : Access) (w a : ℕ) → short_enough w ≡ true
    → payload_offset (access_form access a) + access_payload_length access w ≤ 144
mem_longest (Read tag) w a e =
    unloaded (payload_offset (cond (needs64_bits a) Mrd64 Mrd32)) (fetches (needs64_bits a)).fixed
mem_longest Write w a e =
    loaded (payload_offset (cond (needs64_bits a) Mwr64 Mwr32)) (dword_count w) (stores (needs64_bits a)).fixed e

cpl_longest : (outcome : Outcome) → allowed_outcome outcome ≡ true
    → payload_offset (outcome_form outcome) + outcome_payload_length outcome ≤ 144
cpl_longest (Data w) e = loaded 12 (dword_count w) (lit≤ tt) e
cpl_longest (Status s) e = lit≤ tt

pub longest : (tc : ℕ) (b : Body) → allowed_body tc b ≡ true → payload_offset (form_of b) + payload_length b ≤ 144
unfolding allowed_body form_of payload_length
longest tc (Tr t) e =
    unloaded (payload_offset (cond (needs64_bits t.address) Mrd64 Mrd32)) (fetches (needs64_bits t.address)).fixed
longest tc (Mem m) e = mem_longest m.access m.dwords m.address e
longest tc (Cpl c) e = cpl_longest c.outcome e
longest tc (Inv i) e = lit≤ tt
longest tc (Ic i) e = lit≤ tt
longest tc (Prq q) e = lit≤ tt
longest tc (Prs s) e = lit≤ tt
