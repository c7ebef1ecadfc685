-- Reading and writing refuse with 4 exactly the forbidden values.
use Rattle.std.specs.Prelude.{None, Ok, Option, Result, Some}
use mathlib.Core.Path.{◌≡◌, refl, sym, ap, ◌∙◌}
use mathlib.Core.Bool.{Bool, true, false, not, cond, ◌&&◌, ◌||◌}
use mathlib.Core.List.{List}
use Prim.Native.Nat.{ℕ, ◌+◌, ◌*◌, ◌/◌, ◌%◌, ◌<◌}
use native.Mathlib.Omega.{arith}
use lib.Dec.{eqb, ltb, leb}
use lib.ListN.{length}
use borrow.Author.Tests.{eqb-true, eqb-false, eq-eqb, ne_eqb, leb-true, leb-false, ltb-true, le-ltb, lt-ltb}
use Rattle.lemmas.proofs.Cases.{by_cases, and_both}
use Rattle.lemmas.proofs.Bools.{no_tf}
use Rattle.packet.specs.declared.Form.{Form}
use Rattle.packet.specs.declared.Form.TheVariants.{Mrd32, Mrd64, Mwr32, Mwr64, CplNoData, CplData, InvReq, InvCpl, PageReq, PrgResp}
use Rattle.packet.specs.declared.Frame.{Frame}
use Rattle.packet.specs.declared.Packet.{Packet}
use Rattle.packet.specs.Numbers.{refuse, check}
use Rattle.packet.specs.Frames.{decode_frame}
use Rattle.packet.specs.Forms.{choose, byte0_of, packet_length, byte_enables, payload_offset}
use Rattle.packet.specs.Kinds.{body_in, packet_in, well_formed, short_enough, allowed_body, allowed, fields_in_range, payload_length, form_of, frame_of}
use Rattle.packet.specs.Reading.{read_form, read_choice, reading}
use Rattle.packet.specs.Writing.{writing, check_room}
use Rattle.tlp.specs.Fields.{Typed}
use Rattle.tlp.proofs.Fields.{framed_packet, fields}
use Rattle.tlp.proofs.Refit.{Seven, chosen_by}
use Rattle.tlp.specs.Forbidden.{above32, status_in, forbidden, read_listed, reading_by_phrases, writing_by_phrases}

-- ---- tests and their negations

odd_is : (w : ℕ) → eqb (w % 2) 1 ≡ not (eqb (w % 2) 0)
odd_is w = by_cases (eqb (w % 2) 0) (λ e. rw (e, ne_eqb (w % 2) 1 (omega (arith, eqb-true (w % 2) 0 e)))) (λ e. rw (e, eq-eqb (w % 2) 1 (omega (arith, eqb-false (w % 2) 0 e))))

above_is : (w : ℕ) → above32 w ≡ not (short_enough w)
above_is w = by_cases (eqb w 0) (λ e. rw e) (λ e. rw e (by_cases (leb w 32) (λ l. rw (l, le-ltb 32 w (leb-true w 32 l))) (λ l. rw (l, lt-ltb 32 w (leb-false w 32 l)))))

zero_is : (d : ℕ) → eqb d 0 ≡ not (ltb 0 d)
zero_is d = by_cases (eqb d 0) (λ e. rw (e, eqb-true d 0 e)) (λ e. rw (e, lt-ltb 0 d (omega (arith, eqb-false d 0 e))))

by_at : {A : Type 0} (a : ℕ) → a < 4 → (a ≡ 0 → A) → (a ≡ 1 → A) → (a ≡ 2 → A) → (a ≡ 3 → A) → A
by_at a h f0 f1 f2 f3 =
    by_cases (eqb a 0) (λ e. f0 (eqb-true a 0 e))
    (λ n0. by_cases (eqb a 1) (λ e. f1 (eqb-true a 1 e))
    (λ n1. by_cases (eqb a 2) (λ e. f2 (eqb-true a 2 e))
    (λ n2. f3 (omega (arith, h, eqb-false a 0 n0, eqb-false a 1 n1, eqb-false a 2 n2)))))

-- p: byte 7 is right; q: Length is even; s: it is at most 32; l: the upper half is not zero
tr_says : (p q s : Bool) → (p && (q && s)) ≡ not ((not q || not s) || ((not p || false) || false))
tr_says true true true = refl
tr_says true true false = refl
tr_says true false s = refl
tr_says false true true = refl
tr_says false true false = refl
tr_says false false s = refl

tr_long_says : (l p q s : Bool)
    → ((l && p) && (q && s)) ≡ not ((not q || not s) || ((not p || false) || (not l || false)))
tr_long_says true p q s = tr_says p q s
tr_long_says false true true true = refl
tr_long_says false true true false = refl
tr_long_says false true false s = refl
tr_long_says false false true true = refl
tr_long_says false false true false = refl
tr_long_says false false false s = refl

mem_says : (p s : Bool) → (p && s) ≡ not (not s || (not p || false))
mem_says true true = refl
mem_says true false = refl
mem_says false true = refl
mem_says false false = refl

mem_long_says : (l p s : Bool) → ((l && p) && s) ≡ not (not s || (not p || (not l || false)))
mem_long_says true p s = mem_says p s
mem_long_says false true true = refl
mem_long_says false true false = refl
mem_long_says false false true = refl
mem_long_says false false false = refl

-- AT forbids it, for any upper half and Length
at_says : (l s : Bool) → ((l && false) && s) ≡ false
at_says true s = refl
at_says false s = refl

-- ---- form by form

module _ (f : Frame) (h : f.at < 4) where
  abbrev Says : Form → Type 0
  Says m = (well_formed m f && allowed (packet_in m f)) ≡ not (forbidden f)

  fetch_32 : f.byte0 ≡ 0x00 → Says Mrd32
  unfolding well_formed body_in allowed_body
  fetch_32 b =
      rw (b, odd_is f.dwords, above_is f.dwords)
      (by_at f.at h
      (λ a. rw a (mem_says (eqb f.byte7 (byte_enables f.dwords)) (short_enough f.dwords)))
      (λ a. rw a (tr_says (eqb f.byte7 0xFF) (eqb (f.dwords % 2) 0) (short_enough f.dwords)))
      (λ a. rw a (mem_says (eqb f.byte7 (byte_enables f.dwords)) (short_enough f.dwords)))
      (λ a. rw a refl))

  fetch_64 : f.byte0 ≡ 0x20 → Says Mrd64
  unfolding well_formed body_in allowed_body
  fetch_64 b =
      rw (b, odd_is f.dwords, above_is f.dwords, zero_is f.dword8)
      (by_at f.at h
      (λ a. rw a (mem_long_says (ltb 0 f.dword8) (eqb f.byte7 (byte_enables f.dwords)) (short_enough f.dwords)))
      (λ a. rw a (tr_long_says (ltb 0 f.dword8) (eqb f.byte7 0xFF) (eqb (f.dwords % 2) 0) (short_enough f.dwords)))
      (λ a. rw a (mem_long_says (ltb 0 f.dword8) (eqb f.byte7 (byte_enables f.dwords)) (short_enough f.dwords)))
      (λ a. rw a (at_says (ltb 0 f.dword8) (short_enough f.dwords))))

  store_32 : f.byte0 ≡ 0x40 → Says Mwr32
  unfolding well_formed body_in allowed_body
  store_32 b =
      rw (b, above_is f.dwords)
      (by_at f.at h
      (λ a. rw a (mem_says (eqb f.byte7 (byte_enables f.dwords)) (short_enough f.dwords)))
      (λ a. rw a refl)
      (λ a. rw a (mem_says (eqb f.byte7 (byte_enables f.dwords)) (short_enough f.dwords)))
      (λ a. rw a refl))

  store_64 : f.byte0 ≡ 0x60 → Says Mwr64
  unfolding well_formed body_in allowed_body
  store_64 b =
      rw (b, above_is f.dwords, zero_is f.dword8)
      (by_at f.at h
      (λ a. rw a (mem_long_says (ltb 0 f.dword8) (eqb f.byte7 (byte_enables f.dwords)) (short_enough f.dwords)))
      (λ a. rw a (at_says (ltb 0 f.dword8) (short_enough f.dwords)))
      (λ a. rw a (mem_long_says (ltb 0 f.dword8) (eqb f.byte7 (byte_enables f.dwords)) (short_enough f.dwords)))
      (λ a. rw a (at_says (ltb 0 f.dword8) (short_enough f.dwords))))

  no_data : f.byte0 ≡ 0x0A → Says CplNoData
  unfolding well_formed body_in allowed_body
  no_data b = rw b (last (eqb (status_in f) 2))
    where
      last : (t : Bool) → not t ≡ not (t || false)
      last true = refl
      last false = refl

  with_data : f.byte0 ≡ 0x4A → Says CplData
  unfolding well_formed body_in allowed_body
  with_data b = rw (b, above_is f.dwords) (by_cases (eqb (status_in f) 0) (λ e. rw (e, eqb-true (status_in f) 0 e) (fine (short_enough f.dwords))) (λ e. rw e (faulty (short_enough f.dwords) (eqb (status_in f) 2))))
    where
      fine : (s : Bool) → s ≡ not (not s || false)
      fine true = refl
      fine false = refl

      faulty : (s t : Bool) → false ≡ not (not s || (t || true))
      faulty true true = refl
      faulty true false = refl
      faulty false t = refl

  invalidates : f.byte0 ≡ 0x72 → Says InvReq
  unfolding well_formed body_in allowed_body
  invalidates b =
      let same : f.body / 4096 * 4096 / 4096 ≡ f.body / 4096 = omega arith in
      rw (b, same) (sized (eqb f.dwords 2) (eqb (f.body / 2048 % 2) 1) (eqb (f.body / 4096) 0xF_FFFF_FFFF_FFFF))
    where
      sized : (w s o : Bool) → (w && cond s (not o) true) ≡ not (not w || (s && o))
      sized true true o = refl
      sized true false o = refl
      sized false s o = refl

  in_class_0 : (t : Bool) → t ≡ not (not t || false)
  in_class_0 true = refl
  in_class_0 false = refl

  pub by_phrases : (m : Form) → f.byte0 ≡ byte0_of m → Seven m f.byte7 → Says m
  unfolding well_formed body_in allowed_body
  by_phrases Mrd32 b s = fetch_32 b
  by_phrases Mrd64 b s = fetch_64 b
  by_phrases Mwr32 b s = store_32 b
  by_phrases Mwr64 b s = store_64 b
  by_phrases CplNoData b s = no_data b
  by_phrases CplData b s = with_data b
  by_phrases InvReq b s = invalidates b
  by_phrases InvCpl b s = rw (b, s)
  by_phrases PageReq b s = rw b (in_class_0 (eqb f.common.tc 0))
  by_phrases PrgResp b s = rw (b, s) (in_class_0 (eqb f.common.tc 0))

check_check : (s a z : Bool) (x : Result Packet ℕ) → (s && a) ≡ not z → check 4 s (check 4 a x) ≡ refuse 4 z x
check_check true true true x e = no_tf e
check_check true true false x e = refl
check_check true false true x e = refl
check_check true false false x e = no_tf (sym e)
check_check false a true x e = refl
check_check false a false x e = no_tf (sym e)

-- a packet that is not refused with 1, 2 or 3 is refused with 4 if and only if it has a forbidden value
pub reads_by_phrases : (b : List ℕ) → reading b ≡ reading_by_phrases b
unfolding reading read_form decode_frame
reads_by_phrases b = ap (λ (x : Result Packet ℕ). refuse 1 (ltb (length b) 12) (refuse 1 (ltb 144 (length b)) x)) (go (choose (decode_frame b).byte0 (decode_frame b).byte7) refl)
  where
    go : (c : Option Form) → choose (decode_frame b).byte0 (decode_frame b).byte7 ≡ c
        → read_choice c (decode_frame b) (length b) ≡ read_listed c (decode_frame b) (length b)
    go None e = refl
    go (Some m) e =
        let f = decode_frame b in
        let two : f.at < 4 = omega arith in
        let c = rw e at (chosen_by f.byte0 f.byte7) in
        ap (λ (x : Result Packet ℕ). check 1 (eqb (length b) (packet_length m f.dwords)) (check 3 (eqb f.common.marks 0) x)) (check_check (well_formed m f) (allowed (packet_in m f)) (forbidden f) (Ok (packet_in m f)) (by_phrases f two m c.0 c.1))

module _ (p : Packet) (ty : Typed p) where
  allowed_by_phrases : fields_in_range p ≡ true → allowed p ≡ not (forbidden (frame_of p))
  allowed_by_phrases w =
      let bits = and_both (ltb p.head.tc 8) _ w in
      let m = form_of p.body in
      let f = frame_of p in
      let whole = fields p.head (ltb-true p.head.tc 8 bits.0) ty.sender p.body bits.1 ty.body in
      let same : packet_in m f ≡ p = framed_packet p.head p.body whole in
      let c = rw whole.chosen at (chosen_by f.byte0 f.byte7) in
      sym (ap (λ (b : Bool). b && allowed (packet_in m f)) whole.shape ∙ ap allowed same) ∙ by_phrases f whole.sound.at m c.0 c.1

  -- and the same holds for writing
  pub writes_by_phrases : (load room : ℕ) → writing p load room ≡ writing_by_phrases p load room
  unfolding writing
  writes_by_phrases load room = by_cases (fields_in_range p) (λ w. rw (w, allowed_by_phrases w) (ap (λ (x : Result ℕ ℕ). check 12 (eqb load (payload_length p.body)) x) (turned (forbidden (frame_of p))))) (λ w. rw w)
    where
      turned : (z : Bool)
          → check 4 (not z) (check_room (payload_offset (form_of p.body) + load) room)
          ≡ refuse 4 z (check_room (payload_offset (form_of p.body) + load) room)
      turned true = refl
      turned false = refl
