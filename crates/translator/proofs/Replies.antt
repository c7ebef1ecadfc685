-- The reply reads back, and depends on the visited entries alone.
use Rattle.std.specs.Prelude.{Err, Ok, Result}
use mathlib.Core.Path.{◌≡◌, refl, sym, ap, ◌∙◌}
use mathlib.Core.Bool.{Bool, true, false}
use mathlib.Core.List.{List, [], ◌∷◌}
use Prim.Native.Nat.{ℕ, ◌+◌, ◌*◌, ◌<◌, ◌≤◌, ◌^◌}
use native.Mathlib.Omega.{arith}
use lib.Dec.{ltb, lit≤}
use lib.ListN.{length, take}
use borrow.Author.Tests.{lt-ltb, eq-eqb}
use Rattle.lemmas.proofs.Cases.{impossible, either_case, and-false}
use Rattle.ranges.specs.declared.Translation.{Translation}
use Rattle.ranges.specs.Size.{word_of, translation_of}
use Rattle.ranges.specs.Range.{region_of}
use Rattle.ranges.proofs.Codes.{word_decoded, word_lt}
use Rattle.packet.specs.declared.Body.{Body}
use Rattle.packet.specs.declared.Body.TheVariants.{Tr, Mem, Cpl, Inv, Ic, Prq, Prs}
use Rattle.packet.specs.declared.Head.{Head}
use Rattle.packet.specs.declared.Outcome.{Outcome}
use Rattle.packet.specs.declared.Outcome.TheVariants.{Data, Status}
use Rattle.packet.specs.declared.Packet.{Packet}
use Rattle.packet.specs.declared.Tag.{Tag}
use Rattle.packet.specs.declared.TranslationRequest.{TranslationRequest}
use Rattle.packet.specs.Among.{is_among}
use Rattle.packet.specs.Frames.{decode_frame, eight_bytes}
use Rattle.packet.specs.Forms.{dword_count}
use Rattle.packet.specs.Kinds.{outcome_in_range, body_in_range, allowed_outcome, allowed_body, outcome_payload_length, payload_length, form_of}
use Rattle.packet.specs.Reading.{reading, payload_in, qword_at}
use Rattle.packet.specs.Writing.{bytes_of, writing, check_room, buffer_after}
use Rattle.packet.proofs.Laws.{ok_injective}
use Rattle.packet.proofs.Among.{Among, among_ok, among_refusal, among_case, among_monotone, reading_numbers}
use Rattle.tlp.specs.Fields.{TypedBody, Typed}
use Rattle.tlp.specs.Translations.{translation_at}
use Rattle.tlp.proofs.RoundTrips.{taken}
use Rattle.tlp.proofs.Laws.{sent_reads, sent_payload, sent_rest}
use Rattle.tlp.proofs.Qwords.{qword_of_bytes}
use Rattle.walk.specs.declared.End.{End}
use Rattle.walk.specs.declared.End.TheVariants.{Mapped, Unmapped, NotLent}
use Rattle.walk.specs.declared.Mapping.{Mapping}
use Rattle.walk.specs.declared.Rights.{Rights}
use Rattle.walk.specs.Walk.{Walked, is_none, walked}
use Rattle.walk.specs.Visits.{SameAt}
use Rattle.walk.proofs.Laws.{SoundEnd, walk_sound}
use Rattle.walk.proofs.Visits.{only_visits_matter}
use Rattle.translator.specs.declared.Reply.{Reply}
use Rattle.translator.specs.declared.Report.{Report}
use Rattle.translator.specs.Translator.{final_rights, translation_with, null_translation, translation_to, reply_packet, Prepared, reply_to, Observation, refused_with, replied_if, answering, translating_body, translating_if, translating}
use Rattle.translator.specs.Replies.{ValidRequest, due_reply, Holds, ReadsBack, host_numbers, HostReplies}
use Rattle.translator.proofs.Laws.{request_dwords, answered}

-- ---- a reply can be written if there is room

module _ (host : ℕ) (h : Head) (t : Tag) (count lower room : ℕ) (tc : h.tc < 8) (hc : count < 4096) (hl : lower < 128) where
  writes : (o : Outcome) → outcome_in_range o ≡ true → allowed_outcome o ≡ true
      → writing (reply_packet host h t o count lower) (outcome_payload_length o) room ≡ check_room (12 + outcome_payload_length o) room
  unfolding writing body_in_range allowed_body payload_length form_of
  writes (Data w) r a = rw (lt-ltb h.tc 8 tc, lt-ltb count 4096 hc, lt-ltb lower 128 hl, r, a, eq-eqb (dword_count w * 4) (dword_count w * 4) refl)
  writes (Status s) r a = rw (lt-ltb h.tc 8 tc, lt-ltb count 4096 hc, lt-ltb lower 128 hl, r, a)

-- ---- a translation in the payload, decoded

decodes : (base e : ℕ) (g : Rights) → 12 ≤ e → e ≤ 64 → (region_of base e).first ≡ base → base < 2 ^ 64
    → translation_at (eight_bytes (word_of (translation_with base e g))) 0 ≡ translation_with base e g
unfolding translation_at
decodes base e g low up aligned fits =
    ap translation_of (qword_of_bytes (word_of (translation_with base e g)) (word_lt base e false false g.w g.r low up aligned fits))
    ∙ word_decoded base e false false g.w g.r low up aligned

decodes_null : translation_at (eight_bytes (word_of null_translation)) 0 ≡ null_translation
unfolding region_of
decodes_null = decodes 0 12 (record { r = false; w = false }) (lit≤ tt) (lit≤ tt) refl (lit≤ tt)

decodes_page : (nowrite : Bool) (m : Mapping) → SoundEnd (Mapped m)
    → translation_at (eight_bytes (word_of (translation_to nowrite m))) 0 ≡ translation_to nowrite m
decodes_page nowrite m s =
    either_case (λ (x : Translation). translation_at (eight_bytes (word_of x)) 0 ≡ x) (is_none (final_rights nowrite m.rights)) _ _
    (λ none. decodes_null)
    (λ some. decodes m.base m.exponent (final_rights nowrite m.rights) s.0 s.1 s.2 s.3)

-- No Write leaves no W
no_write : (m : Mapping) → (translation_to true m).w ≡ false
no_write m =
    either_case (λ (x : Translation). x.w ≡ false) (is_none (final_rights true m.rights)) _ _
    (λ none. refl)
    (λ some. and-false m.rights.w)

no_write_held : (t : TranslationRequest) (e : End) (load : List ℕ) → Holds t e load → t.nowrite ≡ true → (translation_at load 0).w ≡ false
unfolding translation_at qword_at translation_of
no_write_held t (Mapped m) load h n =
    ap (λ (x : Translation). x.w) h ∙ ap (λ (b : Bool). (translation_to b m).w) n ∙ no_write m
no_write_held t Unmapped load h n = ap (λ (x : Translation). x.w) h
no_write_held t NotLent load h n = rw h

-- ---- the call

replied_ok : (what : Reply) (visits : ℕ) (w : Result ℕ ℕ) (r : Report) → replied_if what visits w ≡ Ok r → w ≡ Ok r.length
replied_ok what visits (Ok n) r e = ap (λ (x : Report). Ok x.length) (ok_injective e)
replied_ok what visits (Err n) r e = impossible cc

replied_visited : (what : Reply) (visited : ℕ) (w : Result ℕ ℕ) (r : Report) → replied_if what visited w ≡ Ok r → r.visited ≡ visited
replied_visited what visited (Ok n) r e = ap (λ (x : Report). x.visited) (sym (ok_injective e))
replied_visited what visited (Err n) r e = impossible cc

module _ (host : ℕ) (b : List ℕ) (p : Packet) (t : TranslationRequest) (read : reading b ≡ Ok p) (request : p.body ≡ Tr t) where
  -- what reading gives
  tc_lt : p.head.tc < 8
  unfolding decode_frame
  tc_lt = rw (← (taken b p read).whole) (omega arith)

  due_writes : (e : End) (room : ℕ)
      → writing (reply_to host p.head t e).packet (length (reply_to host p.head t e).payload) room ≡ check_room (12 + length (reply_to host p.head t e).payload) room
  due_writes (Mapped m) room = writes host p.head t.tag 8 120 room tc_lt (lit≤ tt) (lit≤ tt) (Data 2) refl refl
  due_writes Unmapped room = writes host p.head t.tag 8 120 room tc_lt (lit≤ tt) (lit≤ tt) (Data 2) refl refl
  due_writes NotLent room =
      writes host p.head t.tag (4 * t.dwords) 0 room tc_lt (omega (arith, (request_dwords b p read t request).1)) (lit≤ tt) (Status 4) refl refl

  answers : (entries out : List ℕ) → (translating host b entries out).answer ≡ replied_if (due_reply host entries p t).reply (length (walked entries t.address).visits) (check_room (12 + length (due_reply host entries p t).payload) (length out))
  answers entries out =
      rw (answered b p read t request host entries out) (ap (replied_if (due_reply host entries p t).reply (length (walked entries t.address).visits)) (due_writes (walked entries t.address).end (length out)))

  same_tables : (s u out : List ℕ) → length s ≡ length u → SameAt 3 (walked s t.address).visits s u
      → translating host b s out ≡ translating host b u out
  same_tables s u out long same =
      answered b p read t request host s out
      ∙ ap (λ (k : Walked). answering host p.head t k out) (only_visits_matter.same s u t.address long same)
      ∙ sym (answered b p read t request host u out)

module _ (host : ℕ) (b : List ℕ) (p : Packet) (t : TranslationRequest) (v : ValidRequest host b p t) where
  pub typed_request : TypedBody (Tr t)
  typed_request = rw v.request at v.typed.body

  typed_reply : (o : Outcome) (count lower : ℕ) → Typed (reply_packet host p.head t.tag o count lower)
  unfolding TypedBody
  typed_reply o count lower =
      record { sender = v.id; body = (v.typed.sender, typed_request.0) }

  due_typed : (e : End) → Typed (reply_to host p.head t e).packet
  due_typed (Mapped m) = typed_reply (Data 2) 8 120
  due_typed Unmapped = typed_reply (Data 2) 8 120
  due_typed NotLent = typed_reply (Status 4) (4 * t.dwords) 0

  due_holds : (e : End) → SoundEnd e → Holds t e (reply_to host p.head t e).payload
  due_holds (Mapped m) s = decodes_page t.nowrite m s
  due_holds Unmapped s = decodes_null
  due_holds NotLent s = refl

  module _ (entries out : List ℕ) (r : Report) (e : (translating host b entries out).answer ≡ Ok r) where
    abbrev x : Prepared
    x = due_reply host entries p t

    abbrev w : Walked
    w = walked entries t.address

    is : translating host b entries out ≡ answering host p.head t w out
    is = answered b p v.read t v.request host entries out

    written : writing x.packet (length x.payload) (length out) ≡ Ok r.length
    written = replied_ok x.reply (length w.visits) _ r (rw is at e)

    visited_is : r.visited ≡ length w.visits
    visited_is =
        replied_visited x.reply (length w.visits) (writing x.packet (length x.payload) (length out)) r (rw is at e)

    payload_is : payload_in (take r.length (translating host b entries out).buffer) ≡ x.payload
    payload_is = rw is (sent_payload x.packet x.payload out r.length written (due_typed w.end))

    holds : Holds t w.end (payload_in (take r.length (translating host b entries out).buffer))
    holds = rw payload_is (due_holds w.end (walk_sound entries t.address))

    reads_back : ReadsBack host b entries out p t r
    reads_back =
        record {
          packet = rw is (sent_reads x.packet x.payload out r.length written (due_typed w.end));
          payload = payload_is;
          holds = holds;
          no_write = λ n. no_write_held t w.end _ holds n;
          rest = rw is (sent_rest x.packet x.payload out r.length written);
          visited = (visited_is, rw visited_is (only_visits_matter.at_most_four entries t.address));
        }

-- ---- refusals

-- refused with one of the numbers, and nothing written
abbrev Refuses : List ℕ → Observation → Type 0
Refuses out o = (n : ℕ) → o.answer ≡ Err n → (is_among n host_numbers ≡ true) × (o.buffer ≡ out)

module _ (host : ℕ) (b entries out : List ℕ) where
  refuses_with : (n : ℕ) → is_among n host_numbers ≡ true → Refuses out (refused_with n out)
  refuses_with n h k e = let same : n ≡ k = cc in (rw same at h, refl)

  -- a reply that can be written is refused only for want of room
  refuses_written : (what : Reply) (visits : ℕ) (bytes : List ℕ) (w : Result ℕ ℕ) → Among host_numbers w
      → Refuses out (record { answer = replied_if what visits w; buffer = buffer_after w bytes out })
  refuses_written what visits bytes (Ok n) a k e = impossible cc
  refuses_written what visits bytes (Err n) a k e = let same : n ≡ k = cc in (rw same at (a.one n refl), refl)

  refuses_due : (p : Packet) (t : TranslationRequest) → reading b ≡ Ok p → p.body ≡ Tr t → (w : Walked)
      → Refuses out (answering host p.head t w out)
  refuses_due p t read request w =
      let x = reply_to host p.head t w.end in
      let n = 12 + length x.payload in
      rw (due_writes host b p t read request w.end (length out))
      (refuses_written x.reply (length w.visits) (bytes_of x.packet x.payload) (check_room n (length out))
      (among_case host_numbers (ltb (length out) n) (Err 17) (Ok n) (λ short. among_refusal host_numbers 17 refl) (λ fits. among_ok host_numbers n)))

  refuses_body : (p : Packet) → reading b ≡ Ok p → (y : Body) → p.body ≡ y → Refuses out (translating_body host entries out p.head y)
  unfolding translating_body
  refuses_body p read (Tr t) request = refuses_due p t read request (walked entries t.address)
  refuses_body p read (Mem m) e = refuses_with 2 refl
  refuses_body p read (Cpl c) e = refuses_with 2 refl
  refuses_body p read (Inv i) e = refuses_with 2 refl
  refuses_body p read (Ic i) e = refuses_with 2 refl
  refuses_body p read (Prq q) e = refuses_with 2 refl
  refuses_body p read (Prs s) e = refuses_with 2 refl

  refuses_read : (s : Result Packet ℕ) → reading b ≡ s → Refuses out (translating_if host entries out s)
  refuses_read (Ok p) e = refuses_body p e p.body refl
  refuses_read (Err n) e =
      refuses_with n ((among_monotone (1 ∷ 2 ∷ 3 ∷ 4 ∷ []) host_numbers (reading b) refl (reading_numbers b)).one n e)

  refuses : Refuses out (translating host b entries out)
  unfolding translating
  refuses = refuses_read (reading b) refl

pub host_replies : HostReplies
host_replies =
    record {
      answer = λ host b entries out p t read request. answers host b p t read request entries out;
      reads = λ host b entries out p t r v e. reads_back host b p t v entries out r e;
      tables = λ host b t u out p q read request long same. same_tables host b p q read request t u out long same;
      refused = λ host b entries out n e. refuses host b entries out n e;
    }
