-- The views of the card's state for the proof of demand 3, and the invariant of every state that a run reaches.
use Rattle.std.specs.Prelude.{None, Ok, Option, Some}
use mathlib.Core.Path.{◌≡◌, refl, sym, ◌∙◌}
use mathlib.Core.Logic.{inl}
use mathlib.Core.Bool.{Bool, true, false, not, cond, ◌&&◌, or-true}
use mathlib.Core.List.{List, [], ◌++◌}
use Prim.Native.Nat.{ℕ, ◌-◌, ◌<◌, ◌^◌}
use lib.Dec.{eqb}
use borrow.Author.Tests.{eq-eqb}
use lib.ListN.{length, take, drop}
use Rattle.ranges.specs.declared.Range.{Range}
use Rattle.packet.specs.declared.ITag.{ITag}
use Rattle.packet.specs.declared.Tag.{Tag}
use Rattle.packet.specs.declared.Packet.{Packet}
use Rattle.packet.specs.Reading.{reading}
use Rattle.packet.specs.Writing.{writing, bytes_of}
use Rattle.tlp.specs.Fields.{Typed}
use Rattle.tlp.proofs.Laws.{sent_reads, nothing_reads, sent_bytes}
use Rattle.atc.specs.declared.Entry.{Entry}
use Rattle.atc.specs.Cache.{entry_at, SoundCache}
use Rattle.tags.specs.declared.TagState.{TagState}
use Rattle.tags.specs.declared.TagState.TheVariants.{Free, Translate, Read}
use Rattle.tags.specs.declared.PendingTranslation.{PendingTranslation}
use Rattle.tags.specs.declared.PendingRead.{PendingRead}
use Rattle.tags.specs.Itags.{is_in}
use Rattle.tags.specs.Tags.{tag_state, translation_range, delayed_by}
use Rattle.state.specs.declared.Function.{Function}
use Rattle.state.specs.State.{head_of}
use Rattle.state.specs.Answers.{Unrefused, Success, sends_nothing, sends}
use Rattle.state.proofs.Laws.{Does, does_nothing, does_write}
use Rattle.call_send.specs.Drain.{agent_id}
use Rattle.lemmas.proofs.Bools.{no_tf, no_some}
use Rattle.demand3.specs.Seen.{Ticket, Sent, WRITE}
use Rattle.demand3.specs.History.{Pending, translation, fetch, accepts}
use Rattle.demand3.proofs.Laws.{View, Step, Through}
use Rattle.demands.specs.Observed.{Asked, Wanted, terms, Call, Noted, itag, is_listed, call_taken, packet_sent, is_sole, is_ours, is_packet, slot_held, held_in}

-- ---- a packet with the Function's ID
pub own_packet : (me : Noted) (p : Packet) → p.head ≡ head_of me.id → is_sole p.body ≡ true → is_ours me (Ok p) ≡ true
own_packet me p own sole = rw (own, eq-eqb me.id me.id refl, sole)

-- ---- one tag

abbrev pub tag : ℕ → Tag
tag t = record { 0 = t }

abbrev pub asked_by : PendingTranslation → Asked
asked_by q = record { stu = q.stu; range = translation_range q }

abbrev pub wanted_by : PendingRead → Wanted
wanted_by r = record { address = Some r.address; bytes = r.bytes }

abbrev pub pending_of : TagState → Option (Pending terms)
pending_of Free = None
pending_of (Translate q) = Some (translation (asked_by q) (q.whole - q.due))
pending_of (Read r) = Some (fetch r.translated (wanted_by r) r.due)

abbrev pub live_of : TagState → Bool
live_of Free = false
live_of (Translate q) = not q.stale
live_of (Read r) = false

-- ---- the state

-- a free slot holds no entry
pub no_entry_lem : (stu : ℕ) (slot : Option Entry) → slot ≡ None → slot_held stu slot ≡ None
no_entry_lem stu slot e = rw e

abbrev pub is_agent : Option ℕ → ℕ → Bool
is_agent None g = false
is_agent (Some id) g = eqb g id

abbrev pub view : Function → View terms
view f =
    record {
      held = held_in f;
      opens = λ t. pending_of (tag_state f.tags (tag t));
      live = λ t. live_of (tag_state f.tags (tag t));
      waiting = λ i. is_agent f.agent i.agent && is_listed f.waiting i.number;
      waits_for = λ i t. is_in (delayed_by (tag_state f.tags (tag t))) (itag i.number);
      agent = f.agent;
    }

-- the invariant of every reached state; me are the notes on the last reset
pub record Proper (me : Noted) (f : Function) : Type 0 where
  pub unit : f.stu ≡ me.stu
  pub own : f.id ≡ me.id
  pub id : f.id < 65536
  pub agent : agent_id f.agent < 65536
  pub cache : SoundCache f.cache
  pub reached : (j : ℕ) (e : Entry) → entry_at f.cache j ≡ Some e → e.to < 2 ^ 64
  pub tags : length f.tags ≡ 32
  -- an outstanding Translation Request has the Function's STU, and after the first of two packets bytes are due
  pub begun : (t : Tag) (q : PendingTranslation) → tag_state f.tags t ≡ Translate q
      → (q.stu ≡ f.stu) × (q.due ≡ 0 → q.whole ≡ 0)
  pub vector : f.waiting < 2 ^ 32
  -- only waiting ITags are delayed, and then the agent is known
  pub noted : (t : Tag) (i : ITag) → is_in (delayed_by (tag_state f.tags t)) i ≡ true → is_in f.waiting i ≡ true
  pub known : (i : ITag) → is_in f.waiting i ≡ true → f.agent ≡ None → ⊥

-- the packet that a call left at the start of its buffer
abbrev pub packet_in : Call → Success → List ℕ
packet_in c d = take d.sent (d.bytes ++ drop (length d.bytes) c.out)

-- an unrefused call preserves the invariant, and changes the views as the observer sees
pub record Good (me : Noted) (f : Function) (c : Call) (d : Success) : Type 0 where
  pub ok : Proper me d.state
  pub step : Step 32 (view f) (view d.state) (record { took = call_taken me c.command c.bytes; sent = packet_sent me.stu c.command (reading (packet_in c d)) })
  pub legible : is_packet me (packet_in c d) ≡ true
  pub written : d.bytes ++ drop (length d.bytes) c.out ≡ packet_in c d ++ drop (length (packet_in c d)) c.out
  pub apart : (i : Ticket) (a : Range) → accepts i (call_taken me c.command c.bytes) ≡ Some a → packet_in c d ≡ []

module _ (me : Noted) (f : Function) (c : Call) where
  abbrev pub Effects : Function → Option (Sent terms) → Type 0
  Effects g s = Step 32 (view f) (view g) (record { took = call_taken me c.command c.bytes; sent = s })

  -- no Invalidate Request is accepted
  abbrev pub Alone : Type 0
  Alone = (i : Ticket) → accepts i (call_taken me c.command c.bytes) ≡ None

  pub good_plain : (g : Function) (w : Unrefused) → Proper me g → Effects g None → Does (Good me f c) (sends_nothing g w)
  good_plain g w o s = does_nothing (Good me f c) g w (record { ok = o; step = rw nothing_reads s; legible = refl; written = refl; apart = λ i a e. refl })

  -- the packet sent is read as that packet
  pub good_send : (g : Function) (w : Unrefused) (p : Packet) (load : List ℕ) → Typed p → is_ours me (Ok p) ≡ true
      → Proper me g → Alone → Effects g (packet_sent me.stu c.command (Ok p))
      → Does (Good me f c) (sends g w p load c.out)
  good_send g w p load ty ours o alone s = does_write (Good me f c) g w p load c.out one
    where
      whole : (n : ℕ) → writing p (length load) (length c.out) ≡ Ok n
          → take n (bytes_of p load ++ drop (length (bytes_of p load)) c.out) ≡ bytes_of p load
      whole n e = rw e at (sent_bytes p load c.out n e)

      one : (n : ℕ) → writing p (length load) (length c.out) ≡ Ok n
          → Good me f c (record { state = g; answer = w; sent = n; bytes = bytes_of p load })
      one n e =
          let out = take n (bytes_of p load ++ drop (length (bytes_of p load)) c.out) in
          let back : reading out ≡ Ok p = rw e at (sent_reads p load c.out n e ty) in
          record { ok = o; step = rw back s; legible = rw (back, ours) (or-true (eqb (length out) 0)); written = rw (whole n e); apart = λ i a h. no_some (sym (alone i) ∙ h) }

-- nothing is received or sent, and nothing changes
pub quiet : (v : View terms) → Step 32 v v (record { took = None; sent = None })
quiet v =
    record {
      opens = λ t. refl;
      unused = λ t e. no_tf (sym e);
      live = λ t e. inl e;
      entries = λ j e h. inl (j, h);
      through = λ b k e. no_some e;
      direct = λ b k e. no_some e;
      waiting = λ i. refl;
      waits_for = λ i t e. refl;
      carried = λ i. refl;
      first = λ i a p. no_some p;
      lasts = λ g e. e;
      not_yet = λ i a p. no_some p;
      dropped = λ i a p. no_some p;
      stale = λ i a p. no_some p;
    }

-- a write is sent, through an entry if it is translated, and nothing changes
pub writes : (v : View terms) (x : Bool) (b : Wanted) (k : ℕ)
    → ((w : Wanted) (j : ℕ) → cond {A = Option (Wanted × ℕ)} x (Some (b, k)) None ≡ Some (w, j) → Through v w j)
    → ((w : Wanted) (j : ℕ) → cond {A = Option (Wanted × ℕ)} x None (Some (b, k)) ≡ Some (w, j) → terms.asked w j ≡ true)
    → Step 32 v v (record { took = None; sent = Some (WRITE x b k) })
writes v x b k served plain =
    record {
      opens = λ t. refl;
      unused = λ t e. no_tf (sym e);
      live = λ t e. inl e;
      entries = λ j e h. inl (j, h);
      through = served;
      direct = plain;
      waiting = λ i. refl;
      waits_for = λ i t e. refl;
      carried = λ i. refl;
      first = λ i a p. no_some p;
      lasts = λ g e. e;
      not_yet = λ i a p. no_some p;
      dropped = λ i a p. no_some p;
      stale = λ i a p. no_some p;
    }
