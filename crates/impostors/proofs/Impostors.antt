-- Wrong cards, each of which violates demand 3, on a run that the checker computes. Each differs from the card only as
-- its comment says, as far as that run goes.
use Rattle.std.specs.Prelude.{Err, None, Ok, Result, Some, Option}
use Rattle.std.specs.Option.{option_map}
use mathlib.Core.Path.{◌≡◌, refl, sym, ap, ◌∙◌}
use mathlib.Core.Logic.{⊎_elim}
use mathlib.Core.Bool.{Bool, true, false, cond, ◌&&◌, ◌||◌}
use mathlib.Core.List.{List, [], ◌∷◌, map}
use Prim.Native.Nat.{ℕ, ◌+◌, ◌-◌}
use native.Mathlib.Omega.{arith}
use lib.Dec.{eqb, leb, ltb, lit<}
use lib.ListN.{length, set, get_or}
use Rattle.packet.specs.declared.Tag.{Tag}
use Rattle.packet.specs.declared.Access.TheVariants.{Read as Fetches}
use Rattle.packet.specs.declared.Outcome.{Outcome}
use Rattle.packet.specs.declared.Outcome.TheVariants.{Data, Status}
use Rattle.packet.specs.declared.Body.{Body}
use Rattle.packet.specs.declared.Body.TheVariants.{Tr, Mem, Cpl, Inv, Ic, Prq, Prs}
use Rattle.packet.specs.declared.Packet.{Packet}
use Rattle.packet.specs.Reading.{reading}
use Rattle.packet.specs.Writing.{bytes_of}
use Rattle.atc.specs.Cache.{filled_with, blank}
use Rattle.tags.specs.Tags.{tag_state}
use Rattle.atc.specs.declared.Entry.{Entry}
use Rattle.atc.specs.Cache.{entry_at, emptied}
use Rattle.tags.specs.declared.TagState.{TagState}
use Rattle.tags.specs.declared.TagState.TheVariants.{Free, Translate, Read as Reading}
use Rattle.tags.specs.declared.PendingRead.{PendingRead}
use Rattle.state.specs.declared.Function.{Function}
use Rattle.state.specs.State.{head_of, fresh, rcb_of, with_agent, with_waiting, with_cache, with_tags, with_tag}
use Rattle.state.specs.Answers.{Observed, done, carries, payload_last}
use Rattle.call_access.specs.Access.{memory_request_packet}
use Rattle.call_send.specs.Drain.{invalidate_completion_packet, ready_of}
use Rattle.call_access.specs.declared.Direction.TheVariants.{Read, Write}
use Rattle.card.specs.declared.Command.TheVariants.{Ask, Access}
use Rattle.card.specs.Call.{step}
use Rattle.lemmas.proofs.Bools.{no_tf, no_some}
use Rattle.demand3.specs.Seen.{Taken, CPL, INV, DRAIN}
use Rattle.demand3.specs.History.{given}
use Rattle.demand3.specs.Runs.{Machine, Bench, state_after, Unbroken, Run, arrival, end, Served}
use Rattle.demand3.specs.Order.{Completed, Order}
use Rattle.demand3.proofs.Consequence.{brought_in, brought_in_lem}
use Rattle.demands.specs.Observed.{Call, Cached, Wanted, terms, role_of, is_refused, is_reset, address_for, call_taken, observer, held_in}
use Rattle.impostors.proofs.Runs.{simply, enable, drain, ask, read, granted, granted_late, first_part, both_parts, nothing_said, elsewhere, too_many, request, relaxed_request, another, anothers, garbled, reset, three, four_of_another, page}
use Rattle.lemmas.proofs.Cases.{impossible}
use Rattle.atc.proofs.Laws.{laws}
use Rattle.demands.proofs.Views.{no_entry_lem}
use Rattle.demands.proofs.Invalidates.{held_entry, held_used}
use Rattle.card.proofs.Computed.{computed}

-- the card with another step, which shows other entries
abbrev card_showing : (Function → ℕ → Option Cached) → (Function → Call → Observed) → Machine observer
card_showing shows g =
    record {
      State = Function;
      new = fresh 0 0 (rcb_of 64);
      state = λ f c. (g f c).state;
      answer = λ f c. let r = g f c in record { answer = r.answer; sent = r.sent };
      buffer = λ f c. (g f c).buffer;
      held = shows;
    }

-- the card with another step
abbrev card_by : (Function → Call → Observed) → Machine observer
card_by = card_showing held_in

abbrev honest : Function → Call → Observed
honest f c = step f c.command c.bytes c.out

-- a choice by what a call delivers: a completion, an Invalidate Request, a drain, none of these
abbrev by : {X : Type 0} → Option (Taken terms) → X → X → X → X → X
by None x y z o = o
by (Some (CPL t n d)) x y z o = x
by (Some (INV i a)) x y z o = y
by (Some (DRAIN n)) x y z o = z

abbrev delivered : Call → Option (Taken terms)
delivered c = call_taken (record { id = 0; stu = 0 }) c.command c.bytes

abbrev with_state : Observed → Function → Observed
with_state r f = record { state = f; answer = r.answer; sent = r.sent; buffer = r.buffer }

abbrev with_buffer : Observed → List ℕ → Observed
with_buffer r b = record { state = r.state; answer = r.answer; sent = r.sent; buffer = b }

-- ---- what they do

-- it keeps the entries that an Invalidate Request should delete
abbrev keeper : Function → Call → Observed
keeper f c = let r = honest f c in by (delivered c) r (with_state r (with_cache r.state f.cache)) r r

-- it deletes them, and all others, only when it drains
abbrev tardy : Function → Call → Observed
tardy f c =
    let r = honest f c in
    by (delivered c) r (with_state r (with_cache r.state f.cache)) (with_state r (with_cache r.state (emptied r.state.cache))) r

-- an Invalidate Request changes the tags in a wrong way
abbrev marking : (TagState → TagState) → Function → Call → Observed
marking mark f c = let r = honest f c in by (delivered c) r (with_state r (with_tags r.state (map mark r.state.tags))) r r

-- it leaves Translation Requests live
abbrev revived : TagState → TagState
revived Free = Free
revived (Translate q) = Translate (record { address = q.address; further = q.further; stu = q.stu; stale = false; size = q.size; whole = q.whole; due = q.due })
revived (Reading x) = Reading x

abbrev lively : Function → Call → Observed
lively = marking revived

-- it waits for no read
abbrev unnoted : TagState → TagState
unnoted Free = Free
unnoted (Translate q) = Translate q
unnoted (Reading x) =
    Reading (record { address = x.address; bytes = x.bytes; due = x.due; translated = x.translated; itags = 0 })

abbrev hasty : Function → Call → Observed
hasty = marking unnoted

-- for data of an outstanding read only their length counts, and `left` is the new state of its tag
abbrev left_in : (PendingRead → ℕ → TagState) → Function → Observed → Tag → ℕ → TagState → Observed
left_in left f r t n Free = r
left_in left f r t n (Translate q) = r
left_in left f r t n (Reading x) =
    record { state = with_tag f t (left x n); answer = Ok payload_last; sent = 0; buffer = r.buffer }

abbrev counting_on : (PendingRead → ℕ → TagState) → Function → Observed → Option (Taken terms) → Observed
counting_on left f r None = r
counting_on left f r (Some (CPL t n None)) = r
counting_on left f r (Some (CPL t n (Some d))) =
    left_in left f r (record { 0 = t }) (length d.load) (tag_state f.tags (record { 0 = t }))
counting_on left f r (Some (INV i a)) = r
counting_on left f r (Some (DRAIN n)) = r

abbrev counting : (PendingRead → ℕ → TagState) → Function → Call → Observed
counting left f c = counting_on left f (honest f c) (delivered c)

-- it ends a read after any data for its tag
abbrev early : Function → Call → Observed
early = counting (λ x n. Free)

-- it counts the bytes that come for a read, and ignores Byte Count
abbrev repeater : Function → Call → Observed
repeater = counting (λ x n. cond (leb x.due n) Free (Reading (record { address = x.address; bytes = x.bytes; due = x.due - n; translated = x.translated; itags = x.itags })))

-- it accepts an Invalidate Request, does nothing, and sends a completion for no ITag
abbrev hider : Function → Call → Observed
hider f c = let r = honest f c in by (delivered c) r (record { state = f; answer = Ok (carries 0); sent = 16; buffer = bytes_of (invalidate_completion_packet 0 (Some 0x0200) 0) [] }) r r

-- a drain never sends anything
abbrev mute : Function → Call → Observed
mute f c =
    let r = honest f c in by (delivered c) r r (record { state = f; answer = Ok (carries 0); sent = 0; buffer = c.out }) r

-- it reports a packet's length and writes nothing
abbrev unwritten : Function → Call → Observed
unwritten f c = let r = honest f c in by (delivered c) r r (with_buffer r c.out) r

-- its completions have another sender's ID
abbrev alias : Function → Call → Observed
alias f c = let r = honest f c in by (delivered c) r r (with_buffer r (bytes_of (invalidate_completion_packet 9 f.agent (ready_of f)) [])) r

-- its completions have Completion Count 2
abbrev half : Function → Call → Observed
half f c = let r = honest f c in by (delivered c) r r (with_buffer r (set r.buffer 11 2)) r

-- its completions go to another device
abbrev astray : Function → Call → Observed
astray f c = let r = honest f c in by (delivered c) r r (with_buffer r (bytes_of (invalidate_completion_packet f.id (Some 8) (ready_of f)) [])) r

-- every request is sent with tag 0
abbrev again : Function → Call → Observed
again f c = let r = honest f c in by (delivered c) r r r (with_buffer r (set r.buffer 6 0))

-- it sends a read of its own, whenever a call delivers none of these
abbrev curious : Function → Call → Observed
curious f c =
    let r = honest f c in
    by (delivered c) r r r (record { state = r.state; answer = Ok done; sent = 12; buffer = bytes_of (memory_request_packet 0 (Fetches (record { 0 = 0 })) 1 (record { address = 0x7000; translated = true })) [] })

-- it takes a completion without data, and status 000, for the end of a read
abbrev empty_in : Body → Option ℕ
empty_in (Cpl c) = ended c.outcome
  where
    ended : Outcome → Option ℕ
    ended (Data dwords) = None
    ended (Status status) = cond (eqb status 0) (Some c.tag.0) None
empty_in (Tr t) = None
empty_in (Mem m) = None
empty_in (Inv i) = None
empty_in (Ic i) = None
empty_in (Prq q) = None
empty_in (Prs s) = None

abbrev empty_for : Result Packet ℕ → Option ℕ
empty_for (Err n) = None
empty_for (Ok p) = empty_in p.body

abbrev gullible : Function → Call → Observed
gullible f c = given (empty_for (reading c.bytes)) (λ t. record { state = with_tag f (record { 0 = t }) Free; answer = Ok done; sent = 0; buffer = c.out }) (honest f c)

-- it takes completions for other Functions as its own
abbrev renamed : Function → ℕ → Function
renamed f id =
    record {
      id = id;
      stu = f.stu;
      rcb = f.rcb;
      enabled = f.enabled;
      agent = f.agent;
      waiting = f.waiting;
      cache = f.cache;
      tags = f.tags;
      pages = f.pages;
    }

abbrev requester_in : Body → Option ℕ
requester_in (Cpl c) = Some c.requester
requester_in (Tr t) = None
requester_in (Mem m) = None
requester_in (Inv i) = None
requester_in (Ic i) = None
requester_in (Prq q) = None
requester_in (Prs s) = None

abbrev requester : Result Packet ℕ → Option ℕ
requester (Err n) = None
requester (Ok p) = requester_in p.body

abbrev anyones : Function → Call → Observed
anyones f c = given (requester (reading c.bytes)) (λ id. let r = honest (renamed f id) c in with_state r (renamed r.state f.id)) (honest f c)

-- it takes Invalidate Requests from anyone
abbrev obliging : Function → Call → Observed
obliging f c = by (delivered c) (honest f c) (honest (with_agent f None) c) (honest f c) (honest f c)

-- it takes them even with an ITag that waits
abbrev twofold : Function → Call → Observed
twofold f c = by (delivered c) (honest f c) (honest (with_waiting (with_agent f None) 0) c) (honest f c) (honest f c)

-- one additional read: translated, to 10 0000h, with tag 0, for any call
abbrev parting : Observed → Observed
parting r = record { state = r.state; answer = r.answer; sent = 12; buffer = bytes_of (memory_request_packet 0 (Fetches (record { 0 = 0 })) 1 (record { address = 0x10_0000; translated = true })) [] }

-- it sends that read when it accepts an Invalidate Request
abbrev last_word : Function → Call → Observed
last_word f c = let r = honest f c in by (delivered c) r (parting r) r r

-- it sends that read when it is reset
abbrev chatty : Function → Call → Observed
chatty f c = let r = honest f c in cond (is_reset c.command) (parting r) r

-- it sends that read instead of a write
abbrev substitute : Function → Call → Observed
substitute f c = given (address_for Write c.command) (λ a. parting (honest f c)) (honest f c)

-- its packet has a byte 7 that no packet has, so that the observer sees no read
abbrev mumbler : Function → Call → Observed
mumbler f c = let r = honest f c in by (delivered c) r r r (with_buffer r (set r.buffer 7 0x0E))

-- it keeps what it should delete, and shows an empty cache
abbrev shadow_card : Machine observer
shadow_card = card_showing (λ f j. None) keeper

-- it ends a read when at least the bytes that are due have come
abbrev overfed : Function → Call → Observed
overfed = counting (λ x n. cond (leb x.due n) Free (Reading x))

-- it sends every access untranslated, to the translated address
abbrev launderer : Function → Call → Observed
launderer f c = given (address_for Read c.command) (λ a. let r = honest f c in record { state = r.state; answer = r.answer; sent = r.sent; buffer = set r.buffer 2 0 }) (honest f c)

-- it sends a read across the end of the unit
abbrev straddler : Function → Call → Observed
straddler f c = given (address_for Read c.command) (λ a. record { state = f; answer = Ok done; sent = 12; buffer = bytes_of (memory_request_packet 0 (Fetches (record { 0 = 0 })) 2 (record { address = 0x10_0FFC; translated = true })) [] }) (honest f c)

-- it writes packets into the buffer, and reports length 0
abbrev whisperer : Function → Call → Observed
whisperer f c = let r = honest f c in record { state = r.state; answer = r.answer; sent = 0; buffer = r.buffer }

-- it accepts what does not read as a packet
abbrev nodder : Function → Call → Observed
nodder f c = let r = honest f c in cond (is_refused r.answer) (record { state = f; answer = Ok done; sent = 0; buffer = c.out }) r

-- its reset keeps the cache
abbrev survivor : Function → Call → Observed
survivor f c = let r = honest f c in cond (is_reset c.command) (with_state r (with_cache r.state f.cache)) r

-- its reset keeps the agent and the ITags that wait
abbrev rememberer : Function → Call → Observed
rememberer f c = let r = honest f c in cond (is_reset c.command) (with_state r (with_waiting (with_agent r.state f.agent) f.waiting)) r

-- it makes up an entry when it is enabled
abbrev made_up : Entry
made_up = record { r = true; w = true; n = false; u = false; unit = 0x5000; to = 0x10_0000 }

abbrev inventor : Function → Call → Observed
inventor f c =
    let r = honest f c in by (delivered c) r r r (with_state r (with_cache r.state (filled_with made_up r.state.cache)))

-- it drains with a completion for no ITag
abbrev hollow : Function → Call → Observed
hollow f c = let r = honest f c in by (delivered c) r r (with_buffer (record { state = f; answer = Ok (carries 0); sent = 16; buffer = r.buffer }) (bytes_of (invalidate_completion_packet 0 (Some 0x0200) 0) [])) r

-- it sends a PRG Response
abbrev foreign : Function → Call → Observed
foreign f c = let r = honest f c in by (delivered c) r r r (record { state = r.state; answer = Ok done; sent = 16; buffer = bytes_of (record { head = head_of 0; body = Prs (record { index = record { 0 = 0 }; device = 0; code = 0 }) }) [] })

-- it shows old entries as free slots, and goes on using them
abbrev tombs : Function → ℕ → Option Cached
tombs f j = option_map (λ e. record { used = false; stu = f.stu; entry = e }) (entry_at f.cache j)

abbrev tombs_card : Machine observer
tombs_card = card_showing tombs keeper

-- ---- three with more state than a Function

pub record Odd : Type 0 where
  pub inner : Function
  pub drawer : Option Entry
  pub flag : Bool

abbrev odd_by : (Odd → Call → Odd) → (Odd → Call → List ℕ) → Machine observer
odd_by moves writes =
    record {
      State = Odd;
      new = record { inner = fresh 0 0 (rcb_of 64); drawer = None; flag = false };
      state = moves;
      answer = λ x c. let r = honest x.inner c in record { answer = r.answer; sent = r.sent };
      buffer = writes;
      held = λ x j. held_in x.inner j;
    }

-- it keeps an old entry outside the cache, and puts it back when a completion comes
abbrev put_back : Function → Option Entry → Function
put_back f None = f
put_back f (Some e) = with_cache f (filled_with e f.cache)

abbrev drawer_moves : Odd → Call → Odd
drawer_moves x c =
    let g = (honest x.inner c).state in
    let same : Odd = record { inner = g; drawer = x.drawer; flag = false } in
    by (delivered c) (record { inner = put_back g x.drawer; drawer = x.drawer; flag = false }) (record { inner = g; drawer = entry_at x.inner.cache 0; flag = false }) same same

abbrev drawer_card : Machine observer
drawer_card = odd_by drawer_moves (λ x c. (honest x.inner c).buffer)

-- it drains correctly once, and then only answers that it did
abbrev idle_moves : Odd → Call → Odd
idle_moves x c = record { inner = (honest x.inner c).state; drawer = None; flag = x.flag || by (delivered c) false false true false }

abbrev idle_card : Machine observer
idle_card = odd_by idle_moves (λ x c. cond x.flag c.out (honest x.inner c).buffer)

-- once it has received a packet with Relaxed Ordering, whatever it sends has Relaxed Ordering
abbrev is_relaxed : Result Packet ℕ → Bool
is_relaxed (Ok p) = p.head.attr.relaxed
is_relaxed (Err n) = false

abbrev echo_moves : Odd → Call → Odd
echo_moves x c = record { inner = (honest x.inner c).state; drawer = None; flag = x.flag || ((role_of c.command).receives && is_relaxed (reading c.bytes)) }

abbrev echo_card : Machine observer
echo_card = odd_by echo_moves (λ x c. let r = honest x.inner c in cond (x.flag && ltb 0 r.sent) (set r.buffer 2 (get_or r.buffer 2 0 + 0x20)) r.buffer)

-- ---- why they are refused

no_cons : {x : ℕ} {xs : List ℕ} → x ∷ xs ≡ [] → ⊥
no_cons e = impossible cc

-- newest first: a read of the page is open with tag 0, a Translation Request for it with tag 1
abbrev warm : List Call
warm = ask ∷ read ∷ granted ∷ ask ∷ enable ∷ []

-- a page is cached
abbrev cached : List Call
cached = granted ∷ ask ∷ enable ∷ []

module _ (M : Machine observer) where
  abbrev new : Bench M
  new = record { fn = M.new; notes = record { id = 0; stu = 0 } }

  -- a run from a new Function
  abbrev to : (before : List Call) (c : Call) (since : List Call) → Unbroken M new (c ∷ before)
      → Unbroken M (state_after M new (c ∷ before)) since → Run M new
  to before c since u v = record { before = before; call = c; since = since; unbroken = u; goes_on = v }

  -- one of the calls since the request delivered an overlapping entry
  shown : Order M → (r : Run M new) → Completed M r three page → (j : ℕ) (e : Cached) → M.held (end M r).fn j ≡ Some e
      → terms.entry_in page e ≡ true
      → brought_in M e (arrival M r) r.since ≡ true
  shown d r z j e p o = brought_in_lem M e (arrival M r) r.since (d.new.letter.entries r three page z e (j, p) o)

-- what a tomb shows serves nothing
no_tomb : (f : Function) (b : Wanted) (k : ℕ) → Served tombs_card f b k → ⊥
no_tomb f b k s = go b.address refl
  where
    shows : (slot : Option Entry) (e : Cached)
        → option_map (λ x. record { used = false; stu = f.stu; entry = x }) slot ≡ Some e → e.used ≡ false
    shows None e h = no_some h
    shows (Some x) e h =
        let same : record { used = false; stu = f.stu; entry = x } ≡ e = cc in sym (ap (λ (y : Cached). y.used) same)

    is_free : s.entry.used ≡ false
    is_free = shows (entry_at f.cache s.held.0) s.entry s.held.1

    go : (x : Option ℕ) → b.address ≡ x → ⊥
    go None n = no_tf (sym (rw n at s.serves))
    go (Some x) n = no_tf (sym (rw (n, is_free) at s.serves))

-- where one entry is cached, what is held is that entry
only_one : (f : Function) (e : Entry) → f.cache ≡ filled_with e blank → (j : ℕ) (y : Cached) → held_in f j ≡ Some y
    → y ≡ record { used = true; stu = f.stu; entry = e }
only_one f e is j y h =
    ⊎_elim
    (λ a. no_some (sym (no_entry_lem f.stu (entry_at f.cache j) (rw is (a ∙ laws.new_entry j))) ∙ h))
    (λ a. let held = held_entry f.stu (entry_at f.cache j) y h in
    let same : Some e ≡ Some y.entry = sym (rw is a) ∙ held.0 in
    let is_e : e ≡ y.entry = cc in
    sym (rw (held.1, is_e) (ap (λ (u : Bool). record { used = u; stu = y.stu; entry = y.entry }) (held_used f.stu (entry_at f.cache j) y h))))
    (laws.fill_entry e blank laws.new_sound j)

-- none of them satisfies demand 3
pub record Refused : Type 1 where
  pub keeper : Order (card_by keeper) → ⊥
  pub tardy : Order (card_by tardy) → ⊥
  pub lively : Order (card_by lively) → ⊥
  pub hasty : Order (card_by hasty) → ⊥
  pub early : Order (card_by early) → ⊥
  pub overfed : Order (card_by overfed) → ⊥
  pub drawer : Order drawer_card → ⊥
  pub hider : Order (card_by hider) → ⊥
  pub mute : Order (card_by mute) → ⊥
  pub unwritten : Order (card_by unwritten) → ⊥
  pub astray : Order (card_by astray) → ⊥
  pub idle : Order idle_card → ⊥
  pub echo : Order echo_card → ⊥
  pub again : Order (card_by again) → ⊥
  pub curious : Order (card_by curious) → ⊥
  pub repeater : Order (card_by repeater) → ⊥
  pub gullible : Order (card_by gullible) → ⊥
  pub anyones : Order (card_by anyones) → ⊥
  pub twofold : Order (card_by twofold) → ⊥
  pub obliging : Order (card_by obliging) → ⊥
  pub last_word : Order (card_by last_word) → ⊥
  pub chatty : Order (card_by chatty) → ⊥
  pub substitute : Order (card_by substitute) → ⊥
  pub mumbler : Order (card_by mumbler) → ⊥
  pub alias : Order (card_by alias) → ⊥
  pub half : Order (card_by half) → ⊥
  pub hollow : Order (card_by hollow) → ⊥
  pub foreign : Order (card_by foreign) → ⊥
  pub shadow : Order shadow_card → ⊥
  pub tombs : Order tombs_card → ⊥
  pub straddler : Order (card_by straddler) → ⊥
  pub launderer : Order (card_by launderer) → ⊥
  pub whisperer : Order (card_by whisperer) → ⊥
  pub nodder : Order (card_by nodder) → ⊥
  pub survivor : Order (card_by survivor) → ⊥
  pub rememberer : Order (card_by rememberer) → ⊥
  pub inventor : Order (card_by inventor) → ⊥

pub refused : Refused
unfolding computed
refused =
    record {
      keeper = λ d. let M = card_by keeper in no_tf (sym (shown M d (to M warm request (drain ∷ both_parts ∷ []) (refl, (refl, (refl, (refl, (refl, (refl, tt)))))) (refl, (refl, tt))) (refl, lit< tt) 0 _ refl refl));
      tardy = λ d. let M = card_by tardy in d.new.beyond.sooner (to M cached request [] (refl, (refl, (refl, (refl, tt)))) tt) three page refl _ (0, refl) refl;
      lively = λ d. let M = card_by lively in no_tf (sym (shown M d (to M warm request (granted_late ∷ drain ∷ both_parts ∷ []) (refl, (refl, (refl, (refl, (refl, (refl, tt)))))) (refl, (refl, (refl, tt)))) (refl, lit< tt) 0 _ refl refl));
      hasty = λ d. let M = card_by hasty in no_some (sym (d.new.letter.reads (to M warm request (drain ∷ []) (refl, (refl, (refl, (refl, (refl, (refl, tt)))))) (refl, tt)) three page (refl, lit< tt) 0));
      early = λ d. let M = card_by early in no_some (sym (d.new.letter.reads (to M warm request (drain ∷ first_part ∷ []) (refl, (refl, (refl, (refl, (refl, (refl, tt)))))) (refl, (refl, tt))) three page (refl, lit< tt) 0));
      overfed = λ d. let M = card_by overfed in no_some (sym (d.new.letter.reads (to M warm request (drain ∷ too_many ∷ []) (refl, (refl, (refl, (refl, (refl, (refl, tt)))))) (refl, (refl, tt))) three page (refl, lit< tt) 0));
      drawer = λ d. let M = drawer_card in no_tf (sym (shown M d (to M cached request (granted ∷ simply (Ask (record { address = 0x9000; units = 1; nowrite = false })) refl ∷ drain ∷ []) (refl, (refl, (refl, (refl, tt)))) (refl, (refl, (refl, tt)))) (refl, lit< tt) 1 _ refl refl));
      hider = λ d. let M = card_by hider in let z : ◌≡◌ {A = ℕ} 1 0 = d.new.letter.counts (to M (request ∷ []) drain [] (refl, (refl, tt)) tt) three in omega arith;
      mute = λ d. let M = card_by mute in let z : ◌≡◌ {A = ℕ} 1 0 = d.new.letter.counts (to M (request ∷ []) drain [] (refl, (refl, tt)) tt) three in omega arith;
      unwritten = λ d. let M = card_by unwritten in let z : ◌≡◌ {A = ℕ} 1 0 = d.new.letter.counts (to M (request ∷ []) drain [] (refl, (refl, tt)) tt) three in omega arith;
      astray = λ d. let M = card_by astray in let z : ◌≡◌ {A = ℕ} 1 0 = d.new.letter.counts (to M (request ∷ []) drain [] (refl, (refl, tt)) tt) three in omega arith;
      idle = λ d. let M = idle_card in let z : ◌≡◌ {A = ℕ} 2 1 = d.new.letter.counts (to M (request ∷ drain ∷ request ∷ []) drain [] (refl, (refl, (refl, (refl, tt)))) tt) three in omega arith;
      echo = λ d. let M = echo_card in no_tf (sym (d.new.beyond.legible (to M (relaxed_request ∷ []) drain [] (refl, (refl, tt)) tt)));
      again = λ d. let M = card_by again in no_some (sym (d.new.beyond.tags (to M (ask ∷ enable ∷ []) ask [] (refl, (refl, (refl, tt))) tt) 0 refl).1);
      curious = λ d. let M = card_by curious in no_some (sym (d.new.letter.reads (to M (enable ∷ []) request (drain ∷ []) (refl, (refl, tt)) (refl, tt)) three page (refl, lit< tt) 0));
      repeater = λ d. let M = card_by repeater in no_some (sym (d.new.letter.reads (to M warm request (drain ∷ first_part ∷ first_part ∷ []) (refl, (refl, (refl, (refl, (refl, (refl, tt)))))) (refl, (refl, (refl, tt)))) three page (refl, lit< tt) 0));
      gullible = λ d. let M = card_by gullible in no_some (sym (d.new.letter.reads (to M warm request (drain ∷ nothing_said ∷ []) (refl, (refl, (refl, (refl, (refl, (refl, tt)))))) (refl, (refl, tt))) three page (refl, lit< tt) 0));
      anyones = λ d. let M = card_by anyones in no_some (sym (d.new.letter.reads (to M warm request (drain ∷ elsewhere ∷ []) (refl, (refl, (refl, (refl, (refl, (refl, tt)))))) (refl, (refl, tt))) three page (refl, lit< tt) 0));
      obliging = λ d. let M = card_by obliging in let z : ◌≡◌ {A = ℕ} 0x0200 0x0300 = d.new.beyond.agent (to M (request ∷ []) another [] (refl, (refl, tt)) tt) three four_of_another (lit< tt) (lit< tt) in omega arith;
      twofold = λ d. let M = card_by twofold in let z : ◌≡◌ {A = ℕ} 2 1 = d.new.letter.sums (to M (request ∷ []) anothers [] (refl, (refl, tt)) tt) 3 in omega arith;
      last_word = λ d. let M = card_by last_word in no_cons (d.new.beyond.apart (to M [] request [] (refl, tt) tt) three page refl);
      chatty = λ d. no_cons (d.silent (new (card_by chatty)) reset refl).0;
      substitute = λ d. let M = card_by substitute in no_some (sym (d.new.letter.reads (to M (simply (Access (record { direction = Write; address = 0x9000; dwords = 1 })) refl ∷ []) request (drain ∷ []) (refl, (refl, tt)) (refl, tt)) three page (refl, lit< tt) 0));
      mumbler = λ d. let M = card_by mumbler in no_tf (sym (d.new.beyond.legible (to M cached read [] (refl, (refl, (refl, (refl, tt)))) tt)));
      alias = λ d. let M = card_by alias in no_tf (sym (d.new.beyond.legible (to M (request ∷ []) drain [] (refl, (refl, tt)) tt)));
      half = λ d. let M = card_by half in no_tf (sym (d.new.beyond.legible (to M (request ∷ []) drain [] (refl, (refl, tt)) tt)));
      hollow = λ d. let M = card_by hollow in no_tf (sym (d.new.beyond.legible (to M [] drain [] (refl, tt) tt)));
      foreign = λ d. let M = card_by foreign in no_tf (sym (d.new.beyond.legible (to M [] enable [] (refl, tt) tt)));
      shadow = λ d. let M = shadow_card in no_some (d.new.beyond.through (to M cached read [] (refl, (refl, (refl, (refl, tt)))) tt) _ _ refl).held.1;
      tombs = λ d. let M = tombs_card in no_tomb _ _ _ (d.new.beyond.through (to M (request ∷ cached) read [] (refl, (refl, (refl, (refl, (refl, tt))))) tt) _ _ refl);
      straddler = λ d. let M = card_by straddler in
          let s = d.new.beyond.through (to M cached (simply (Access (record { direction = Read; address = 0x5FFC; dwords = 2 })) refl) [] (refl, (refl, (refl, (refl, tt)))) tt) _ _ refl in
          let one = only_one (state_after M (new M) cached).fn made_up refl s.held.0 s.entry s.held.1 in no_tf (sym (rw one at s.serves));
      launderer = λ d. let M = card_by launderer in no_tf (sym (d.new.beyond.direct (to M cached read [] (refl, (refl, (refl, (refl, tt)))) tt) _ _ refl));
      whisperer = λ d. let M = card_by whisperer in let z : ◌≡◌ {A = ℕ} 2 0 = ap (λ (l : List ℕ). get_or l 3 0) (d.new.beyond.written (to M cached read [] (refl, (refl, (refl, (refl, tt)))) tt)) in omega arith;
      nodder = λ d. let M = card_by nodder in no_tf (sym (d.new.beyond.taken (to M [] garbled [] (refl, tt) tt) refl));
      survivor = λ d. let M = card_by survivor in (d.reset (state_after M (new M) cached) reset refl).empty _ (0, refl);
      rememberer = λ d. let M = card_by rememberer in no_tf (sym (((d.reset (state_after M (new M) (request ∷ [])) reset refl).letter.nine (record { before = []; call = request; since = []; unbroken = (refl, tt); goes_on = tt }) three page refl).0 refl));
      inventor = λ d. let M = card_by inventor in ⊎_elim (λ h. d.new.empty _ h) (λ z. ⊎_elim (λ e. no_tf (sym e)) (λ e. e.1) z) (d.new.beyond.origin (to M [] enable [] (refl, tt) tt) (record { used = true; stu = 0; entry = made_up }) (0, refl));
    }
