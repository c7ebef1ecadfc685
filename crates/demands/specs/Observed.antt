-- What an observer sees of the card, and what its cache holds: the words of demand 3. Serves 01, "How much each call must settle".
use Rattle.std.specs.Prelude.{◌≡◌, Bool, true, false, not, cond, ◌&&◌, ◌||◌, List, ℕ, ◌-◌, ◌*◌, ◌/◌, ◌^◌, eqb, leb, ltb, length, Err, Ok, Result, Option, None, Some}
use Rattle.std.specs.Bool.{beq}
use Rattle.ranges.specs.declared.Range.{Range}
use Rattle.ranges.specs.declared.Translation.{Translation}
use Rattle.ranges.specs.Range.{region_of, rounded_of, range_from, units_from, unit_exponent, overlaps, relocated, is_within}
use Rattle.ranges.specs.Size.{size_of}
use Rattle.std.specs.Option.{option_map}
use Rattle.packet.specs.declared.ITag.{ITag}
use Rattle.packet.specs.declared.Access.{Access}
use Rattle.packet.specs.declared.Access.TheVariants.{Read, Write}
use Rattle.packet.specs.declared.Outcome.{Outcome}
use Rattle.packet.specs.declared.Outcome.TheVariants.{Data, Status}
use Rattle.packet.specs.declared.Body.{Body}
use Rattle.packet.specs.declared.Body.TheVariants.{Tr, Mem, Cpl, Inv, Ic, Prq, Prs}
use Rattle.packet.specs.declared.Packet.{Packet}
use Rattle.packet.specs.Forms.{dword_count}
use Rattle.packet.specs.Kinds.{attr_bits}
use Rattle.packet.specs.Reading.{reading, payload_in}
use Rattle.tlp.specs.Bytes.{are_bytes}
use Rattle.tlp.specs.Translations.{translation_at}
use Rattle.atc.specs.declared.Entry.{Entry}
use Rattle.atc.specs.Cache.{entry_at, entry_overlaps}
use Rattle.tags.specs.Itags.{bit_index, is_in}
use Rattle.translations.specs.Fits.{exponent_or0}
use Rattle.translations.specs.Fills.{allows_access, entry_of, region_index}
use Rattle.state.specs.declared.Function.{Function}
use Rattle.state.specs.State.{fresh, rcb_of}
use Rattle.state.specs.Answers.{Unrefused}
use Rattle.call_access.specs.declared.Direction.{Direction}
use Rattle.call_access.specs.declared.Direction.TheVariants.{Read as ToRead, Write as ToWrite}
use Rattle.on_invalidate.specs.Invalidate.{exponent_or64}
use Rattle.card.specs.declared.Command.{Command}
use Rattle.card.specs.declared.Command.TheVariants.{Reset, Enable, Disable, Ask, Access as Accesses, Receive, Drain, PagesOn, PagesOff, PageRequest}
use Rattle.card.specs.Call.{step}
use Rattle.state.specs.declared.ResetArgs.{ResetArgs}
use Rattle.call_access.specs.declared.AccessArgs.{AccessArgs}
use Rattle.demand3.specs.Terms.{Terms}
use Rattle.demand3.specs.Seen.{Taken, CPL, INV, DRAIN, Sent, TR, READ, WRITE, IC}
use Rattle.demand3.specs.History.{given}
use Rattle.demand3.specs.Runs.{Observer, Machine}

-- ---- the objects that packets are about

-- the range of a Translation Request, and the STU
pub record Asked : Type 0 where
  pub stu : ℕ
  pub range : Range

-- The bytes that an access is for. The address is the argument of the call, not the address sent. An access that no
-- call asked for has no address, and overlaps everything.
pub record Wanted : Type 0 where
  pub address : Option ℕ
  pub bytes : ℕ

-- a completion with data: its Byte Count and its payload
pub record Reply : Type 0 where
  pub count : ℕ
  pub load : List ℕ

-- an entry, with the current STU; `used` is false where a machine shows it as a free slot
pub record Cached : Type 0 where
  pub used : Bool
  pub stu : ℕ
  pub entry : Entry

abbrev pub same_entry : Entry → Entry → Bool
same_entry x y =
    beq x.r y.r && (beq x.w y.w && (beq x.n y.n && (beq x.u y.u
    && (eqb x.unit y.unit && eqb x.to y.to))))

-- this translation of 2 ^ e bytes grants the entry
abbrev pub is_granted : Translation → ℕ → Entry → Bool
is_granted t e x = allows_access t && same_entry x (entry_of t e x.unit)

-- A translation of the payload grants the entry: the one that covers the entry's unit. Regions are counted
-- from that of the first byte of the range; those of an earlier packet come first. All translations have the
-- size of the first in the payload.
abbrev pub is_given : ℕ → ℕ → List ℕ → Entry → Bool
is_given first regions load x =
    let e = exponent_or0 (translation_at load 0).size in
    let k = region_index first e x.unit in
    leb regions k && (ltb (k - regions) (length load / 8) && is_granted (translation_at load (k - regions)) e x)

-- the entry's unit is in the requested range, and the reply, after this many bytes of an
-- earlier packet, grants the entry
abbrev pub is_replied : Asked → ℕ → Reply → Cached → Bool
is_replied q came d x =
    x.used && (eqb x.stu q.stu
    && (is_within (region_of x.entry.unit (unit_exponent q.stu)) q.range && is_given q.range.first (came / 8) d.load x.entry))

-- the entry is in use, its unit holds all the bytes, and the address sent has the same offset in the translated unit
abbrev pub is_served : Cached → Wanted → ℕ → Bool
is_served x b to =
    given b.address
    (λ a. x.used && (is_within (range_from a (b.bytes - 1)) (region_of x.entry.unit (unit_exponent x.stu))
    && (not x.entry.u && eqb to (relocated x.entry.to a (unit_exponent x.stu)))))
    false

abbrev pub terms : Terms
terms =
    record {
      Area = Range;
      Access = Wanted;
      Ask = Asked;
      Data = Reply;
      Entry = Cached;
      access_in = λ a b. given b.address (λ x. overlaps (range_from x (b.bytes - 1)) a) true;
      entry_in = λ a x. x.used && entry_overlaps x.stu a x.entry;
      wanted = λ b. b.bytes;
      size = λ d. length d.load;
      count = λ d. d.count;
      grants = is_replied;
      serves = is_served;
      asked = λ b to. given b.address (λ a. eqb to a) false;
    }

-- ---- what the observer sees of a call

-- arguments have the bounds of their types: 64 bits for an address, 16 for an ID
abbrev pub is_typed : Command → Bool
is_typed (Reset a) = ltb a.id (2 ^ 16)
is_typed Enable = true
is_typed Disable = true
is_typed (Ask a) = ltb a.address (2 ^ 64)
is_typed (Accesses a) = ltb a.address (2 ^ 64)
is_typed Receive = true
is_typed Drain = true
is_typed (PagesOn n) = true
is_typed PagesOff = true
is_typed (PageRequest q) = ltb q.page (2 ^ 64)

-- a call, with the received packet or the payload to write, and the buffer for the packet to send
pub record Call : Type 0 where
  pub command : Command
  pub bytes : List ℕ
  pub out : List ℕ
  pub typed : is_typed command ≡ true
  pub octets : are_bytes bytes ≡ true

-- its answer, and the reported length of the packet sent
pub record Answered : Type 0 where
  pub answer : Result Unrefused ℕ
  pub sent : ℕ

abbrev pub is_refused : {A : Type 0} → Result A ℕ → Bool
is_refused (Ok w) = false
is_refused (Err n) = true

abbrev pub is_refused_with : {A : Type 0} → ℕ → Result A ℕ → Bool
is_refused_with n (Ok w) = false
is_refused_with n (Err m) = eqb n m

-- The commands that demand 3 tells apart: a reset, an access, a received packet and a drain.
pub record Role : Type 0 where
  pub reset : Option ResetArgs
  pub access : Option AccessArgs
  pub receives : Bool
  pub drains : Bool

abbrev pub no_role : Role
no_role = record { reset = None; access = None; receives = false; drains = false }

abbrev pub role_of : Command → Role
role_of (Reset a) = record { reset = Some a; access = None; receives = false; drains = false }
role_of Enable = no_role
role_of Disable = no_role
role_of (Ask a) = no_role
role_of (Accesses a) = record { reset = None; access = Some a; receives = false; drains = false }
role_of Receive = record { reset = None; access = None; receives = true; drains = false }
role_of Drain = record { reset = None; access = None; receives = false; drains = true }
role_of (PagesOn n) = no_role
role_of PagesOff = no_role
role_of (PageRequest q) = no_role

-- the observer's notes: the ID and the STU of the last accepted reset
pub record Noted : Type 0 where
  pub id : ℕ
  pub stu : ℕ

abbrev pub is_reset : Command → Bool
is_reset c = given (role_of c).reset (λ a. true) false

abbrev pub noted_after : Noted → Command → Noted
noted_after me c = given (role_of c).reset (λ a. record { id = a.id; stu = a.stu }) me

-- equality of directions; and the address of a call that reads or writes
abbrev pub same_direction : Direction → Direction → Bool
same_direction ToRead ToRead = true
same_direction ToRead ToWrite = false
same_direction ToWrite ToRead = false
same_direction ToWrite ToWrite = true

abbrev pub address_for : Direction → Command → Option ℕ
address_for direction c =
    given (role_of c).access (λ a. cond (same_direction direction a.direction) (Some a.address) None) None

-- what a completion delivers: data, or a status that ends its request
abbrev pub outcome_taken : ℕ → ℕ → List ℕ → Outcome → Option (Taken terms)
outcome_taken tag count load (Data dwords) = Some (CPL tag 0 (Some (record { count = count; load = load })))
outcome_taken tag count load (Status status) = cond (eqb status 0) None (Some (CPL tag status None))

-- what a received packet delivers: a completion for this Function, or an Invalidate Request with its sender and
-- its range rounded up to the unit
abbrev pub body_taken : Noted → List ℕ → ℕ → Body → Option (Taken terms)
body_taken me load from (Tr t) = None
body_taken me load from (Mem m) = None
body_taken me load from (Cpl c) =
    cond (eqb c.requester me.id) (outcome_taken c.tag.0 c.count load c.outcome) None
body_taken me load from (Inv i) =
    cond (eqb i.device me.id)
    (Some (INV (record { agent = from; number = bit_index i.itag }) (rounded_of i.address (exponent_or64 (size_of i.address i.sized)) (unit_exponent me.stu))))
    None
body_taken me load from (Ic i) = None
body_taken me load from (Prq q) = None
body_taken me load from (Prs s) = None

abbrev pub packet_taken : Noted → List ℕ → Result Packet ℕ → Option (Taken terms)
packet_taken me load (Ok p) = body_taken me load p.head.sender p.body
packet_taken me load (Err n) = None

abbrev pub call_taken : Noted → Command → List ℕ → Option (Taken terms)
call_taken me c bytes =
    cond (role_of c).receives (packet_taken me (payload_in bytes) (reading bytes))
    (cond (role_of c).drains (Some (DRAIN (λ i. true))) None)

-- a received packet is of a kind that the Function takes, and for it
abbrev pub is_for_body : Noted → Body → Bool
is_for_body me (Tr t) = false
is_for_body me (Mem m) = false
is_for_body me (Cpl c) = eqb c.requester me.id
is_for_body me (Inv i) = eqb i.device me.id
is_for_body me (Ic i) = false
is_for_body me (Prq q) = false
is_for_body me (Prs s) = eqb s.device me.id

abbrev pub is_for : Noted → Result Packet ℕ → Bool
is_for me (Err n) = false
is_for me (Ok p) = is_for_body me p.body

abbrev pub is_taken : Noted → Command → List ℕ → Bool
is_taken me c bytes = not (role_of c).receives || is_for me (reading bytes)

-- the ITag with a number; a vector has 32 of them
abbrev pub itag : ℕ → ITag
itag k = record { 0 = k }

abbrev pub is_listed : ℕ → ℕ → Bool
is_listed v k = ltb k 32 && is_in v (itag k)

-- what a packet sends: a Translation Request, a read, a write or an Invalidate Completion
abbrev pub access_sent : Command → ℕ → ℕ → Bool → Access → Option (Sent terms)
access_sent c dwords to translated (Read t) =
    Some (READ t.0 translated (record { address = address_for ToRead c; bytes = 4 * dword_count dwords }) to)
access_sent c dwords to translated Write =
    Some (WRITE translated (record { address = address_for ToWrite c; bytes = 4 * dword_count dwords }) to)

abbrev pub body_sent : ℕ → Command → Body → Option (Sent terms)
body_sent stu c (Tr t) =
    Some (TR t.tag.0 (record { stu = stu; range = units_from t.address (dword_count t.dwords / 2 - 1) stu }))
body_sent stu c (Mem m) = access_sent c m.dwords m.address m.translated m.access
body_sent stu c (Cpl x) = None
body_sent stu c (Inv i) = None
body_sent stu c (Ic i) = Some (IC i.device (is_listed i.vector))
body_sent stu c (Prq q) = None
body_sent stu c (Prs s) = None

abbrev pub packet_sent : ℕ → Command → Result Packet ℕ → Option (Sent terms)
packet_sent stu c (Ok p) = body_sent stu c p.body
packet_sent stu c (Err n) = None

-- a packet of a kind that the Function sends; an Invalidate Completion has Completion Count 1 and completes something
abbrev pub is_sole : Body → Bool
is_sole (Tr t) = true
is_sole (Mem m) = true
is_sole (Cpl c) = false
is_sole (Inv i) = false
is_sole (Ic i) = eqb i.cc 1 && not (eqb i.vector 0)
is_sole (Prq q) = true
is_sole (Prs s) = false

-- with its ID, on Traffic Class 0, with zeros in Attr
abbrev pub is_ours : Noted → Result Packet ℕ → Bool
is_ours me (Ok p) =
    eqb p.head.sender me.id && (eqb p.head.tc 0 && (eqb (attr_bits p.head.attr) 0 && is_sole p.body))
is_ours me (Err n) = false

-- bytes that are read as such a packet, or no bytes
abbrev pub is_packet : Noted → List ℕ → Bool
is_packet me bytes = eqb (length bytes) 0 || is_ours me (reading bytes)

-- The observer sees the command of a call, the bytes that it was given and those that it sent, whether it was refused,
-- and the ID and STU of the last accepted reset.
abbrev pub observer : Observer terms
observer =
    record {
      Call = Call;
      Answer = Answered;
      Notes = Noted;
      refused = λ a. is_refused a.answer;
      busy = λ a. is_refused_with 9 a.answer;
      reported = λ a. a.sent;
      lent = λ c. c.out;
      is_reset = λ c. is_reset c.command;
      took = λ me c. call_taken me c.command c.bytes;
      sent = λ me c p. packet_sent me.stu c.command (reading p);
      note = λ me c x. noted_after me c.command;
      at_first = record { id = 0; stu = 0 };
      is_taken = λ me c. is_taken me c.command c.bytes;
      is_packet = λ me c bytes. is_packet me bytes;
      tags = 32;
    }

-- the entry in a slot, with the current STU
abbrev pub slot_held : ℕ → Option Entry → Option Cached
slot_held stu slot = option_map (λ e. record { used = true; stu = stu; entry = e }) slot

-- the entries of the cache
abbrev pub held_in : Function → ℕ → Option Cached
held_in f j = slot_held f.stu (entry_at f.cache j)

-- the card: its calls do what `step` says, to which their contracts refer
abbrev pub card : Machine observer
card =
    record {
      State = Function;
      new = fresh 0 0 (rcb_of 64);
      state = λ f c. (step f c.command c.bytes c.out).state;
      answer = λ f c. let r = step f c.command c.bytes c.out in record { answer = r.answer; sent = r.sent };
      buffer = λ f c. (step f c.command c.bytes c.out).buffer;
      held = held_in;
    }
