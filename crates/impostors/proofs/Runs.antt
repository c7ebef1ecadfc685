-- Two runs of the card that the checker computes, in which every case of demand 3 occurs.
use Rattle.std.specs.Prelude.{Err, Ok, None, Some}
use mathlib.Core.Path.{◌≡◌, refl}
use mathlib.Core.Bool.{true, false}
use mathlib.Core.List.{List, [], ◌∷◌, ◌++◌}
use Prim.Native.Nat.{ℕ}
use lib.Dec.{lit<}
use lib.ListN.{replicate}
use Rattle.packet.specs.Frames.{four_bytes}
use Rattle.ranges.specs.declared.Range.{Range}
use Rattle.tlp.specs.Bytes.{are_bytes}
use Rattle.state.specs.State.{fresh, rcb_of}
use Rattle.state.specs.Answers.{done}
use Rattle.call_access.specs.declared.Direction.TheVariants.{Read}
use Rattle.card.specs.declared.Command.{Command}
use Rattle.card.specs.declared.Command.TheVariants.{Reset, Enable, Ask, Access, Receive, Drain}
use Rattle.demand3.specs.Seen.{Ticket}
use Rattle.demand3.specs.History.{fetch, accepts, open_at, read_in, remains, waits, completions}
use Rattle.demand3.specs.Runs.{Bench, next, seen, state_after, history, Unbroken, Run}
use Rattle.demand3.specs.Order.{Completed}
use Rattle.demand3.proofs.Consequence.{brought_in}
use Rattle.demands.specs.Observed.{Call, Cached, is_typed, held_in, card}
use Rattle.card.proofs.Computed.{computed}

-- ---- calls on the card, each with a buffer of 24 bytes

abbrev pub room : List ℕ
room = replicate 24 0

abbrev pub simply : (c : Command) → is_typed c ≡ true → Call
simply c ty = record { command = c; bytes = []; out = room; typed = ty; octets = refl }

abbrev pub enable : Call
enable = simply Enable refl

abbrev pub drain : Call
drain = simply Drain refl

abbrev pub receive : (bytes : List ℕ) → are_bytes bytes ≡ true → Call
receive bytes are = record { command = Receive; bytes = bytes; out = room; typed = refl; octets = are }

-- one unit from 5000h on, and a read of two DWORDs there
abbrev pub ask : Call
ask = simply (Ask (record { address = 0x5000; units = 1; nowrite = false })) refl

abbrev pub read : Call
read = simply (Access (record { direction = Read; address = 0x5000; dwords = 2 })) refl

-- a completion with one translation, of a page with R and W: 10 0000h for tag 0, the same for
-- tag 1, and 20 0000h for tag 0
abbrev pub granted : Call
granted = receive (four_bytes 0x4A00_0002 ++ four_bytes 0x0008_0008 ++ four_bytes 0x0000_0038 ++ four_bytes 0 ++ four_bytes 0x0010_0003) refl

abbrev pub granted_late : Call
granted_late = receive (four_bytes 0x4A00_0002 ++ four_bytes 0x0008_0008 ++ four_bytes 0x0000_0138 ++ four_bytes 0 ++ four_bytes 0x0010_0003) refl

abbrev pub granted_anew : Call
granted_anew = receive (four_bytes 0x4A00_0002 ++ four_bytes 0x0008_0008 ++ four_bytes 0x0000_0038 ++ four_bytes 0 ++ four_bytes 0x0020_0003) refl

-- the first and the last four bytes of the read, and all eight at once
abbrev pub first_part : Call
first_part = receive (four_bytes 0x4A00_0001 ++ four_bytes 0x0008_0008 ++ four_bytes 0 ++ four_bytes 0x1122_3344) refl

abbrev pub last_part : Call
last_part = receive (four_bytes 0x4A00_0001 ++ four_bytes 0x0008_0004 ++ four_bytes 4 ++ four_bytes 0x5566_7788) refl

abbrev pub both_parts : Call
both_parts = receive (four_bytes 0x4A00_0002 ++ four_bytes 0x0008_0008 ++ four_bytes 0 ++ four_bytes 0x1122_3344 ++ four_bytes 0x5566_7788) refl

-- twelve bytes where eight are due
abbrev pub too_many : Call
too_many = receive (four_bytes 0x4A00_0003 ++ four_bytes 0x0008_0008 ++ four_bytes 0 ++ four_bytes 1 ++ four_bytes 2 ++ four_bytes 3) refl

-- a completion without data and with status 000 for tag 0, which has no effect
abbrev pub nothing_said : Call
nothing_said = receive (four_bytes 0x0A00_0000 ++ four_bytes 0x0008_0008 ++ four_bytes 0) refl

-- all eight bytes for Function 0300h
abbrev pub elsewhere : Call
elsewhere = receive (four_bytes 0x4A00_0002 ++ four_bytes 0x0008_0008 ++ four_bytes 0x0300_0000 ++ four_bytes 0x1122_3344 ++ four_bytes 0x5566_7788) refl

-- an Invalidate Request of ITag 3, from 0200h, for the page at 5000h
abbrev pub request : Call
request = receive (four_bytes 0x7200_0002 ++ four_bytes 0x0200_0301 ++ four_bytes 0 ++ four_bytes 0 ++ four_bytes 0 ++ four_bytes 0x5000) refl

-- the same with Relaxed Ordering
abbrev pub relaxed_request : Call
relaxed_request = receive (four_bytes 0x7200_2002 ++ four_bytes 0x0200_0301 ++ four_bytes 0 ++ four_bytes 0 ++ four_bytes 0 ++ four_bytes 0x5000) refl

-- one of ITag 4 from 0300h
abbrev pub another : Call
another = receive (four_bytes 0x7200_0002 ++ four_bytes 0x0300_0401 ++ four_bytes 0 ++ four_bytes 0 ++ four_bytes 0 ++ four_bytes 0x5000) refl

-- one of ITag 3 from 0300h, and one with TD set, which does not read as a packet
abbrev pub anothers : Call
anothers = receive (four_bytes 0x7200_0002 ++ four_bytes 0x0300_0301 ++ four_bytes 0 ++ four_bytes 0 ++ four_bytes 0 ++ four_bytes 0x5000) refl

abbrev pub garbled : Call
garbled = receive (four_bytes 0x7200_8002 ++ four_bytes 0x0200_0301 ++ four_bytes 0 ++ four_bytes 0 ++ four_bytes 0 ++ four_bytes 0x5000) refl

abbrev pub reset : Call
reset = simply (Reset (record { id = 0; stu = 0; rcb = 64 })) refl

abbrev pub three : Ticket
three = record { agent = 0x0200; number = 3 }

abbrev pub four_of_another : Ticket
four_of_another = record { agent = 0x0300; number = 4 }

abbrev pub page : Range
page = record { first = 0x5000; last = 0x5FFF }

-- STU 99 is refused
abbrev pub wrong_reset : Call
wrong_reset = simply (Reset (record { id = 1; stu = 99; rcb = 64 })) refl

-- ---- a run from a new Function, newest call first

abbrev pub begin : Bench card
begin = record { fn = fresh 0 0 (rcb_of 64); notes = record { id = 0; stu = 0 } }

-- a read of the page is open with tag 0, a Translation Request for it with tag 1
abbrev pub warm : List Call
warm = ask ∷ read ∷ granted ∷ ask ∷ enable ∷ []

-- the read is still open after its first part, and a refused reset changes nothing
abbrev pub held : List Call
held = drain ∷ first_part ∷ wrong_reset ∷ drain ∷ []

-- the read ends, and the next drain sends the completion; then the old Translation Request is completed
abbrev pub late : List Call
late = granted_late ∷ drain ∷ last_part ∷ held

-- and a new one is sent and completed
abbrev pub anew : List Call
anew = granted_anew ∷ ask ∷ late

abbrev pub then : Bench card
then = state_after card begin (request ∷ warm)

-- the page at 20 0000h
abbrev pub fresher : Cached
fresher = record { used = true; stu = 0; entry = record { r = true; w = true; n = false; u = false; unit = 0x5000; to = 0x20_0000 } }

-- ---- units of 8192 bytes

abbrev pub large : Bench card
large = next card begin (simply (Reset (record { id = 0; stu = 1; rcb = 64 })) refl)

-- 8192 bytes at 10 0000h, and a read of the lower half of the unit at 4000h, of which the
-- request names only the upper half
abbrev pub warm_large : List Call
warm_large = simply (Access (record { direction = Read; address = 0x4000; dwords = 2 })) refl ∷ receive (four_bytes 0x4A00_0002 ++ four_bytes 0x0008_0008 ++ four_bytes 0x0000_0038 ++ four_bytes 0 ++ four_bytes 0x0010_0803) refl ∷ ask ∷ enable ∷ []

-- the run as one record
pub unbroken_warm : Unbroken card begin (request ∷ warm)
unfolding computed
unbroken_warm = (refl, (refl, (refl, (refl, (refl, (refl, tt))))))

pub unbroken_anew : Unbroken card then anew
unfolding computed
unbroken_anew = (refl, (refl, (refl, (refl, (refl, (refl, (refl, (refl, (refl, tt)))))))))

abbrev pub whole : Run card begin
whole = record { before = warm; call = request; since = anew; unbroken = unbroken_warm; goes_on = unbroken_anew }

-- What happens there: the read is open; the request is accepted; the first drains send nothing, the ITag waits, and the
-- same request is refused with 9; then one completion is sent, the ITag no longer waits, and the request can come
-- again; the old entry is deleted, and the old reply brings nothing; the new reply brings the new page into slot 0; the
-- old read is closed. With units of 8192 bytes the request is for the whole unit: its entry is deleted at once, and the
-- read in its lower half delays the completion until it ends.
pub record Happens : Type 0 where
  pub opens : read_in page (open_at 0 (history card begin warm))
      ≡ Some (fetch true (record { address = Some 0x5000; bytes = 8 }) 8)
  pub arrives : accepts three (seen card (state_after card begin warm) request).took ≡ Some page
  pub holds : (completions three (history card then held) ≡ 0)
      × (waits 32 three (history card begin (held ++ request ∷ warm)) ≡ true)
  pub refuses : (card.answer (state_after card begin (held ++ request ∷ warm)).fn request).answer ≡ Err 9
  pub free : (card.answer (state_after card begin (late ++ request ∷ warm)).fn request).answer ≡ Ok done
  pub completes : (completions three (history card then late) ≡ 1)
      × (waits 32 three (history card begin (late ++ request ∷ warm)) ≡ false)
  pub drops : held_in then.fn 0 ≡ None
  pub ignores : held_in (state_after card then late).fn 0 ≡ None
  pub fills : held_in (state_after card then anew).fn 0 ≡ Some fresher
  pub came : brought_in card fresher then anew ≡ true
  pub closed : remains 0 (history card then late) (read_in page (open_at 0 (history card begin warm))) ≡ None
  pub cached : held_in (state_after card large warm_large).fn 0 ≡ Some (record { used = true; stu = 1; entry = record { r = true; w = true; n = false; u = false; unit = 0x4000; to = 0x10_0000 } })
  pub rounds : accepts three (seen card (state_after card large warm_large) request).took
      ≡ Some (record { first = 0x4000; last = 0x5FFF })
  pub drops_large : held_in (state_after card large (request ∷ warm_large)).fn 0 ≡ None
  pub holds_large : completions three (history card large (drain ∷ request ∷ warm_large)) ≡ 0
  -- so that the premises of demand 3 can hold
  pub speaks : Completed card whole three page
  pub completes_large : completions three (history card large (drain ∷ both_parts ∷ drain ∷ request ∷ warm_large)) ≡ 1

pub happens : Happens
unfolding computed
happens =
    record {
      opens = refl;
      arrives = refl;
      holds = (refl, refl);
      refuses = refl;
      free = refl;
      completes = (refl, refl);
      drops = refl;
      ignores = refl;
      fills = refl;
      came = refl;
      closed = refl;
      cached = refl;
      rounds = refl;
      drops_large = refl;
      holds_large = refl;
      speaks = (refl, lit< tt);
      completes_large = refl;
    }
