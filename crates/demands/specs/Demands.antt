-- THE THREE DEMANDS, as statements about the card. Read this file first. Serves 01, "How much each call must settle".
--
-- `step f c bytes out` is the result of a call c in the state f, with the bytes that it is given and the buffer `out`
-- for the packet to send. It is a definition (card/specs/Call.antt). The contract of `card::call` says that the code
-- computes it, for every state, call, packet and buffer.
--
--   Demand 1 · `Demand1`, proved by `demand_1` in proofs/Proved.antt
--   Demand 2 · `Demand2`, proved by `demand_2`; its content is in the definitions of packets and calls
--   Demand 3 · `Demand3`, proved by `demand_3`
use Rattle.std.specs.Prelude.{◌≡◌, true, List, ℕ, ◌≤◌, length, Err, Ok}
use Rattle.ranges.specs.declared.Range.{Range}
use Rattle.packet.specs.declared.Packet.{Packet}
use Rattle.packet.specs.Among.{is_among}
use Rattle.packet.specs.Reading.{reading, payload_in}
use Rattle.packet.specs.Writing.{writing, bytes_of}
use Rattle.packet.specs.Normal.{normal}
use Rattle.tlp.specs.Bytes.{Bytes}
use Rattle.tlp.specs.Fields.{Typed}
use Rattle.tlp.specs.Forbidden.{reading_by_phrases, writing_by_phrases}
use Rattle.translations.specs.declared.Rcb.{Rcb}
use Rattle.state.specs.declared.Function.{Function}
use Rattle.state.specs.State.{fresh}
use Rattle.card.specs.declared.Command.{Command}
use Rattle.card.specs.Call.{step}
use Rattle.card.specs.Numbers.{numbers_of}
use Rattle.card.specs.Sound.{Sound}
use Rattle.card.proofs.call.Statement.{statement as CallMeetsItsContract}
use Rattle.demand3.specs.Seen.{Ticket}
use Rattle.demand3.specs.Runs.{Bench, Run}
use Rattle.demand3.specs.Order.{Arrived, Starts, Order, OnlyNewTranslations}
use Rattle.demands.specs.Observed.{card}

-- ---- DEMAND 1: a refusal is one of 17 numbers, on the list of its call, and leaves state and buffer unchanged.
-- That no function traps, overruns a buffer or runs forever is not stated here: every
-- proved function has this property.
-- No public function has a `requires`, so it holds for all arguments. `step` defines when a call is refused, and with
-- which number.

pub record Refusing (f : Function) (c : Command) (bytes out : List ℕ) (n : ℕ) : Type 0 where
  pub state : (step f c bytes out).state ≡ f
  pub sent : (step f c bytes out).sent ≡ 0
  pub buffer : (step f c bytes out).buffer ≡ out
  pub listed : is_among n (numbers_of c) ≡ true
  pub among : (1 ≤ n) × (n ≤ 17)

abbrev pub Demand1 : Type 0
Demand1 =
    (f : Function) (c : Command) (bytes out : List ℕ) (n : ℕ) → (step f c bytes out).answer ≡ Err n
    → Refusing f c bytes out n

-- ---- DEMAND 2: packets and states are those of the papers, and no other.
-- The content of this demand is in the definitions to which the contracts refer: packet/specs (`reading`, `writing`)
-- and card/specs/Call.antt (`step`, and the definitions that it uses). They have to be read. The statement here is that
-- the code of `card::call` satisfies its contract: it terminates and computes `step`. (The checker derives this
-- statement from the `ensures` in card/src/lib.rt, for every M, the type of resources of the program logic.) The other
-- fields show that the definitions are consistent. A written packet is read as the same packet. A packet that was read
-- can be written, and gives the same bytes with the unnamed bits cleared. Exactly the values that 01 forbids are
-- refused with 4, by a second definition that follows 01 phrase by phrase. Every reachable state has 32 slots with at
-- most one entry per unit, 32 tags, 32 groups, and at most as many credits in use as were allocated.

pub record Demand2 : Type 2 where
  pub code : {M : Type 1} → CallMeetsItsContract M
  pub written : (p : Packet) (payload : List ℕ) (room n : ℕ) → Typed p → writing p (length payload) room ≡ Ok n
      → (reading (bytes_of p payload) ≡ Ok p) × (payload_in (bytes_of p payload) ≡ payload)
  pub read : (b : List ℕ) (p : Packet) → Bytes b → reading b ≡ Ok p
      → (writing p (length (payload_in b)) (length b) ≡ Ok (length b)) × (bytes_of p (payload_in b) ≡ normal b)
  pub forbids : (b : List ℕ) → reading b ≡ reading_by_phrases b
  pub forbids_writing : (p : Packet) (load room : ℕ) → Typed p → writing p load room ≡ writing_by_phrases p load room
  pub starts : (id stu : ℕ) (rcb : Rcb) → Sound (fresh id stu rcb)
  pub keeps : (f : Function) (c : Command) (bytes out : List ℕ) → Sound f → Sound (step f c bytes out).state

-- ---- DEMAND 3: once an Invalidate Completion is sent, no stale entry is cached and no old read is outstanding.
-- And each accepted Invalidate Request has exactly one completion. The demand is stated for any machine in
-- demand3/specs/Order.antt: `Letter` word by word, `Beyond` what holds beside it. What the observer sees of the card is
-- in Observed.antt.
--
--   each overlapping entry came from a Translation Request sent after the arrival   `entries`
--   every overlapping translated read from before the arrival has ended             `reads`
--   per ITag, accepted requests are completions sent, plus one if it waits          `counts`, `sums`
--   it waits until an unrefused drain call finds those reads closed                 `waits`, and `nine`
--   from one accepted reset to the next                                             `Order`

pub record Demand3 : Type 0 where
  pub order : Order card
  -- and from the arrival on, a translated access of that range goes where a new completion says
  pub new_translations : (s : Bench card) → Starts card s → (r : Run card s) (i : Ticket) (a : Range)
      → Arrived card r i a
      → OnlyNewTranslations card r a
