-- The answers of calls, and their effects. 01, "What unrefused calls answer", "The seventeen numbers".
use Rattle.std.specs.Prelude.{List, [], ◌++◌, ℕ, length, drop, Err, Ok, Result}
use Rattle.packet.specs.declared.Packet.{Packet}
use Rattle.packet.specs.declared.Refusal.{Refusal}
use Rattle.packet.specs.Numbers.{number_of}
use Rattle.packet.specs.Writing.{writing, bytes_of}
use Rattle.state.specs.declared.Function.{Function}
use Rattle.state.specs.declared.Answer.{Answer}
use Rattle.state.specs.declared.Answer.TheVariants.{Done, Opened, Carried, Discarded, More, Filled, Aborted, SwitchedOff, PayloadMore, PayloadLast, ReadFailed}
use Rattle.state.specs.declared.Effect.{Effect}

-- what unrefused calls answer: a tag, a count, or a phrase
pub data Unrefused : Type 0 where
  done : Unrefused
  tag : ℕ → Unrefused
  carries : ℕ → Unrefused
  discarded : Unrefused
  more : Unrefused
  filled : Unrefused
  aborted : Unrefused
  switched_off : Unrefused
  payload_more : Unrefused
  payload_last : Unrefused
  read_failed : Unrefused

-- what each answer says
abbrev pub unrefused : Answer → Unrefused
unrefused Done = done
unrefused (Opened t) = tag t.0
unrefused (Carried n) = carries n
unrefused Discarded = discarded
unrefused More = more
unrefused Filled = filled
unrefused Aborted = aborted
unrefused SwitchedOff = switched_off
unrefused PayloadMore = payload_more
unrefused PayloadLast = payload_last
unrefused ReadFailed = read_failed

-- The effect of an unrefused call: the state after it, its answer, and the packet that it sends with its
-- length; no bytes if it sends none.
pub record Success : Type 0 where
  pub state : Function
  pub answer : Unrefused
  pub sent : ℕ
  pub bytes : List ℕ

-- The observable result of a call: the state after it, its answer, the length of the packet sent, and the buffer.
pub record Observed : Type 0 where
  pub state : Function
  pub answer : Result Unrefused ℕ
  pub sent : ℕ
  pub buffer : List ℕ

-- A refused call leaves state and buffer unchanged. Otherwise its effect is committed: the state is the new one, and
-- the buffer begins with the bytes sent and is unchanged after them.
abbrev pub commit : Function → List ℕ → Result Success ℕ → Observed
commit f out (Ok d) = record { state = d.state; answer = Ok d.answer; sent = d.sent; buffer = d.bytes ++ drop (length d.bytes) out }
commit f out (Err n) = record { state = f; answer = Err n; sent = 0; buffer = out }

-- what a call answers, or the number of its refusal
abbrev pub answer_result : Result Effect Refusal → Result Unrefused ℕ
answer_result (Ok e) = Ok (unrefused e.answer)
answer_result (Err r) = Err (number_of r)

-- the result of the code, with the state and the buffer after the call
abbrev pub observed : Function → Result Effect Refusal → List ℕ → Observed
observed f (Ok e) out = record { state = f; answer = Ok (unrefused e.answer); sent = e.sent; buffer = out }
observed f (Err r) out = record { state = f; answer = Err (number_of r); sent = 0; buffer = out }

abbrev pub without_packet : Answer → Result Effect Refusal
without_packet a = Ok (record { answer = a; sent = 0 })

-- a call that sends nothing
abbrev pub sends_nothing : Function → Unrefused → Result Success ℕ
sends_nothing f w = Ok (record { state = f; answer = w; sent = 0; bytes = [] })

-- a call that sends a packet with its payload, if it can be written; refused with 17 if there is no room
abbrev pub sends_written : Function → Unrefused → List ℕ → Result ℕ ℕ → Result Success ℕ
sends_written f w bytes (Ok n) = Ok (record { state = f; answer = w; sent = n; bytes = bytes })
sends_written f w bytes (Err n) = Err n

unfoldable pub sends : Function → Unrefused → Packet → List ℕ → List ℕ → Result Success ℕ
sends f w p load out = sends_written f w (bytes_of p load) (writing p (length load) (length out))
