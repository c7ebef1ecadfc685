-- Receiving: the refusals of reading; 2 for a kind that a Function does not receive; 5; then the refusals of the kind. 01, "Order", "Completion for a read".
use Rattle.std.specs.Prelude.{Bool, true, false, cond, List, [], ℕ, eqb, Err, Ok, Result}
use Rattle.packet.specs.declared.Body.{Body}
use Rattle.packet.specs.declared.Body.TheVariants.{Tr, Mem, Cpl, Inv, Ic, Prq, Prs}
use Rattle.packet.specs.declared.Packet.{Packet}
use Rattle.packet.specs.Numbers.{check}
use Rattle.packet.specs.Reading.{reading, payload_in}
use Rattle.state.specs.declared.Function.{Function}
use Rattle.state.specs.Answers.{Unrefused, done, tag, carries, discarded, more, filled, aborted, switched_off, payload_more, payload_last, read_failed, Success}
use Rattle.on_completion.specs.Completions.{completed}
use Rattle.on_invalidate.specs.Invalidate.{invalidated}
use Rattle.call_receive.specs.Responses.{responded}

-- the kinds that a Function receives, if they are addressed to it
unfoldable pub taken : Function → ℕ → List ℕ → Body → Result Success ℕ
taken f from load (Tr t) = Err 2
taken f from load (Mem m) = Err 2
taken f from load (Cpl c) = check 5 (eqb c.requester f.id) (completed f c load)
taken f from load (Inv i) = check 5 (eqb i.device f.id) (invalidated f from i)
taken f from load (Ic i) = Err 2
taken f from load (Prq q) = Err 2
taken f from load (Prs s) = check 5 (eqb s.device f.id) (responded f s.code s.index f.pages.interface)

abbrev pub taken_if : Function → List ℕ → Result Packet ℕ → Result Success ℕ
taken_if f load (Ok p) = taken f p.head.sender load p.body
taken_if f load (Err n) = Err n

unfoldable pub received : Function → List ℕ → Result Success ℕ
received f b = taken_if f (payload_in b) (reading b)

-- is this the answer to a completion with data for a read?
abbrev pub is_payload : Result Unrefused ℕ → Bool
is_payload (Ok done) = false
is_payload (Ok (tag t)) = false
is_payload (Ok (carries n)) = false
is_payload (Ok discarded) = false
is_payload (Ok more) = false
is_payload (Ok filled) = false
is_payload (Ok aborted) = false
is_payload (Ok switched_off) = false
is_payload (Ok payload_more) = true
is_payload (Ok payload_last) = true
is_payload (Ok read_failed) = false
is_payload (Err n) = false

-- the payload that is returned after this answer to these bytes: that of the packet if it
-- completes a read, otherwise empty
unfoldable pub payload_for : Result Unrefused ℕ → List ℕ → List ℕ
payload_for a b = cond (is_payload a) (payload_in b) []
