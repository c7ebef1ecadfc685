-- Drain. 01, "Drain".
use Rattle.std.specs.Prelude.{cond, List, [], ℕ, eqb, None, Option, Result, Some}
use Rattle.std.specs.Int.Count.{ones}
use Rattle.packet.specs.declared.Packet.{Packet}
use Rattle.packet.specs.declared.Body.TheVariants.{Ic}
use Rattle.tags.specs.Itags.{without}
use Rattle.tags.specs.Tags.{delayed_itags}
use Rattle.state.specs.declared.Function.{Function}
use Rattle.state.specs.State.{with_waiting, head_of}
use Rattle.state.specs.Answers.{Success, carries, sends_nothing, sends}

-- the agent's ID; no ITag waits before it is known, so the 0 is not used
abbrev pub agent_id : Option ℕ → ℕ
agent_id None = 0
agent_id (Some id) = id

-- one Invalidate Completion to the agent; CC is 1, as only one Traffic Class is used
abbrev pub invalidate_completion_packet : ℕ → Option ℕ → ℕ → Packet
invalidate_completion_packet id agent v =
    record {
      head = head_of id;
      body = Ic (record { device = agent_id agent; cc = 1; vector = v });
    }

-- the waiting ITags that no outstanding read delays
abbrev pub ready_of : Function → ℕ
ready_of f = without f.waiting (delayed_itags f.tags)

-- a completion for a vector of ITags, which then no longer wait; the answer is their number
unfoldable pub sends_vector : Function → ℕ → List ℕ → Result Success ℕ
sends_vector f v out =
    cond (eqb v 0) (sends_nothing f (carries 0))
    (sends (with_waiting f (without f.waiting v)) (carries (ones v))
    (invalidate_completion_packet f.id f.agent v) [] out)

abbrev pub draining : Function → List ℕ → Result Success ℕ
draining f out = sends_vector f (ready_of f) out
