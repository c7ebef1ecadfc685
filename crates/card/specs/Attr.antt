-- The Function decides nothing by Attr, and sends zeros in it. 02, "a".
use Rattle.std.specs.Prelude.{◌≡◌, List, ℕ, take, Ok}
use Rattle.packet.specs.declared.Packet.{Packet}
use Rattle.packet.specs.Frames.{attr_at}
use Rattle.packet.specs.Kinds.{attr_zero}
use Rattle.packet.specs.Reading.{reading}
use Rattle.packet.specs.SameButAttr.{SameButAttr}
use Rattle.state.specs.declared.Function.{Function}
use Rattle.call_receive.specs.Receive.{payload_for}
use Rattle.card.specs.declared.Command.{Command}
use Rattle.card.specs.declared.Command.TheVariants.{Receive}
use Rattle.card.specs.Call.{step}

-- Received in state f, b and c have the same answer, leave the same state and buffer, and hand back the same payload.
pub record Alike (f : Function) (b c out : List ℕ) : Type 0 where
  pub effect : step f Receive b out ≡ step f Receive c out
  pub payload : payload_for (step f Receive b out).answer b ≡ payload_for (step f Receive c out).answer c

-- the bytes that a call sent: the first `sent` of the buffer
abbrev pub sent_by : Function → Command → List ℕ → List ℕ → List ℕ
sent_by f c bytes out = take (step f c bytes out).sent (step f c bytes out).buffer

-- What the call sends has zeros in Attr, and is read with zeros.
pub record SendsZeros (f : Function) (c : Command) (bytes out : List ℕ) : Type 0 where
  pub bits : attr_at (sent_by f c bytes out) ≡ 0
  pub reads : (p : Packet) → reading (sent_by f c bytes out) ≡ Ok p → p.head.attr ≡ attr_zero

-- Received packets that differ in no bit but Attr have the same effect in every state. Whatever a call sends has zeros
-- in Attr.
pub record AttrDecidesNothing : Type 0 where
  pub received : (f : Function) (b c out : List ℕ) → SameButAttr b c → Alike f b c out
  pub sent : (f : Function) (c : Command) (bytes out : List ℕ) → SendsZeros f c bytes out
