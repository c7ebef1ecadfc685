-- The bounds that the types of a packet's fields give. Serves 01, "The seven packets".
use Rattle.std.specs.Prelude.{◌<◌, ◌^◌}
use Rattle.packet.specs.declared.Access.{Access}
use Rattle.packet.specs.declared.Access.TheVariants.{Read, Write}
use Rattle.packet.specs.declared.Body.{Body}
use Rattle.packet.specs.declared.Body.TheVariants.{Tr, Mem, Cpl, Inv, Ic, Prq, Prs}
use Rattle.packet.specs.declared.Packet.{Packet}

abbrev pub TypedAccess : Access → Type 0
TypedAccess (Read tag) = tag.0 < 256
TypedAccess Write = Unit {0}

-- the bounds of fields that fill their types; the other bounds are tested when a packet is written
unfoldable pub TypedBody : Body → Type 0
TypedBody (Tr t) = (t.tag.0 < 256) × (t.address < 2 ^ 64)
TypedBody (Mem m) = TypedAccess m.access × (m.address < 2 ^ 64)
TypedBody (Cpl c) = (c.requester < 65536) × (c.tag.0 < 256)
TypedBody (Inv i) = (i.device < 65536) × (i.address < 2 ^ 64)
TypedBody (Ic i) = (i.device < 65536) × (i.vector < 2 ^ 32)
TypedBody (Prq q) = q.page < 2 ^ 64
TypedBody (Prs s) = s.device < 65536

pub record Typed (p : Packet) : Type 0 where
  pub sender : p.head.sender < 65536
  pub body : TypedBody p.body
