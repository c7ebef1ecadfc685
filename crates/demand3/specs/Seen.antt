-- What the observer sees of a call. Serves 01, "How much each call must settle".
use Rattle.std.specs.Prelude.{Bool, ◌&&◌, ℕ, eqb, Option}
use Rattle.demand3.specs.Terms.{Terms}

-- the identity of an Invalidate Request: its requester (the agent) and its ITag
pub record Ticket : Type 0 where
  pub agent : ℕ
  pub number : ℕ

abbrev pub same : Ticket → Ticket → Bool
same i k = eqb i.agent k.agent && eqb i.number k.number

-- what a call delivers to the Function
pub data Taken (T : Terms) : Type 0 where
  -- a completion for this tag: its status, and its data if it has any
  CPL : ℕ → ℕ → Option T.Data → Taken T
  -- an Invalidate Request
  INV : Ticket → T.Area → Taken T
  -- a drain call for these ITags
  DRAIN : (ℕ → Bool) → Taken T

-- the packet that a call sends
pub data Sent (T : Terms) : Type 0 where
  -- a Translation Request with this tag
  TR : ℕ → T.Ask → Sent T
  -- a read with this tag: whether it is translated (AT 10), what it is for, and the address in the packet
  READ : ℕ → Bool → T.Access → ℕ → Sent T
  -- a write, likewise
  WRITE : Bool → T.Access → ℕ → Sent T
  -- an Invalidate Completion to this agent, for these ITags
  IC : ℕ → (ℕ → Bool) → Sent T

-- `took` is `none` if the call was refused or delivered nothing of that kind, `sent` if it sent no such packet.
pub record Seen (T : Terms) : Type 0 where
  pub took : Option (Taken T)
  pub sent : Option (Sent T)
