-- Machines whose calls are observed, and their runs. Serves 01, "How much each call must settle".
-- Lists of calls, like histories, have the newest call first.
use Rattle.std.specs.Prelude.{◌≡◌, ◌⊎◌, Bool, true, false, not, cond, ◌&&◌, List, [], ◌∷◌, ◌++◌, ℕ, take, Option, None, Some}
use Rattle.demand3.specs.Terms.{Terms}
use Rattle.demand3.specs.Seen.{Taken, Sent, Seen}
use Rattle.demand3.specs.History.{brings}

-- How an observer reads a call: by its arguments, the bytes sent, and notes on earlier
-- calls. It does not see the state.
pub record Observer (T : Terms) : Type 1 where
  pub Call : Type 0
  pub Answer : Type 0
  pub Notes : Type 0
  -- of an answer: is it a refusal, is it the refusal of an ITag that waits (9), and the reported length of the packet
  pub refused : Answer → Bool
  pub busy : Answer → Bool
  pub reported : Answer → ℕ
  -- of a call: the lent buffer, and whether it is a reset
  pub lent : Call → List ℕ
  pub is_reset : Call → Bool
  -- what the call delivers, if it is not refused, and what these bytes are that it sent
  pub took : Notes → Call → Option (Taken T)
  pub sent : Notes → Call → List ℕ → Option (Sent T)
  -- the notes after a call that is not refused, and those on a new Function
  pub note : Notes → Call → Seen T → Notes
  pub at_first : Notes
  -- a received packet is one that the Function takes
  pub is_taken : Notes → Call → Bool
  -- these bytes are a packet that the Function may send in this call, or empty
  pub is_packet : Notes → Call → List ℕ → Bool
  -- how many tags there are
  pub tags : ℕ

-- How a call changes the state, its answer, and the buffer after it; and the entries of the cache, numbered in any way.
pub record Machine {T : Terms} (R : Observer T) : Type 1 where
  pub State : Type 0
  pub new : State
  pub state : State → R.Call → State
  pub answer : State → R.Call → R.Answer
  pub buffer : State → R.Call → List ℕ
  pub held : State → ℕ → Option T.Entry

-- the state of the machine, and the observer's notes
pub record Bench {T : Terms} {R : Observer T} (M : Machine R) : Type 0 where
  pub fn : M.State
  pub notes : R.Notes

module _ {T : Terms} {R : Observer T} (M : Machine R) where
  abbrev pub refuses : Bench M → R.Call → Bool
  refuses s c = R.refused (M.answer s.fn c)

  abbrev pub resets : Bench M → R.Call → Bool
  resets s c = not (refuses s c) && R.is_reset c

  -- the packet sent: the start of the buffer, with the reported length
  abbrev pub packet : Bench M → R.Call → List ℕ
  packet s c = take (R.reported (M.answer s.fn c)) (M.buffer s.fn c)

  abbrev pub seen : Bench M → R.Call → Seen T
  seen s c = record { took = cond (refuses s c) None (R.took s.notes c); sent = R.sent s.notes c (packet s c) }

  abbrev pub next : Bench M → R.Call → Bench M
  next s c = record { fn = M.state s.fn c; notes = cond (refuses s c) s.notes (R.note s.notes c (seen s c)) }

  -- the state after the calls cs from s on, and what was seen of them
  abbrev pub state_after : Bench M → List R.Call → Bench M
  state_after s [] = s
  state_after s (c ∷ cs) = next (state_after s cs) c

  abbrev pub history : Bench M → List R.Call → List (Seen T)
  history s [] = []
  history s (c ∷ cs) = seen (state_after s cs) c ∷ history s cs

  -- none of the calls is an accepted reset
  abbrev pub Unbroken : Bench M → List R.Call → Type 0
  Unbroken s [] = Unit {0}
  Unbroken s (c ∷ cs) = (resets (state_after s cs) c ≡ false) × Unbroken s cs

  -- A run from s without an accepted reset: some calls, then one, then others.
  --
  --     s ── before ──▶ start ── call ──▶ arrival ── since ──▶ end
  pub record Run (s : Bench M) : Type 0 where
    pub before : List R.Call
    pub call : R.Call
    pub since : List R.Call
    pub unbroken : Unbroken s (call ∷ before)
    pub goes_on : Unbroken (state_after s (call ∷ before)) since

  module _ {s : Bench M} (r : Run s) where
    abbrev pub start : Bench M
    start = state_after s r.before

    abbrev pub arrival : Bench M
    arrival = state_after s (r.call ∷ r.before)

    abbrev pub end : Bench M
    end = state_after arrival r.since

    -- what was seen of the call, and since
    abbrev pub seen_at : Seen T
    seen_at = seen start r.call

    abbrev pub later : List (Seen T)
    later = history arrival r.since

    -- what was seen before the call, where g was seen before the run
    abbrev pub earlier : List (Seen T) → List (Seen T)
    earlier g = history s r.before ++ g

  -- the entry is in the cache
  abbrev pub Holds : M.State → T.Entry → Type 0
  Holds f e = (j : ℕ) × (M.held f j ≡ Some e)

  -- The entry came from a Translation Request, of the calls cs or of what was seen before, g: one of the calls received
  -- a completion for it whose data grant the entry, and the cache has held it since.
  abbrev pub CameFrom : T.Entry → Bench M → List (Seen T) → List R.Call → Type 0
  CameFrom e s g [] = ⊥
  CameFrom e s g (c ∷ cs) =
      (brings e (seen (state_after s cs) c).took (history s cs ++ g) ≡ true)
      ⊎ (Holds (state_after s cs).fn e × CameFrom e s g cs)

  -- an entry of the cache serves the access
  pub record Served (f : M.State) (b : T.Access) (k : ℕ) : Type 0 where
    pub entry : T.Entry
    pub held : Holds f entry
    pub serves : T.serves entry b k ≡ true
