-- DEMAND 3, for any machine whose calls are observed. `Letter` is the demand word by word, `Beyond` what holds beside it, `Order` says from where. Serves 01, "How much each call must settle".
use Rattle.std.specs.Prelude.{◌≡◌, ◌⊎◌, ◌↔◌, true, false, cond, List, [], ◌∷◌, ◌++◌, ℕ, ◌+◌, ◌<◌, length, drop, None, Some}
use Rattle.demand3.specs.Terms.{Terms}
use Rattle.demand3.specs.Seen.{Ticket, INV, Seen}
use Rattle.demand3.specs.History.{open_at, remains, read_in, uses, reaches, goes_direct, accepts, requests, completions, requests_of, completions_of, waits, waits_of, brings}
use Rattle.demand3.specs.Runs.{Observer, Machine, Bench, refuses, resets, packet, seen, next, state_after, history, Run, start, arrival, end, seen_at, later, earlier, Holds, CameFrom, Served}

module _ {T : Terms} {R : Observer T} (M : Machine R) where
  module _ {s : Bench M} (r : Run M s) where
    -- the call of the run accepts an Invalidate Request; and the calls since send its completion
    abbrev pub Arrived : Ticket → T.Area → Type 0
    Arrived i a = accepts i (seen_at M r).took ≡ Some a

    abbrev pub Completed : Ticket → T.Area → Type 0
    Completed i a = Arrived i a × (0 < completions i (later M r))

    -- each entry that overlaps the area came from a Translation Request that was sent since
    abbrev pub OnlyNewEntries : T.Area → Type 0
    OnlyNewEntries a =
        (e : T.Entry) → Holds M (end M r).fn e → T.entry_in a e ≡ true → CameFrom M e (arrival M r) [] r.since

    -- no overlapping translated read that was open when the call was made is still open
    abbrev pub NoOldRead : List (Seen T) → T.Area → Type 0
    NoOldRead g a = (t : ℕ) → remains t (later M r) (read_in a (open_at t (earlier M r g))) ≡ None

  -- The demand itself, for all runs from s. What was seen before, since the last accepted reset, is g.
  pub record Letter (s : Bench M) (g : List (Seen T)) : Type 0 where
    -- once a completion is sent, nothing old is cached in its range and no old read is open
    pub entries : (r : Run M s) (i : Ticket) (a : T.Area) → Completed r i a → OnlyNewEntries r a
    pub reads : (r : Run M s) (i : Ticket) (a : T.Area) → Completed r i a → NoOldRead r g a
    -- requests accepted are completions sent, and one more if it waits: for each ticket, and for each ITag
    pub counts : (r : Run M s) (i : Ticket) → let h = seen_at M r ∷ earlier M r g in
        requests i h ≡ completions i h + cond (waits R.tags i h) 1 0
    pub sums : (r : Run M s) (k : ℕ) → let h = seen_at M r ∷ earlier M r g in
        requests_of k h ≡ completions_of k h + cond (waits_of R.tags k h) 1 0
    -- an Invalidate Request is refused with 9 exactly while it waits
    pub nine : (r : Run M s) (i : Ticket) (a : T.Area) → R.took (start M r).notes r.call ≡ Some (INV i a)
        → (R.busy (M.answer (start M r).fn r.call) ≡ true) ↔ (waits R.tags i (earlier M r g) ≡ true)

  -- What holds beside it: nothing but the cache is used, and the observer misses nothing.
  pub record Beyond (s : Bench M) (g : List (Seen T)) : Type 0 where
    -- only new entries are cached from the arrival of the request on, not only from its completion on
    pub sooner : (r : Run M s) (i : Ticket) (a : T.Area) → Arrived r i a → OnlyNewEntries r a
    -- every entry was there when the run began, or came from a Translation Request
    pub origin : (r : Run M s) (e : T.Entry) → Holds M (arrival M r).fn e
        → Holds M s.fn e ⊎ CameFrom M e s g (r.call ∷ r.before)
    -- a translated access goes where an entry says, and any other to the address that was asked for
    pub through : (r : Run M s) (b : T.Access) (k : ℕ) → reaches (seen_at M r).sent ≡ Some (b, k)
        → Served M (start M r).fn b k
    pub direct : (r : Run M s) (b : T.Access) (k : ℕ) → goes_direct (seen_at M r).sent ≡ Some (b, k)
        → T.asked b k ≡ true
    -- a request has one of the tags, and one that is not open, so that a completion belongs to one request
    pub tags : (r : Run M s) (t : ℕ) → uses t (seen_at M r).sent ≡ true
        → (t < R.tags) × (open_at t (earlier M r g) ≡ None)
    -- everything sent is a packet that the Function may send, and everything taken one that it takes
    pub legible : (r : Run M s) → R.is_packet (start M r).notes r.call (packet M (start M r) r.call) ≡ true
    pub taken : (r : Run M s) → refuses M (start M r) r.call ≡ false → R.is_taken (start M r).notes r.call ≡ true
    -- and the buffer after a call is the packet, and then what was there before;
    pub written : (r : Run M s) → let p = packet M (start M r) r.call in
        M.buffer (start M r).fn r.call ≡ p ++ drop (length p) (R.lent r.call)
    -- a call that accepts an Invalidate Request sends nothing, so that every packet is sent before it or after it
    pub apart : (r : Run M s) (i : Ticket) (a : T.Area) → Arrived r i a → packet M (start M r) r.call ≡ []
    -- all Invalidate Requests have one agent
    pub agent : (r : Run M s) (i k : Ticket) → let h = seen_at M r ∷ earlier M r g in
        0 < requests i h → 0 < requests k h → i.agent ≡ k.agent

  -- a run begins: nothing is cached, and nothing was seen
  pub record Starts (s : Bench M) : Type 0 where
    pub empty : (e : T.Entry) → Holds M s.fn e → ⊥
    pub letter : Letter s []
    pub beyond : Beyond s []

  -- from one accepted reset to the next, and from a new Function on
  pub record Order : Type 0 where
    pub reset : (s : Bench M) (c : R.Call) → resets M s c ≡ true → Starts (next M s c)
    pub new : Starts (record { fn = M.new; notes = R.at_first })
    -- an accepted reset sends nothing, and leaves the buffer as it was
    pub silent : (s : Bench M) (c : R.Call) → resets M s c ≡ true
        → (packet M s c ≡ []) × (M.buffer s.fn c ≡ R.lent c)

-- ---- what follows, with no word about the cache

module _ {T : Terms} {R : Observer T} (M : Machine R) where
  -- some of the calls received a completion for a Translation Request that one of them had sent, and its data grant e
  abbrev pub Brought : T.Entry → Bench M → List R.Call → Type 0
  Brought e s [] = ⊥
  Brought e s (c ∷ cs) = (brings e (seen M (state_after M s cs) c).took (history M s cs) ≡ true) ⊎ Brought e s cs

  -- From the arrival of an Invalidate Request on, a translated access that overlaps its range goes where a completion
  -- says that was received since, for a Translation Request sent since.
  abbrev pub OnlyNewTranslations : {s : Bench M} (r : Run M s) (a : T.Area) → Type 0
  OnlyNewTranslations r a = (c : R.Call) → resets M (end M r) c ≡ false → (b : T.Access) (k : ℕ)
      → reaches (seen M (end M r) c).sent ≡ Some (b, k) → T.access_in a b ≡ true
      → (e : T.Entry) × (T.serves e b k ≡ true) × Brought e (arrival M r) r.since
