-- What follows from what was seen: open requests, ITags that wait, counts. Serves 01, "How much each call must settle".
-- A history is a list with the newest call first. "Open" means outstanding: sent, and not yet completed.
use Rattle.std.specs.Prelude.{Bool, true, false, not, cond, ◌&&◌, List, [], ◌∷◌, ℕ, zero, suc, ◌+◌, ◌-◌, eqb, Option, None, Some}
use Rattle.demand3.specs.Terms.{Terms}
use Rattle.demand3.specs.Seen.{Ticket, same, Taken, CPL, INV, DRAIN, Sent, TR, READ, WRITE, IC, Seen}

-- elimination of an option; the library's Option·elim does not compute in statements
abbrev pub given : {A X : Type 0} → Option A → (A → X) → X → X
given None f d = d
given (Some a) f d = f a

-- f is false at each number below n
abbrev pub none_below : ℕ → (ℕ → Bool) → Bool
none_below zero f = true
none_below (suc n) f = not (f n) && none_below n f

-- an open request: a Translation Request and the bytes received for it, or a read and the bytes still due
pub data Pending (T : Terms) : Type 0 where
  translation : T.Ask → ℕ → Pending T
  fetch : Bool → T.Access → ℕ → Pending T

module _ {T : Terms} where
  abbrev pub is_open : Option (Pending T) → Bool
  is_open None = false
  is_open (Some o) = true

  -- What a completion leaves open. One without data closes the request. A Translation Request is closed when Byte Count
  -- is the length of the data. For a read, the data are subtracted from the bytes due, if Byte Count is right.
  abbrev pub leaves : Option T.Data → Option (Pending T) → Option (Pending T)
  leaves d None = None
  leaves None (Some o) = None
  leaves (Some d) (Some (translation q n)) =
      cond (eqb (T.count d) (T.size d)) None (Some (translation q (n + T.size d)))
  leaves (Some d) (Some (fetch x b n)) =
      cond (eqb (T.count d) n) (cond (eqb (T.size d) n) None (Some (fetch x b (n - T.size d)))) (Some (fetch x b n))

  -- the open request o of tag t after what a call received, and after what it sent
  abbrev pub on_taken : ℕ → Option (Taken T) → Option (Pending T) → Option (Pending T)
  on_taken t None o = o
  on_taken t (Some (CPL u n d)) o = cond (eqb t u) (leaves d o) o
  on_taken t (Some (INV i a)) o = o
  on_taken t (Some (DRAIN n)) o = o

  abbrev pub on_sent : ℕ → Option (Sent T) → Option (Pending T) → Option (Pending T)
  on_sent t None o = o
  on_sent t (Some (TR u q)) o = cond (eqb t u) (Some (translation q 0)) o
  on_sent t (Some (READ u x b k)) o = cond (eqb t u) (Some (fetch x b (T.wanted b))) o
  on_sent t (Some (WRITE x b k)) o = o
  on_sent t (Some (IC g v)) o = o

  -- the open request of tag t after the history h
  abbrev pub open_at : ℕ → List (Seen T) → Option (Pending T)
  open_at t [] = None
  open_at t (x ∷ h) = on_sent t x.sent (on_taken t x.took (open_at t h))

  -- what the history h leaves of a request o of tag t that was open before it
  abbrev pub remains : ℕ → List (Seen T) → Option (Pending T) → Option (Pending T)
  remains t [] o = o
  remains t (x ∷ h) o = on_taken t x.took (remains t h o)

  -- o, if it is a translated read that overlaps a
  abbrev pub read_in : T.Area → Option (Pending T) → Option (Pending T)
  read_in a None = None
  read_in a (Some (translation q n)) = None
  read_in a (Some (fetch x b n)) = cond (x && T.access_in a b) (Some (fetch x b n)) None

  -- the call sends a request with tag t
  abbrev pub uses : ℕ → Option (Sent T) → Bool
  uses t None = false
  uses t (Some (TR u q)) = eqb t u
  uses t (Some (READ u x b k)) = eqb t u
  uses t (Some (WRITE x b k)) = false
  uses t (Some (IC g v)) = false

  -- the translated access that the call sends, if it sends one, and its address
  abbrev pub reaches : Option (Sent T) → Option (T.Access × ℕ)
  reaches None = None
  reaches (Some (TR u q)) = None
  reaches (Some (READ u x b k)) = cond x (Some (b, k)) None
  reaches (Some (WRITE x b k)) = cond x (Some (b, k)) None
  reaches (Some (IC g v)) = None

  -- the area of the Invalidate Request with Ticket i that the call accepts, if any
  abbrev pub accepts : Ticket → Option (Taken T) → Option T.Area
  accepts i None = None
  accepts i (Some (CPL t n d)) = None
  accepts i (Some (INV k a)) = cond (same i k) (Some a) None
  accepts i (Some (DRAIN n)) = None

  -- the call is an unrefused drain call for Ticket i
  abbrev pub drains : Ticket → Option (Taken T) → Bool
  drains i None = false
  drains i (Some (CPL t n d)) = false
  drains i (Some (INV k a)) = false
  drains i (Some (DRAIN n)) = n i.number

  -- the untranslated access that the call sends, if it sends one, and its address
  abbrev pub goes_direct : Option (Sent T) → Option (T.Access × ℕ)
  goes_direct None = None
  goes_direct (Some (TR u q)) = None
  goes_direct (Some (READ u x b k)) = cond x None (Some (b, k))
  goes_direct (Some (WRITE x b k)) = cond x None (Some (b, k))
  goes_direct (Some (IC g v)) = None

  -- the call sends a completion for Ticket i, to its agent
  abbrev pub completes : Ticket → Option (Sent T) → Bool
  completes i None = false
  completes i (Some (TR t q)) = false
  completes i (Some (READ t x b k)) = false
  completes i (Some (WRITE x b k)) = false
  completes i (Some (IC g v)) = eqb i.agent g && v i.number

  -- the number of accepted Invalidate Requests with Ticket i, and of completions sent for it
  abbrev pub requests : Ticket → List (Seen T) → ℕ
  requests i [] = 0
  requests i (x ∷ h) = given (accepts i x.took) (λ a. 1) 0 + requests i h

  abbrev pub completions : Ticket → List (Seen T) → ℕ
  completions i [] = 0
  completions i (x ∷ h) = cond (completes i x.sent) 1 0 + completions i h

  -- the same by the number of an ITag alone, whoever the agent is
  abbrev pub request_of : ℕ → Option (Taken T) → Bool
  request_of k None = false
  request_of k (Some (CPL t n d)) = false
  request_of k (Some (INV i a)) = eqb k i.number
  request_of k (Some (DRAIN n)) = false

  abbrev pub completion_of : ℕ → Option (Sent T) → Bool
  completion_of k None = false
  completion_of k (Some (TR t q)) = false
  completion_of k (Some (READ t x b to)) = false
  completion_of k (Some (WRITE x b to)) = false
  completion_of k (Some (IC g v)) = v k

  abbrev pub requests_of : ℕ → List (Seen T) → ℕ
  requests_of k [] = 0
  requests_of k (x ∷ h) = cond (request_of k x.took) 1 0 + requests_of k h

  abbrev pub completions_of : ℕ → List (Seen T) → ℕ
  completions_of k [] = 0
  completions_of k (x ∷ h) = cond (completion_of k x.sent) 1 0 + completions_of k h

  -- the overlapping translated read of tag t that was open when the latest request with Ticket i arrived, if it is
  -- still open: the same as `remains`, computed from the whole history
  abbrev pub older : Ticket → ℕ → List (Seen T) → Option (Pending T)
  older i t [] = None
  older i t (x ∷ h) = given (accepts i x.took) (λ a. read_in a (open_at t h)) (on_taken t x.took (older i t h))

  -- since the latest request with Ticket i no unrefused drain call for it found all those
  -- reads closed (there are n tags)
  abbrev pub waits : ℕ → Ticket → List (Seen T) → Bool
  waits n i [] = false
  waits n i (x ∷ h) =
      given (accepts i x.took) (λ a. true)
      (not (drains i x.took && none_below n (λ t. is_open (older i t h))) && waits n i h)

  -- the agent of the latest Invalidate Request
  abbrev pub agent_taken : Option (Taken T) → Option ℕ → Option ℕ
  agent_taken None o = o
  agent_taken (Some (CPL t n d)) o = o
  agent_taken (Some (INV i a)) o = Some i.agent
  agent_taken (Some (DRAIN n)) o = o

  abbrev pub agent_in : List (Seen T) → Option ℕ
  agent_in [] = None
  agent_in (x ∷ h) = agent_taken x.took (agent_in h)

  -- ITag k of that agent waits
  abbrev pub waits_of : ℕ → ℕ → List (Seen T) → Bool
  waits_of n k h = given (agent_in h) (λ g. waits n (record { agent = g; number = k }) h) false

  -- the data d, for the open request o, grant the entry e
  abbrev pub gave : T.Entry → T.Data → Option (Pending T) → Bool
  gave e d None = false
  gave e d (Some (translation q n)) = T.grants q n d e
  gave e d (Some (fetch x b n)) = false

  -- the call received a completion for a Translation Request sent in the history h, and its data grant the entry e
  abbrev pub brings : T.Entry → Option (Taken T) → List (Seen T) → Bool
  brings e None h = false
  brings e (Some (CPL t n None)) h = false
  brings e (Some (CPL t n (Some d))) h = gave e d (open_at t h)
  brings e (Some (INV i a)) h = false
  brings e (Some (DRAIN n)) h = false
