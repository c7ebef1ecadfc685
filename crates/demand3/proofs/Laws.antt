-- What the third demand needs of a machine: how each call changes six views of the state, in
-- terms of what the observer sees.
use Rattle.std.specs.Prelude.{Option, None, Some}
use mathlib.Core.Path.{◌≡◌}
use mathlib.Core.Logic.{◌⊎◌}
use mathlib.Core.Bool.{Bool, true, false, not, ◌&&◌}
use Prim.Native.Nat.{ℕ, ◌<◌}
use lib.Dec.{eqb}
use Rattle.demand3.specs.Terms.{Terms}
use Rattle.demand3.specs.Seen.{Ticket, Taken, CPL, INV, DRAIN, Seen}
use Rattle.demand3.specs.History.{Pending, translation, fetch, given, none_below, is_open, leaves, on_taken, on_sent, uses, reaches, goes_direct, read_in, accepts, drains, completes, gave}

pub record View (T : Terms) : Type 0 where
  -- the entries of the cache, by their numbers
  pub held : ℕ → Option T.Entry
  -- the open request of tag t; and whether it is a Translation Request that is not stale
  pub opens : ℕ → Option (Pending T)
  pub live : ℕ → Bool
  -- whether a ticket waits, and for which tags
  pub waiting : Ticket → Bool
  pub waits_for : Ticket → ℕ → Bool
  -- the agent whose Invalidate Requests were accepted
  pub agent : Option ℕ

module _ {T : Terms} where
  -- the call's completion closes the open request o of tag t
  abbrev pub ends : ℕ → Option (Taken T) → Option (Pending T) → Bool
  ends t None o = false
  ends t (Some (CPL u n d)) o = eqb t u && not (is_open (leaves d o))
  ends t (Some (INV i a)) o = false
  ends t (Some (DRAIN n)) o = false

  -- the call delivers data that grant e, for a Translation Request that is not stale
  abbrev pub fills : View T → Option (Taken T) → T.Entry → Bool
  fills v None e = false
  fills v (Some (CPL t n None)) e = false
  fills v (Some (CPL t n (Some d))) e = v.live t && gave e d (v.opens t)
  fills v (Some (INV i a)) e = false
  fills v (Some (DRAIN n)) e = false

  -- nothing that is granted to the open request overlaps a
  abbrev pub Apart : T.Area → Option (Pending T) → Type 0
  Apart a None = Unit {0}
  Apart a (Some (translation q n)) =
      (k : ℕ) (d : T.Data) (e : T.Entry) → T.grants q k d e ≡ true → T.entry_in a e ≡ false
  Apart a (Some (fetch x b n)) = Unit {0}

-- the entry is in the cache
abbrev pub HeldIn : {T : Terms} → View T → T.Entry → Type 0
HeldIn v e = (j : ℕ) × (v.held j ≡ Some e)

-- an entry of the cache serves the access
pub record Through {T : Terms} (v : View T) (b : T.Access) (k : ℕ) : Type 0 where
  pub entry : T.Entry
  pub held : HeldIn v entry
  pub serves : T.serves entry b k ≡ true

-- the effect of a call of which the observer sees x
pub record Step {T : Terms} (tags : ℕ) (v w : View T) (x : Seen T) : Type 0 where
  -- the tags
  pub opens : (t : ℕ) → w.opens t ≡ on_sent t x.sent (on_taken t x.took (v.opens t))
  pub unused : (t : ℕ) → uses t x.sent ≡ true → (t < tags) × (v.opens t ≡ None)
  pub live : (t : ℕ) → w.live t ≡ true → (v.live t ≡ true) ⊎ (uses t x.sent ≡ true)
  -- the cache
  pub entries : (j : ℕ) (e : T.Entry) → w.held j ≡ Some e → HeldIn v e ⊎ (fills v x.took e ≡ true)
  pub through : (b : T.Access) (k : ℕ) → reaches x.sent ≡ Some (b, k) → Through v b k
  pub direct : (b : T.Access) (k : ℕ) → goes_direct x.sent ≡ Some (b, k) → T.asked b k ≡ true
  -- the ITags
  pub waiting : (i : Ticket)
      → w.waiting i ≡ given (accepts i x.took) (λ a. true) (not (completes i x.sent) && v.waiting i)
  pub waits_for : (i : Ticket) (t : ℕ) → w.waiting i ≡ true
      → w.waits_for i t ≡ given (accepts i x.took) (λ a. is_open (read_in a (v.opens t))) (not (ends t x.took (v.opens t)) && v.waits_for i t)
  pub carried : (i : Ticket)
      → completes i x.sent ≡ (drains i x.took && (v.waiting i && none_below tags (v.waits_for i)))
  -- the agent: the sender of the first accepted request, and no other later
  pub first : (i : Ticket) (a : T.Area) → accepts i x.took ≡ Some a → w.agent ≡ Some i.agent
  pub lasts : (g : ℕ) → v.agent ≡ Some g → w.agent ≡ Some g
  -- an accepted Invalidate Request
  pub not_yet : (i : Ticket) (a : T.Area) → accepts i x.took ≡ Some a → v.waiting i ≡ false
  pub dropped : (i : Ticket) (a : T.Area) → accepts i x.took ≡ Some a → (j : ℕ) (e : T.Entry) → w.held j ≡ Some e
      → T.entry_in a e ≡ false
  pub stale : (i : Ticket) (a : T.Area) → accepts i x.took ≡ Some a → (t : ℕ) → w.live t ≡ true
      → Apart a (w.opens t)
