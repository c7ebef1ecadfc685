-- Demand 3 implies that from the arrival of an Invalidate Request on only new translations are used.
use mathlib.Core.Path.{◌≡◌, refl, ap}
use mathlib.Core.Logic.{inl, inr}
use mathlib.Core.Bool.{Bool, true, false, ◌||◌, or-true}
use mathlib.Core.List.{List, [], ◌∷◌, ◌++◌, append-nil}
use Prim.Native.Nat.{ℕ}
use Rattle.demand3.specs.Terms.{Terms}
use Rattle.demand3.specs.Seen.{Ticket, Seen}
use Rattle.demand3.specs.History.{brings}
use Rattle.demand3.specs.Runs.{Observer, Machine, Bench, seen, next, state_after, history, Unbroken, Run, arrival, end, CameFrom, Served}
use Rattle.demand3.specs.Order.{Arrived, Beyond, Brought, OnlyNewTranslations}

-- an entry that serves an overlapping access overlaps too
abbrev pub Covers : Terms → Type 0
Covers T =
    (a : T.Area) (e : T.Entry) (b : T.Access) (k : ℕ) → T.access_in a b ≡ true → T.serves e b k ≡ true
    → T.entry_in a e ≡ true

module _ {T : Terms} {R : Observer T} (M : Machine R) where
  -- calls one after the other
  pub state_append : (s : Bench M) (xs ys : List R.Call)
      → state_after M s (xs ++ ys) ≡ state_after M (state_after M s ys) xs
  state_append s [] ys = refl
  state_append s (x ∷ xs) ys = ap (λ (b : Bench M). next M b x) (state_append s xs ys)

  pub unbroken_append : (s : Bench M) (xs ys : List R.Call) → Unbroken M (state_after M s ys) xs → Unbroken M s ys
      → Unbroken M s (xs ++ ys)
  unbroken_append s [] ys u v = v
  unbroken_append s (x ∷ xs) ys u v = (rw (state_append s xs ys) u.0, unbroken_append s xs ys u.1 v)

  pub history_append : (s : Bench M) (xs ys : List R.Call)
      → history M s (xs ++ ys) ≡ history M (state_after M s ys) xs ++ history M s ys
  history_append s [] ys = refl
  history_append s (x ∷ xs) ys = rw (state_append s xs ys, history_append s xs ys)

  brought : (e : T.Entry) (s : Bench M) (cs : List R.Call) → CameFrom M e s [] cs → Brought M e s cs
  brought e s [] z = z
  brought e s (c ∷ cs) (inl p) = inl (rw append-nil at p)
  brought e s (c ∷ cs) (inr p) = inr (brought e s cs p.1)

  -- `Brought`, computed
  abbrev pub brought_in : T.Entry → Bench M → List R.Call → Bool
  brought_in e s [] = false
  brought_in e s (c ∷ cs) = brings e (seen M (state_after M s cs) c).took (history M s cs) || brought_in e s cs

  pub brought_in_lem : (e : T.Entry) (s : Bench M) (cs : List R.Call) → CameFrom M e s [] cs → brought_in e s cs ≡ true
  brought_in_lem e s [] z = absurd z
  brought_in_lem e s (c ∷ cs) (inl p) = rw (rw append-nil at p) refl
  brought_in_lem e s (c ∷ cs) (inr p) =
      rw (brought_in_lem e s cs p.1) (or-true (brings e (seen M (state_after M s cs) c).took (history M s cs)))

  pub only_new_translations : Covers T → (s : Bench M) (g : List (Seen T)) → Beyond M s g
      → (r : Run M s) (i : Ticket) (a : T.Area) → Arrived M r i a → OnlyNewTranslations M r a
  only_new_translations covers s g B r i a z c u b k e o =
      let t = served in
      (t.entry, t.serves, brought t.entry (arrival M r) r.since (B.sooner r i a z t.entry t.held (covers a t.entry b k o t.serves)))
    where
      same : state_after M s (r.since ++ r.call ∷ r.before) ≡ end M r
      same = state_append s r.since (r.call ∷ r.before)

      -- the run up to that call
      to_it : Run M s
      to_it = record {
        before = r.since ++ r.call ∷ r.before;
        call = c;
        since = [];
        unbroken = (rw same u, unbroken_append s r.since (r.call ∷ r.before) r.goes_on r.unbroken);
        goes_on = tt;
      }

      served : Served M (end M r).fn b k
      served = rw same at (B.through to_it b k (rw same e))
