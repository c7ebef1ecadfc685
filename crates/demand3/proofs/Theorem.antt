-- The laws imply the third demand, for every machine.
use Rattle.std.specs.Prelude.{Option, None, Some}
use mathlib.Core.Path.{◌≡◌, refl, sym, ap, ◌∙◌}
use mathlib.Core.Logic.{◌⊎◌, inl, inr, ⊎_elim, ◌↔◌}
use mathlib.Core.Bool.{Bool, true, false, not, cond, ◌&&◌, and-false}
use mathlib.Core.List.{List, [], ◌∷◌, ◌++◌, append-nil}
use Prim.Native.Nat.{ℕ, zero, suc, ◌+◌, ◌-◌, ◌<◌}
use native.Mathlib.Nat.{zero-add}
use native.Mathlib.Omega.{arith}
use borrow.Author.Tests.{eqb-true, eqb-false, eq-eqb}
use lib.Dec.{eqb}
use lib.ListN.{length, drop}
use Rattle.demand3.specs.Terms.{Terms}
use Rattle.demand3.specs.Seen.{Ticket, Taken, CPL, INV, DRAIN, Sent, TR, READ, WRITE, IC, Seen}
use Rattle.demand3.specs.History.{Pending, translation, fetch, given, none_below, is_open, leaves, on_taken, on_sent, open_at, remains, read_in, uses, accepts, drains, completes, requests, completions, request_of, completion_of, requests_of, completions_of, agent_taken, agent_in, older, waits, waits_of, gave, brings}
use Rattle.demand3.specs.Runs.{Observer, Machine, Bench, refuses, resets, packet, seen, next, state_after, history, Unbroken, Run, start, arrival, seen_at, later, earlier, Holds, CameFrom}
use Rattle.demand3.specs.Order.{Arrived, OnlyNewEntries, NoOldRead, Letter, Beyond, Starts, Order}
use Rattle.lemmas.proofs.Cases.{by_cases, either_case, and_both, never_both, is_false}
use Rattle.lemmas.proofs.Bools.{no_tf, no_some, cond_same}
use Rattle.demand3.proofs.Laws.{View, Step, HeldIn, ends, fills, Apart}

-- ---- numbers below n, and Booleans

pub none_cong : (n : ℕ) (f g : ℕ → Bool) → ((t : ℕ) → f t ≡ g t) → none_below n f ≡ none_below n g
none_cong zero f g e = refl
none_cong (suc n) f g e = rw (e n, none_cong n f g e)

-- a number below n at which f holds
pub none_not : (n : ℕ) (f : ℕ → Bool) (t : ℕ) → t < n → f t ≡ true → none_below n f ≡ false
none_not zero f t h e = absurd (omega arith)
none_not (suc n) f t h e = by_cases (f n) (λ q. rw q refl) (λ q. rw q (none_not n f t (other_than q) e))
  where
    other_than : f n ≡ false → t < n
    other_than q =
        by_cases (eqb t n) (λ p. no_tf (sym e ∙ (ap f (eqb-true t n p) ∙ q))) (λ p. omega (arith, eqb-false t n p))

-- a drain call, and a ticket that waits or not
drain_waits : (y W : Bool) → (not y && W) ≡ (not (W && y) && W)
drain_waits true true = refl
drain_waits true false = refl
drain_waits false true = refl
drain_waits false false = refl

drain_bits : (y W : Bool) → cond W 1 0 ≡ cond (W && y) 1 0 + cond (not y && W) 1 0
drain_bits true true = refl
drain_bits true false = refl
drain_bits false true = refl
drain_bits false false = refl

some_one : {a b : ℕ} → ◌≡◌ {A = Option ℕ} (Some a) (Some b) → a ≡ b
some_one e = cc

abbrev ticket : ℕ → ℕ → Ticket
ticket agent number = record { agent = agent; number = number }

itself : (T : Terms) (i : Ticket) (a : T.Area) → accepts {T = T} i (Some (INV i a)) ≡ Some a
itself T i a = rw (eq-eqb i.agent i.agent refl, eq-eqb i.number i.number refl)

-- ---- open requests

module _ {T : Terms} where
  -- the completion of an ITag is one of a ticket
  completion_none : (k : ℕ) (y : Option (Sent T)) → ((g : ℕ) → completes (ticket g k) y ≡ false)
      → completion_of k y ≡ false
  completion_none k None f = refl
  completion_none k (Some (TR t q)) f = refl
  completion_none k (Some (READ t x b to)) f = refl
  completion_none k (Some (WRITE x b to)) f = refl
  completion_none k (Some (IC g v)) f = sym (ap (λ (z : Bool). z && v k) (eq-eqb g g refl)) ∙ f g

  completion_is : (k g : ℕ) (y : Option (Sent T)) → ((f : ℕ) → completes (ticket f k) y ≡ true → f ≡ g)
      → completion_of k y ≡ completes (ticket g k) y
  completion_is k g None f = refl
  completion_is k g (Some (TR t q)) f = refl
  completion_is k g (Some (READ t x b to)) f = refl
  completion_is k g (Some (WRITE x b to)) f = refl
  completion_is k g (Some (IC o v)) f =
      by_cases (v k)
      (λ e. let same : o ≡ g = f o (rw (eq-eqb o o refl, e)) in rw (e, ← same, eq-eqb o o refl))
      (λ e. rw (e, and-false (eqb g o)))

  shut : (o : Option (Pending T)) → is_open o ≡ false → o ≡ None
  shut None e = refl
  shut (Some o) e = no_tf e

  taken_none : (t : ℕ) (k : Option (Taken T)) → on_taken t k None ≡ None
  taken_none t None = refl
  taken_none t (Some (CPL u n d)) = cond_same (eqb t u) None
  taken_none t (Some (INV i a)) = refl
  taken_none t (Some (DRAIN n)) = refl

  -- what is open after was open before
  taken_was : (t : ℕ) (k : Option (Taken T)) (o : Option (Pending T)) → is_open (on_taken t k o) ≡ true → is_open o ≡ true
  taken_was t k None e = no_tf (sym (rw (taken_none t k) at e))
  taken_was t k (Some o) e = refl

  -- a request that does not end stays open, and one that ends does not
  taken_stays : (t : ℕ) (k : Option (Taken T)) (o : Option (Pending T))
      → is_open (on_taken t k o) ≡ (not (ends t k o) && is_open o)
  taken_stays t k None = rw (taken_none t k) (sym (and-false (not (ends t k None))))
  taken_stays t None (Some o) = refl
  taken_stays t (Some (CPL u n d)) (Some o) = go (eqb t u)
    where
      go : (b : Bool)
          → is_open (cond b (leaves d (Some o)) (Some o)) ≡ (not (b && not (is_open (leaves d (Some o)))) && true)
      go true = two (is_open (leaves d (Some o)))
        where
          two : (x : Bool) → x ≡ (not (not x) && true)
          two true = refl
          two false = refl
      go false = refl
  taken_stays t (Some (INV i a)) (Some o) = refl
  taken_stays t (Some (DRAIN n)) (Some o) = refl

  accepts_taken : (i : Ticket) (a : T.Area) (t : ℕ) (k : Option (Taken T)) (o : Option (Pending T))
      → accepts i k ≡ Some a → on_taken t k o ≡ o
  accepts_taken i a t None o e = refl
  accepts_taken i a t (Some (CPL u n d)) o e = no_some e
  accepts_taken i a t (Some (INV k b)) o e = refl
  accepts_taken i a t (Some (DRAIN n)) o e = refl

  sent_other : (t : ℕ) (k : Option (Sent T)) (o : Option (Pending T)) → uses t k ≡ false → on_sent t k o ≡ o
  sent_other t None o e = refl
  sent_other t (Some (TR u q)) o e = rw e refl
  sent_other t (Some (READ u x b k)) o e = rw e refl
  sent_other t (Some (WRITE x b k)) o e = refl
  sent_other t (Some (IC g v)) o e = refl

  sent_new : (t : ℕ) (k : Option (Sent T)) (o p : Option (Pending T)) → uses t k ≡ true → on_sent t k o ≡ on_sent t k p
  sent_new t None o p e = no_tf (sym e)
  sent_new t (Some (TR u q)) o p e = rw e refl
  sent_new t (Some (READ u x b k)) o p e = rw e refl
  sent_new t (Some (WRITE x b k)) o p e = no_tf (sym e)
  sent_new t (Some (IC g v)) o p e = no_tf (sym e)

  read_is : (a : T.Area) (o : Option (Pending T)) → is_open (read_in a o) ≡ true → read_in a o ≡ o
  read_is a None e = refl
  read_is a (Some (translation q n)) e = no_tf (sym e)
  read_is a (Some (fetch x b n)) e = go (x && T.access_in a b) (fetch x b n) e
    where
      go : (z : Bool) (o : Pending T) → is_open (cond z (Some o) None) ≡ true → cond z (Some o) None ≡ Some o
      go true o p = refl
      go false o p = no_tf (sym p)

  apart_taken : (a : T.Area) (t : ℕ) (k : Option (Taken T)) (o : Option (Pending T)) → Apart a o
      → Apart a (on_taken t k o)
  apart_taken a t None o p = p
  apart_taken a t (Some (CPL u n d)) o p = at_tag (eqb t u)
    where
      kept : (b : Bool) (o : Pending T) → Apart a (Some o) → Apart a (cond b None (Some o))
      kept true o f = tt
      kept false o f = f

      after_less : (d : Option T.Data) (o : Option (Pending T)) → Apart a o → Apart a (leaves d o)
      after_less d None p = tt
      after_less None (Some o) p = tt
      after_less (Some d) (Some (translation q m)) p =
          kept (eqb (T.count d) (T.size d)) (translation q (m + T.size d)) p
      after_less (Some d) (Some (fetch x b m)) p = either_case (Apart a) (eqb (T.count d) m) _ _ (λ e. kept (eqb (T.size d) m) (fetch x b (m - T.size d)) tt) (λ e. tt)

      at_tag : (b : Bool) → Apart a (cond b (leaves d o) o)
      at_tag true = after_less d o p
      at_tag false = p
  apart_taken a t (Some (INV i b)) o p = p
  apart_taken a t (Some (DRAIN n)) o p = p

  apart_gave : (a : T.Area) (o : Option (Pending T)) → Apart a o → (e : T.Entry) (d : T.Data) → gave e d o ≡ true
      → T.entry_in a e ≡ false
  apart_gave a None p e d g = no_tf (sym g)
  apart_gave a (Some (translation q n)) p e d g = p n d e g
  apart_gave a (Some (fetch x b n)) p e d g = no_tf (sym g)

-- ---- one call

module _ {T : Terms} (tags : ℕ) where
  -- The views agree with the history.
  pub record Told (v : View T) (h : List (Seen T)) : Type 0 where
    pub opens : (t : ℕ) → open_at t h ≡ v.opens t
    pub inside : (t : ℕ) → is_open (v.opens t) ≡ true → t < tags
    pub waiting : (i : Ticket) → waits tags i h ≡ v.waiting i
    pub older : (i : Ticket) (t : ℕ) → v.waiting i ≡ true → older i t h ≡ cond (v.waits_for i t) (v.opens t) None
    pub noted : (i : Ticket) (t : ℕ) → v.waiting i ≡ true → v.waits_for i t ≡ true → is_open (v.opens t) ≡ true
    pub counts : (i : Ticket) → requests i h ≡ completions i h + cond (waits tags i h) 1 0
    pub agent : (i : Ticket) → 0 < requests i h → v.agent ≡ Some i.agent

  -- and by the number of an ITag alone
  pub record Summed (v : View T) (h : List (Seen T)) : Type 0 where
    pub agent : (g : ℕ) → agent_in h ≡ Some g → v.agent ≡ Some g
    pub nobody : agent_in h ≡ None → (i : Ticket) → requests i h ≡ 0
    pub sums : (k : ℕ) → requests_of k h ≡ completions_of k h + cond (waits_of tags k h) 1 0

  module _ (v w : View T) (x : Seen T) (q : Step tags v w x) where
    -- the tag of an open request is not used for another
    stays : (t : ℕ) → is_open (v.opens t) ≡ true → w.opens t ≡ on_taken t x.took (v.opens t)
    stays t o = by_cases (uses t x.sent) (λ p. no_tf (sym o ∙ ap is_open (q.unused t p).1))
        (λ p. q.opens t ∙ sent_other t x.sent (on_taken t x.took (v.opens t)) p)

    -- a ticket that waits, because of an old request or of this one
    was : (i : Ticket) → accepts i x.took ≡ None → w.waiting i ≡ true → v.waiting i ≡ true
    was i n e = (and_both (not (completes i x.sent)) (v.waiting i) (rw n at (rw (q.waiting i) at e))).1

    module _ (h : List (Seen T)) (R : Told v h) where
      drain : Ticket → Bool
      drain i = drains i x.took && none_below tags (λ t. is_open (older i t h))

      older_open : (i : Ticket) (t : ℕ) → v.waiting i ≡ true → is_open (older i t h) ≡ v.waits_for i t
      older_open i t e =
          ap is_open (R.older i t e) ∙ by_cases (v.waits_for i t) (λ p. rw p (R.noted i t e p)) (λ p. rw p refl)

      carried : (i : Ticket) → completes i x.sent ≡ (waits tags i h && drain i)
      unfolding drain
      carried i = q.carried i ∙ (rw (R.waiting i) (by_cases (v.waiting i)
          (λ p. rw (p, none_cong tags (λ t. is_open (older i t h)) (v.waits_for i) (λ t. older_open i t p)) refl) (λ p. rw p (and-false (drains i x.took)))))

      told_older : (i : Ticket) (t : ℕ) → w.waiting i ≡ true
          → older i t (x ∷ h) ≡ cond (w.waits_for i t) (w.opens t) None
      told_older i t e = rw (q.waits_for i t e, R.opens t) (go (accepts i x.took) refl)
        where
          go : (o : Option T.Area) → accepts i x.took ≡ o
              → given o (λ a. read_in a (v.opens t)) (on_taken t x.took (older i t h))
              ≡ cond (given o (λ a. is_open (read_in a (v.opens t))) (not (ends t x.took (v.opens t)) && v.waits_for i t)) (w.opens t) None
          go (Some a) n = by_cases (is_open (read_in a (v.opens t)))
              (λ p. rw p (read_is a (v.opens t) p ∙ sym (stays t (ap is_open (sym (read_is a (v.opens t) p)) ∙ p) ∙ accepts_taken i a t x.took (v.opens t) n)))
              (λ p. rw p (shut (read_in a (v.opens t)) p))
          go None n = rw (R.older i t (was i n e)) (by_cases (v.waits_for i t) (λ p. rw p (noted (R.noted i t (was i n e) p))) (λ p. rw (p, and-false) (taken_none t x.took)))
            where
              noted : is_open (v.opens t) ≡ true
                  → on_taken t x.took (v.opens t)
                  ≡ cond (not (ends t x.took (v.opens t)) && true) (w.opens t) None
              noted o = by_cases (ends t x.took (v.opens t)) (λ p. rw p (shut _ (rw p at (taken_stays t x.took (v.opens t))))) (λ p. rw p (sym (stays t o)))

      told_noted : (i : Ticket) (t : ℕ) → w.waiting i ≡ true → w.waits_for i t ≡ true → is_open (w.opens t) ≡ true
      told_noted i t e f = go (accepts i x.took) refl (rw (q.waits_for i t e) at f)
        where
          go : (o : Option T.Area) → accepts i x.took ≡ o
              → given o (λ a. is_open (read_in a (v.opens t))) (not (ends t x.took (v.opens t)) && v.waits_for i t) ≡ true
              → is_open (w.opens t) ≡ true
          go (Some a) n p =
              let o : is_open (v.opens t) ≡ true = ap is_open (sym (read_is a (v.opens t) p)) ∙ p in
              rw (stays t o, accepts_taken i a t x.took (v.opens t) n) o
          go None n p =
              let z : (not (ends t x.took (v.opens t)) ≡ true) × (v.waits_for i t ≡ true) = and_both _ _ p in
              let o : is_open (v.opens t) ≡ true = R.noted i t (was i n e) z.1 in
              rw (stays t o, taken_stays t x.took (v.opens t), z.0) o

      told_counts : (i : Ticket) → requests i (x ∷ h) ≡ completions i (x ∷ h) + cond (waits tags i (x ∷ h)) 1 0
      unfolding drain
      told_counts i = rw (carried i) (go (accepts i x.took) refl)
        where
          go : (o : Option T.Area) → accepts i x.took ≡ o → given o (λ a. 1) 0 + requests i h
              ≡ cond (waits tags i h && drain i) 1 0 + completions i h + cond (given o (λ a. true) (not (drain i) && waits tags i h)) 1 0
          go (Some a) n = let z : waits tags i h ≡ false = R.waiting i ∙ q.not_yet i a n in rw z (omega (arith, rw z at (R.counts i)))
          go None n = omega (arith, R.counts i, drain_bits (drain i) (waits tags i h))

      told_agent : (i : Ticket) → 0 < requests i (x ∷ h) → w.agent ≡ Some i.agent
      told_agent i more = go (accepts i x.took) refl more
        where
          go : (o : Option T.Area) → accepts i x.took ≡ o → 0 < given o (λ a. 1) 0 + requests i h
              → w.agent ≡ Some i.agent
          go (Some a) n m = q.first i a n
          go None n m = q.lasts i.agent (R.agent i (omega (arith, m)))

      pub told : Told w (x ∷ h)
      unfolding drain
      told = record {
        opens = λ t. rw (R.opens t) (sym (q.opens t));
        inside = λ t o. by_cases (uses t x.sent) (λ p. (q.unused t p).0)
            (λ p. R.inside t (taken_was t x.took (v.opens t) (rw (q.opens t, sent_other t x.sent (on_taken t x.took (v.opens t)) p) at o)));
        waiting = λ i. rw (q.waiting i, carried i, ← R.waiting i) (ap (given (accepts i x.took) (λ a. true)) (drain_waits (drain i) (waits tags i h)));
        older = told_older;
        noted = told_noted;
        counts = told_counts;
        agent = told_agent;
      }

      -- a ticket that waits was requested
      waits_asked : (i : Ticket) → waits tags i h ≡ true → 0 < requests i h
      waits_asked i e = rw (R.counts i, e) (omega arith)

      module _ (S : Summed v h) where
        not_waiting : agent_in h ≡ None → (i : Ticket) → waits tags i h ≡ false
        not_waiting n i = is_false _ (λ e. let more = waits_asked i e in let none_yet = S.nobody n i in omega (arith, more, none_yet))

        completed_waits : (i : Ticket) → completes i x.sent ≡ true → waits tags i h ≡ true
        completed_waits i e = (and_both (waits tags i h) _ (sym (carried i) ∙ e)).0

        -- no Invalidate Request is accepted
        module _ (apart : (i : Ticket) → accepts i x.took ≡ None) (k : ℕ) where
          summed_quiet : requests_of k h
              ≡ cond (completion_of k x.sent) 1 0 + completions_of k h
              + cond (given (agent_in h) (λ g. waits tags (ticket g k) (x ∷ h)) false) 1 0
          unfolding drain
          summed_quiet = go (agent_in h) refl
            where
              go : (o : Option ℕ) → agent_in h ≡ o
                  → requests_of k h
                  ≡ cond (completion_of k x.sent) 1 0 + completions_of k h
                  + cond (given o (λ g. waits tags (ticket g k) (x ∷ h)) false) 1 0
              go None n =
                  let nothing = completion_none k x.sent (λ g. is_false _ (λ e. never_both _ (completed_waits (ticket g k) e) (not_waiting n (ticket g k)))) in
                  let before : requests_of k h ≡ completions_of k h + 0 = rw n at (S.sums k) in
                  rw nothing (omega (arith, before))
              go (Some g) n =
                  let its = completion_is k g x.sent (λ f e. some_one (sym (R.agent (ticket f k) (waits_asked (ticket f k) (completed_waits (ticket f k) e))) ∙ S.agent g n)) in
                  let before : requests_of k h ≡ completions_of k h + cond (waits tags (ticket g k) h) 1 0 = rw n at (S.sums k) in
                  rw (its, carried (ticket g k), apart (ticket g k)) (omega (arith, before, drain_bits (drain (ticket g k)) (waits tags (ticket g k) h)))

        -- an Invalidate Request with ticket i is accepted
        module _ (i : Ticket) (a : T.Area) (is : x.took ≡ Some (INV i a)) (k : ℕ) where
          none_sent : completion_of k x.sent ≡ false
          none_sent = completion_none k x.sent (λ g. q.carried (ticket g k) ∙ rw is refl)

          same_agent : (g : ℕ) → agent_in h ≡ Some g → g ≡ i.agent
          same_agent g n = some_one (sym (q.lasts g (S.agent g n)) ∙ q.first i a (rw is (itself T i a)))

          waited : waits_of tags k h ≡ waits tags (ticket i.agent k) h
          waited = go (agent_in h) refl
            where
              go : (o : Option ℕ) → agent_in h ≡ o
                  → given o (λ g. waits tags (ticket g k) h) false ≡ waits tags (ticket i.agent k) h
              go None n = sym (not_waiting n (ticket i.agent k))
              go (Some g) n = ap (λ (z : ℕ). waits tags (ticket z k) h) (same_agent g n)

          summed_request : cond (eqb k i.number) 1 0 + requests_of k h
              ≡ cond (completion_of k x.sent) 1 0 + completions_of k h + cond (waits tags (ticket i.agent k) (x ∷ h)) 1 0
          summed_request =
              by_cases (eqb k i.number)
              (λ e. let idle : waits tags (ticket i.agent k) h ≡ false = R.waiting (ticket i.agent k) ∙ q.not_yet (ticket i.agent k) a (rw (is, eq-eqb i.agent i.agent refl, e)) in
              rw (none_sent, is, eq-eqb i.agent i.agent refl, e) (omega (arith, rw idle at before)))
              (λ e. rw (none_sent, is, eq-eqb i.agent i.agent refl, e) (omega (arith, before)))
            where
              before : requests_of k h ≡ completions_of k h + cond (waits tags (ticket i.agent k) h) 1 0
              before = rw waited at (S.sums k)

        -- without an Invalidate Request
        quietly : ((i : Ticket) → accepts i x.took ≡ None) → ((o : Option ℕ) → agent_taken x.took o ≡ o)
            → ((k : ℕ) → request_of k x.took ≡ false) → Summed w (x ∷ h)
        quietly apart same none-asked = record {
          agent = λ g e. q.lasts g (S.agent g (sym (same (agent_in h)) ∙ e));
          nobody = λ e i. rw (apart i) (rw zero-add (S.nobody (sym (same (agent_in h)) ∙ e) i));
          sums = λ k. rw (none-asked k, same (agent_in h), zero-add) (summed_quiet apart k);
        }

        summed_by : (y : Option (Taken T)) → x.took ≡ y → Summed w (x ∷ h)
        summed_by None is = quietly (λ i. rw is refl) (λ o. rw is refl) (λ k. rw is refl)
        summed_by (Some (CPL t n d)) is = quietly (λ i. rw is refl) (λ o. rw is refl) (λ k. rw is refl)
        summed_by (Some (DRAIN n)) is = quietly (λ i. rw is refl) (λ o. rw is refl) (λ k. rw is refl)
        summed_by (Some (INV i a)) is = record {
          agent = λ g e. q.first i a (rw is (itself T i a)) ∙ (rw is at e);
          nobody = λ e. no_some (sym (rw is at e));
          sums = λ k. rw is (rw is at (summed_request i a is k));
        }

        pub summed : Summed w (x ∷ h)
        summed = summed_by x.took refl

  -- what fills the cache was brought for a Translation Request of the history
  filled_brings : (v : View T) (h : List (Seen T)) → Told v h → (e : T.Entry) (y : Option (Taken T))
      → fills v y e ≡ true → brings e y h ≡ true
  filled_brings v h R e None f = f
  filled_brings v h R e (Some (CPL t n None)) f = f
  filled_brings v h R e (Some (CPL t n (Some d))) f = rw (R.opens t) (and_both (v.live t) _ f).1
  filled_brings v h R e (Some (INV i a)) f = f
  filled_brings v h R e (Some (DRAIN n)) f = f

  -- An Invalidate Request with ticket i and area a was accepted; old t is the overlapping translated read of tag t that
  -- was open then. h is the history since.
  module _ (i : Ticket) (a : T.Area) (old : ℕ → Option (Pending T)) where
    -- while such a read is open: it is the open request of its tag, the ticket waits for it, and no completion was sent
    pub record Held (v : View T) (h : List (Seen T)) (t : ℕ) : Type 0 where
      pub unsent : completions i h ≡ 0
      pub waiting : v.waiting i ≡ true
      pub waits_for : v.waits_for i t ≡ true
      pub opens : remains t h (old t) ≡ v.opens t

    pub record Since (v : View T) (h : List (Seen T)) : Type 0 where
      pub tickets : (t : ℕ) → v.live t ≡ true → (open_at t h ≡ v.opens t) ⊎ Apart a (v.opens t)
      pub reads : (t : ℕ) → is_open (remains t h (old t)) ≡ true → Held v h t

    module _ (v w : View T) (x : Seen T) (q : Step tags v w x) (g h : List (Seen T)) (R : Told v g) (I : Since v h) where
      new_ticket : (t : ℕ) → w.live t ≡ true → (open_at t (x ∷ h) ≡ w.opens t) ⊎ Apart a (w.opens t)
      new_ticket t l = by_cases (uses t x.sent) (λ p. inl (sent_new t x.sent _ _ p ∙ sym (q.opens t))) (λ p. lived p (q.live t l))
        where
          known : uses t x.sent ≡ false → (open_at t h ≡ v.opens t) ⊎ Apart a (v.opens t)
              → (open_at t (x ∷ h) ≡ w.opens t) ⊎ Apart a (w.opens t)
          known p (inl e) = inl (rw e (sym (q.opens t)))
          known p (inr z) = inr (rw (q.opens t, sent_other t x.sent (on_taken t x.took (v.opens t)) p) (apart_taken a t x.took (v.opens t) z))

          lived : uses t x.sent ≡ false → (v.live t ≡ true) ⊎ (uses t x.sent ≡ true)
              → (open_at t (x ∷ h) ≡ w.opens t) ⊎ Apart a (w.opens t)
          lived p (inl y) = known p (I.tickets t y)
          lived p (inr u) = no_tf (sym u ∙ p)

      still_held : (t : ℕ) → is_open (remains t (x ∷ h) (old t)) ≡ true → Held w (x ∷ h) t
      still_held t o = go (accepts i x.took) refl
        where
          H : Held v h t
          H = I.reads t (taken_was t x.took (remains t h (old t)) o)

          opened : is_open (v.opens t) ≡ true
          opened = ap is_open (sym H.opens) ∙ taken_was t x.took (remains t h (old t)) o

          uncarried : completes i x.sent ≡ false
          uncarried = q.carried i ∙ rw (H.waiting, none_not tags (v.waits_for i) t (R.inside t opened) H.waits_for) (and-false (drains i x.took))

          unended : ends t x.took (v.opens t) ≡ false
          unended = by_cases (ends t x.took (v.opens t)) (λ p. no_tf (sym (rw H.opens at o) ∙ (taken_stays t x.took (v.opens t) ∙ rw p refl))) (λ p. p)

          go : (z : Option T.Area) → accepts i x.took ≡ z → Held w (x ∷ h) t
          go (Some b) n = no_tf (sym H.waiting ∙ q.not_yet i b n)
          go None n =
              let e : w.waiting i ≡ true = rw (q.waiting i, n, uncarried) H.waiting in
              record {
                unsent = rw (uncarried, zero-add) H.unsent;
                waiting = e;
                waits_for = rw (q.waits_for i t e, n, unended) H.waits_for;
                opens = rw H.opens (sym (stays v w x q t opened));
              }

      since : Since w (x ∷ h)
      since = record { tickets = new_ticket; reads = still_held }

      -- an overlapping entry is an old one, or came from a Translation Request sent since
      filled : (e : T.Entry) (k : Option (Taken T)) → T.entry_in a e ≡ true → fills v k e ≡ true → brings e k h ≡ true
      filled e None o f = f
      filled e (Some (CPL t n None)) o f = f
      filled e (Some (CPL t n (Some d))) o f = go (I.tickets t (and_both _ _ f).0)
        where
          go : (open_at t h ≡ v.opens t) ⊎ Apart a (v.opens t) → gave e d (open_at t h) ≡ true
          go (inl y) = rw y (and_both (v.live t) _ f).1
          go (inr y) = no_tf (sym o ∙ apart_gave a (v.opens t) y e d (and_both (v.live t) _ f).1)
      filled e (Some (INV k b)) o f = f
      filled e (Some (DRAIN n)) o f = f

    -- the moment the request is accepted
    begins : (v w : View T) (x : Seen T) → Step tags v w x → (h : List (Seen T)) → Told v h
        → accepts i x.took ≡ Some a
        → ((t : ℕ) → old t ≡ read_in a (open_at t h)) → Since w []
    begins v w x q h R n f = record {
      tickets = λ t l. inr (q.stale i a n t l);
      reads = λ t o. held t (rw (f t, R.opens t) at o);
    }
      where
        held : (t : ℕ) → is_open (read_in a (v.opens t)) ≡ true → Held w [] t
        held t o =
            let e : w.waiting i ≡ true = rw (q.waiting i, n) refl in
            let z : is_open (v.opens t) ≡ true = ap is_open (sym (read_is a (v.opens t) o)) ∙ o in
            record {
              unsent = refl;
              waiting = e;
              waits_for = rw (q.waits_for i t e, n) o;
              opens = rw (f t, R.opens t) (read_is a (v.opens t) o ∙ sym (stays v w x q t z ∙ accepts_taken i a t x.took (v.opens t) n));
            }

-- ---- every run

-- nothing is cached, no request is open and no ticket waits
pub record Blank {T : Terms} (v : View T) : Type 0 where
  pub held : (j : ℕ) → v.held j ≡ None
  pub opens : (t : ℕ) → v.opens t ≡ None
  pub waiting : (i : Ticket) → v.waiting i ≡ false

-- Views of a machine's states whose laws its calls satisfy. Proper: the invariant of every state that is reached from an
-- accepted reset or from a new machine.
pub record Lawful {T : Terms} {R : Observer T} (M : Machine R) : Type 1 where
  pub view : Bench M → View T
  pub held : (s : Bench M) (j : ℕ) → M.held s.fn j ≡ (view s).held j
  pub Proper : Bench M → Type 0
  pub keeps : (s : Bench M) (c : R.Call) → resets M s c ≡ false → Proper s → Proper (next M s c)
  pub law : (s : Bench M) (c : R.Call) → resets M s c ≡ false → Proper s
      → Step R.tags (view s) (view (next M s c)) (seen M s c)
  pub legible : (s : Bench M) (c : R.Call) → resets M s c ≡ false → Proper s
      → R.is_packet s.notes c (packet M s c) ≡ true
  pub taken : (s : Bench M) (c : R.Call) → resets M s c ≡ false → Proper s → refuses M s c ≡ false
      → R.is_taken s.notes c ≡ true
  pub busy : (s : Bench M) (c : R.Call) → Proper s → (i : Ticket) (a : T.Area) → R.took s.notes c ≡ Some (INV i a)
      → (R.busy (M.answer s.fn c) ≡ true) ↔ ((view s).waiting i ≡ true)
  pub apart : (s : Bench M) (c : R.Call) → resets M s c ≡ false → Proper s → (i : Ticket) (a : T.Area)
      → accepts i (seen M s c).took ≡ Some a → packet M s c ≡ []
  pub written : (s : Bench M) (c : R.Call) → resets M s c ≡ false → Proper s
      → M.buffer s.fn c ≡ packet M s c ++ drop (length (packet M s c)) (R.lent c)
  pub silent : (s : Bench M) (c : R.Call) → resets M s c ≡ true
      → (packet M s c ≡ []) × (M.buffer s.fn c ≡ R.lent c)
  pub reset : (s : Bench M) (c : R.Call) → resets M s c ≡ true → Proper (next M s c) × Blank (view (next M s c))
  pub new : Proper (record { fn = M.new; notes = R.at_first }) × Blank (view (record { fn = M.new; notes = R.at_first }))

module _ {T : Terms} {R : Observer T} (M : Machine R) (L : Lawful M) where
  pub ok_run : (s : Bench M) (cs : List R.Call) → L.Proper s → Unbroken M s cs → L.Proper (state_after M s cs)
  ok_run s [] k u = k
  ok_run s (c ∷ cs) k u = L.keeps (state_after M s cs) c u.0 (ok_run s cs k u.1)

  effect : (s : Bench M) (cs : List R.Call) (c : R.Call) → L.Proper s → Unbroken M s (c ∷ cs)
      → Step R.tags (L.view (state_after M s cs)) (L.view (next M (state_after M s cs) c)) (seen M (state_after M s cs) c)
  effect s cs c k u = L.law (state_after M s cs) c u.0 (ok_run s cs k u.1)

  -- what a state holds, in the machine's words and in those of its view
  in_view : (s : Bench M) (e : T.Entry) → Holds M s.fn e → HeldIn (L.view s) e
  in_view s e h = (h.0, sym (L.held s h.0) ∙ h.1)

  of_view : (s : Bench M) (e : T.Entry) → HeldIn (L.view s) e → Holds M s.fn e
  of_view s e h = (h.0, L.held s h.0 ∙ h.1)

  -- from any state whose views agree with what was seen before, g
  module _ (s : Bench M) (k : L.Proper s) (g : List (Seen T)) (D : Told R.tags (L.view s) g) where
    pub told_from : (cs : List R.Call) → Unbroken M s cs
        → Told R.tags (L.view (state_after M s cs)) (history M s cs ++ g)
    told_from [] u = D
    told_from (c ∷ cs) u = told R.tags _ _ (seen M (state_after M s cs) c) (effect s cs c k u) (history M s cs ++ g) (told_from cs u.1)

    summed_from : Summed R.tags (L.view s) g → (cs : List R.Call) → Unbroken M s cs
        → Summed R.tags (L.view (state_after M s cs)) (history M s cs ++ g)
    summed_from S [] u = S
    summed_from S (c ∷ cs) u = summed R.tags _ _ (seen M (state_after M s cs) c) (effect s cs c k u) (history M s cs ++ g) (told_from cs u.1) (summed_from S cs u.1)

    -- an entry was there at the beginning, or came from a Translation Request
    origin_from : (cs : List R.Call) → Unbroken M s cs → (e : T.Entry) → Holds M (state_after M s cs).fn e
        → Holds M s.fn e ⊎ CameFrom M e s g cs
    origin_from [] u e h = inl h
    origin_from (c ∷ cs) u e h = go (origin_from cs u.1 e) ((effect s cs c k u).entries h.0 e (sym (L.held (next M (state_after M s cs) c) h.0) ∙ h.1))
      where
        go : (Holds M (state_after M s cs).fn e → Holds M s.fn e ⊎ CameFrom M e s g cs)
            → HeldIn (L.view (state_after M s cs)) e
            ⊎ (fills (L.view (state_after M s cs)) (seen M (state_after M s cs) c).took e ≡ true)
            → Holds M s.fn e ⊎ CameFrom M e s g (c ∷ cs)
        go f (inl y) = let here = of_view (state_after M s cs) e y in ⊎_elim inl (λ z. inr (inr (here, z))) (f here)
        go f (inr y) =
            inr (inl (filled_brings R.tags _ _ (told_from cs u.1) e (seen M (state_after M s cs) c).took y))

    -- since a request with ticket i and area a
    module _ (i : Ticket) (a : T.Area) (old : ℕ → Option (Pending T))
        (I : Since R.tags i a old (L.view s) []) (none_yet : (j : ℕ) (e : T.Entry) → (L.view s).held j ≡ Some e → T.entry_in a e ≡ false) where
      since_from : (cs : List R.Call) → Unbroken M s cs
          → Since R.tags i a old (L.view (state_after M s cs)) (history M s cs)
      since_from [] u = I
      since_from (c ∷ cs) u = since R.tags i a old _ _ (seen M (state_after M s cs) c) (effect s cs c k u) (history M s cs ++ g) (history M s cs)
          (told_from cs u.1) (since_from cs u.1)

      came_from : (cs : List R.Call) → Unbroken M s cs → (e : T.Entry) → T.entry_in a e ≡ true
          → Holds M (state_after M s cs).fn e → CameFrom M e s [] cs
      came_from [] u e o h = no_tf (sym o ∙ none_yet h.0 e (sym (L.held s h.0) ∙ h.1))
      came_from (c ∷ cs) u e o h = go (came_from cs u.1 e o) ((effect s cs c k u).entries h.0 e (sym (L.held (next M (state_after M s cs) c) h.0) ∙ h.1))
        where
          go : (Holds M (state_after M s cs).fn e → CameFrom M e s [] cs)
              → HeldIn (L.view (state_after M s cs)) e
              ⊎ (fills (L.view (state_after M s cs)) (seen M (state_after M s cs) c).took e ≡ true)
              → CameFrom M e s [] (c ∷ cs)
          go f (inl y) = let here = of_view (state_after M s cs) e y in inr (here, f here)
          go f (inr y) = inl (rw append-nil (filled R.tags i a old _ _ (seen M (state_after M s cs) c) (effect s cs c k u) (history M s cs ++ g) (history M s cs)
              (told_from cs u.1) (since_from cs u.1) e (seen M (state_after M s cs) c).took o y))

  module _ (s : Bench M) (k : L.Proper s) (g : List (Seen T)) (D : Told R.tags (L.view s) g) (S : Summed R.tags (L.view s) g) where
    module _ (r : Run M s) where
      its : Step R.tags (L.view (start M r)) (L.view (arrival M r)) (seen_at M r)
      its = effect s r.before r.call k r.unbroken

      before_told : Told R.tags (L.view (start M r)) (earlier M r g)
      before_told = told_from s k g D r.before r.unbroken.1

      now_told : Told R.tags (L.view (arrival M r)) (seen_at M r ∷ earlier M r g)
      now_told = told_from s k g D (r.call ∷ r.before) r.unbroken

      now_ok : L.Proper (arrival M r)
      now_ok = ok_run s (r.call ∷ r.before) k r.unbroken

      start_ok : L.Proper (start M r)
      start_ok = ok_run s r.before k r.unbroken.1

      module _ (i : Ticket) (a : T.Area) (z : Arrived M r i a) where
        old : ℕ → Option (Pending T)
        old t = read_in a (open_at t (earlier M r g))

        now_since : Since R.tags i a old (L.view (arrival M r)) []
        unfolding old
        now_since = begins R.tags i a old _ _ (seen_at M r) its (earlier M r g) before_told z (λ t. refl)

        new_entries : OnlyNewEntries M r a
        new_entries e h o = came_from (arrival M r) now_ok (seen_at M r ∷ earlier M r g) now_told i a old now_since (its.dropped i a z) r.since r.goes_on e o h

        -- an old read that is still open delays the completion
        delays : (t : ℕ) → is_open (remains t (later M r) (read_in a (open_at t (earlier M r g)))) ≡ true
            → completions i (later M r) ≡ 0
        unfolding old
        delays t o = ((since_from (arrival M r) now_ok (seen_at M r ∷ earlier M r g) now_told i a old now_since (its.dropped i a z) r.since r.goes_on).reads t o).unsent

        no_old_read : 0 < completions i (later M r) → NoOldRead M r g a
        no_old_read sent t = by_cases (is_open (remains t (later M r) (read_in a (open_at t (earlier M r g)))))
            (λ o. absurd (omega (arith, delays t o, sent))) (λ o. shut _ o)

    pub letter : Letter M s g
    letter = record {
      entries = λ r i a z. new_entries r i a z.0;
      reads = λ r i a z. no_old_read r i a z.0 z.1;
      counts = λ r i. (now_told r).counts i;
      sums = λ r n. (summed_from s k g D S (r.call ∷ r.before) r.unbroken).sums n;
      nine = λ r i a e. rw ((before_told r).waiting i) (L.busy (start M r) r.call (start_ok r) i a e);
    }

    pub beyond : Beyond M s g
    beyond = record {
      sooner = new_entries;
      origin = λ r e h. origin_from s k g D (r.call ∷ r.before) r.unbroken e h;
      through = λ r b n e. let t = (its r).through b n e in record { entry = t.entry; held = of_view (start M r) t.entry t.held; serves = t.serves };
      direct = λ r b n e. (its r).direct b n e;
      tags = λ r t e. (((its r).unused t e).0, (before_told r).opens t ∙ ((its r).unused t e).1);
      legible = λ r. L.legible (start M r) r.call r.unbroken.0 (start_ok r);
      taken = λ r e. L.taken (start M r) r.call r.unbroken.0 (start_ok r) e;
      written = λ r. L.written (start M r) r.call r.unbroken.0 (start_ok r);
      apart = λ r i a z. L.apart (start M r) r.call r.unbroken.0 (start_ok r) i a z;
      agent = λ r i j m n. some_one (sym ((now_told r).agent i m) ∙ (now_told r).agent j n);
    }

  module _ (s : Bench M) (start_ok : L.Proper s × Blank (L.view s)) where
    pub told_blank : Told R.tags (L.view s) []
    told_blank = record {
      opens = λ t. sym (start_ok.1.opens t);
      inside = λ t o. no_tf (sym o ∙ ap is_open (start_ok.1.opens t));
      waiting = λ i. sym (start_ok.1.waiting i);
      older = λ i t e. no_tf (sym e ∙ start_ok.1.waiting i);
      noted = λ i t e f. no_tf (sym e ∙ start_ok.1.waiting i);
      counts = λ i. refl;
      agent = λ i h. absurd (omega (arith, h));
    }

    summed_blank : Summed R.tags (L.view s) []
    summed_blank = record { agent = λ g e. no_some e; nobody = λ e i. refl; sums = λ n. refl }

    pub starts : Starts M s
    starts = record {
      empty = λ e h. no_some (sym (start_ok.1.held h.0) ∙ (sym (L.held s h.0) ∙ h.1));
      letter = letter s start_ok.0 [] told_blank summed_blank;
      beyond = beyond s start_ok.0 [] told_blank summed_blank;
    }

  pub order : Order M
  order = record {
    reset = λ s c e. starts (next M s c) (L.reset s c e);
    new = starts _ L.new;
    silent = L.silent;
  }
