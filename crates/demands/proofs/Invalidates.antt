-- An accepted Invalidate Request: entries are deleted, Translation Requests become stale and
-- reads delay the ITag, in one step.
use Rattle.std.specs.Prelude.{None, Option, Some}
use Rattle.std.proofs.lemmas.Bool.{not-false}
use mathlib.Core.Path.{◌≡◌, refl, sym, ap, ◌∙◌}
use mathlib.Core.Logic.{inl}
use mathlib.Core.Bool.{Bool, true, false, cond, ◌&&◌, ◌||◌, and-false, or-true, or-false}
use Prim.Native.Nat.{ℕ, ◌<◌}
use native.Mathlib.Omega.{arith}
use lib.Dec.{eqb, ltb}
use borrow.Author.Tests.{eqb-true, eqb-false, ltb-true, lt-ltb, eq-eqb, ne_eqb}
use Rattle.lemmas.proofs.Cases.{by_cases, and_both, never_both, is_false, impossible}
use Rattle.ranges.specs.declared.Range.{Range}
use Rattle.packet.specs.declared.ITag.{ITag}
use Rattle.packet.specs.declared.Tag.{Tag}
use Rattle.packet.specs.declared.InvalidateRequest.{InvalidateRequest}
use Rattle.atc.specs.declared.Entry.{Entry}
use Rattle.atc.specs.Cache.{entry_at, entry_overlaps, entry_dropped}
use Rattle.atc.proofs.Laws.{laws}
use Rattle.tags.specs.declared.TagState.{TagState}
use Rattle.tags.specs.declared.TagState.TheVariants.{Free, Translate, Read}
use Rattle.tags.specs.declared.PendingTranslation.{PendingTranslation}
use Rattle.tags.specs.Itags.{bit_index, is_in}
use Rattle.tags.specs.Tags.{tag_state, delayed_by, invalidated_state, pending_overlaps, invalidated_if}
use Rattle.tags.proofs.Laws.{in_with_itag, in_bit_index, with_itag_lt, invalidated_long, tag_state_invalidated}
use Rattle.state.specs.declared.Function.{Function}
use Rattle.on_invalidate.specs.Invalidate.{invalidated_range, is_other_agent, invalidated_by}
use Rattle.lemmas.proofs.Bools.{no_tf, no_some}
use Rattle.demand3.specs.Seen.{Ticket, same, INV}
use Rattle.demand3.specs.History.{given, is_open, read_in}
use Rattle.demand3.proofs.Laws.{Step}
use Rattle.demands.specs.Observed.{Cached, terms, Noted, itag, is_listed, slot_held, held_in}
use Rattle.demands.proofs.Views.{tag, pending_of, live_of, is_agent, view, Proper}
use Rattle.demands.proofs.Marks.{invalidate_pending, invalidate_live, invalidate_delayed, invalidate_apart}

-- what is held of a slot is its entry, with the current STU
pub held_entry : (stu : ℕ) (slot : Option Entry) (e : Cached) → slot_held stu slot ≡ Some e
    → (slot ≡ Some e.entry) × (stu ≡ e.stu)
held_entry stu None e h = no_some h
held_entry stu (Some x) e h =
    let same : record { used = true; stu = stu; entry = x } ≡ e = cc in
    (ap (λ (y : Cached). Some y.entry) same, ap (λ (y : Cached). y.stu) same)

-- and it is in use
pub held_used : (stu : ℕ) (slot : Option Entry) (e : Cached) → slot_held stu slot ≡ Some e → true ≡ e.used
held_used stu None e h = no_some h
held_used stu (Some x) e h =
    let same : record { used = true; stu = stu; entry = x } ≡ e = cc in
    ap (λ (y : Cached). y.used) same

-- so it is held of any slot with that entry
pub held_again : (stu : ℕ) (slot from : Option Entry) (e : Cached) → slot_held stu from ≡ Some e → slot ≡ Some e.entry
    → slot_held stu slot ≡ Some e
held_again stu slot from e h s =
    rw (s, (held_entry stu from e h).1)
    (ap (λ (u : Bool). Some (record { used = u; stu = e.stu; entry = e.entry })) (held_used stu from e h))

-- an entry that is left after a range is deleted was there, and does not overlap the range
left_entry : (stu : ℕ) (range : Range) (slot : Option Entry) (e : Entry) → entry_dropped stu range slot ≡ Some e
    → (slot ≡ Some e) × (entry_overlaps stu range e ≡ false)
left_entry stu range None e h = no_some h
left_entry stu range (Some x) e h =
    by_cases (entry_overlaps stu range x)
    (λ u. no_some (rw u at h))
    (λ u. let same : Some x ≡ Some e = rw u at h in
    let is : x ≡ e = cc in
    (same, rw (← is) u))

-- an ITag has five bits
pub place_lt : (i : ITag) → bit_index i < 32
place_lt i = omega arith

place_is : (n : ℕ) → n < 32 → bit_index (itag n) ≡ n
place_is n h = omega arith

module _ (me : Noted) (f : Function) (o : Proper me f) (from : ℕ) (i : InvalidateRequest) (short : from < 65536) (ours : is_other_agent f.agent from ≡ false) (idle : is_in f.waiting i.itag ≡ false) where
  abbrev range : Range
  range = invalidated_range f.stu i

  abbrev gone : Function
  gone = invalidated_by f from i

  abbrev its : Ticket
  its = record { agent = from; number = bit_index i.itag }

  at_tag : (t : Tag) → tag_state gone.tags t ≡ invalidated_if range i.itag (tag_state f.tags t)
  at_tag t = tag_state_invalidated range i.itag f.tags t

  -- an entry that is still held was held before, and does not overlap the range
  still : (j : ℕ) (e : Cached) → held_in gone j ≡ Some e
      → (held_in f j ≡ Some e) × (terms.entry_in range e ≡ false)
  still j e h =
      let a = held_entry f.stu (entry_at gone.cache j) e h in
      let b = left_entry f.stu range (entry_at f.cache j) e.entry (sym (laws.range_entry f.stu range f.cache o.cache j) ∙ a.0) in (
        held_again f.stu (entry_at f.cache j) (entry_at gone.cache j) e h b.0,
        ap (λ (u : Bool). e.used && u) (rw (← a.1) b.1) ∙ and-false e.used,
      )

  -- a Translation Request that becomes stale keeps its progress
  invalidated_begun : (t : Tag) (q : PendingTranslation) (x : TagState) → tag_state f.tags t ≡ x
      → invalidated_if range i.itag x ≡ Translate q → (q.stu ≡ f.stu) × (q.due ≡ 0 → q.whole ≡ 0)
  invalidated_begun t q x h e =
      by_cases (pending_overlaps range x) (λ u. mark x h (rw u at e)) (λ u. o.begun t q (h ∙ (rw u at e)))
    where
      mark : (x : TagState) → tag_state f.tags t ≡ x → invalidated_state i.itag x ≡ Translate q
          → (q.stu ≡ f.stu) × (q.due ≡ 0 → q.whole ≡ 0)
      mark Free h e = impossible cc
      mark (Translate p) h e =
          let w : p.whole ≡ q.whole = cc in
          let v : p.due ≡ q.due = cc in
          let unit : p.stu ≡ q.stu = cc in
          (sym unit ∙ (o.begun t p h).0, λ d. sym w ∙ (o.begun t p h).1 (v ∙ d))
      mark (Read r) h e = impossible cc

  pub gone_ok : Proper me gone
  gone_ok =
      record {
        unit = o.unit;
        own = o.own;
        id = o.id;
        agent = short;
        cache = laws.range_sound f.stu range f.cache o.cache;
        reached = λ j e h. o.reached j e (left_entry f.stu range (entry_at f.cache j) e (sym (laws.range_entry f.stu range f.cache o.cache j) ∙ h)).0;
        tags = invalidated_long f.tags range i.itag ∙ o.tags;
        begun = λ t q h. invalidated_begun t q (tag_state f.tags t) refl (sym (at_tag t) ∙ h);
        vector = with_itag_lt f.waiting i.itag o.vector;
        noted = λ t k h. in_with_itag f.waiting i.itag k ∙ still (is_in (delayed_by (tag_state f.tags t)) k) (is_in f.waiting k) (eqb (bit_index i.itag) (bit_index k)) _ (λ e. o.noted t k e)
            (sym (ap (λ (x : TagState). is_in (delayed_by x) k) (at_tag t) ∙ invalidate_delayed range i.itag (tag_state f.tags t) k) ∙ h);
        known = λ k e u. impossible cc;
      }
    where
      still : (n w p x : Bool) → (n ≡ true → w ≡ true) → (n || (p && x)) ≡ true → (w || p) ≡ true
      still true w p x h e = rw (h refl)
      still false w true x h e = or-true w
      still false w false x h e = no_tf (sym e)

  -- any other waiting ticket has the same agent: there was none before, or it is this one
  agreed : (k : Ticket) → is_in f.waiting (itag k.number) ≡ true
      → is_agent (Some from) k.agent ≡ is_agent f.agent k.agent
  agreed k w = go f.agent refl ours
    where
      go : (g : Option ℕ) → f.agent ≡ g → is_other_agent g from ≡ false
          → is_agent (Some from) k.agent ≡ is_agent g k.agent
      go None e u = absurd (o.known (itag k.number) w e)
      go (Some id) e u = ap (λ (x : ℕ). eqb k.agent x) (sym (eqb-true id from (not-false (eqb id from) u)))

  -- is k the ticket of this request?
  mine : (k : Ticket) → eqb k.number (bit_index i.itag) ≡ true → is_listed f.waiting k.number ≡ false
  mine k e = rw (eqb-true k.number (bit_index i.itag) e, in_bit_index f.waiting i.itag, idle) (and-false (ltb (bit_index i.itag) 32))

  other : (k : Ticket) → eqb k.number (bit_index i.itag) ≡ false → ltb k.number 32 ≡ true
      → eqb (bit_index i.itag) (bit_index (itag k.number)) ≡ false
  other k e l = rw (place_is k.number (ltb-true k.number 32 l)) (ne_eqb (bit_index i.itag) k.number (λ z. eqb-false k.number (bit_index i.itag) e (sym z)))

  listed_mine : (k : Ticket) → eqb k.number (bit_index i.itag) ≡ true → is_listed gone.waiting k.number ≡ true
  listed_mine k e =
      let n = eqb-true k.number (bit_index i.itag) e in
      rw (n, lt-ltb (bit_index i.itag) 32 (place_lt i.itag), in_with_itag f.waiting i.itag (itag (bit_index i.itag)), place_is (bit_index i.itag) (place_lt i.itag), eq-eqb (bit_index i.itag) (bit_index i.itag) refl) (or-true (is_in f.waiting (itag (bit_index i.itag))))

  listed_other : (k : Ticket) → eqb k.number (bit_index i.itag) ≡ false
      → is_listed gone.waiting k.number ≡ is_listed f.waiting k.number
  listed_other k e = by_cases (ltb k.number 32) (λ l. rw (l, in_with_itag f.waiting i.itag (itag k.number), other k e l) (or-false _)) (λ l. rw l refl)

  gone_waiting : (k : Ticket) → (is_agent (Some from) k.agent && is_listed gone.waiting k.number)
      ≡ given (cond (same k its) (Some range) None) (λ z. true) (is_agent f.agent k.agent && is_listed f.waiting k.number)
  gone_waiting k = by_cases (eqb k.number (bit_index i.itag))
      (λ e. rw (listed_mine k e, mine k e, e, and-false (is_agent f.agent k.agent)) (whose (eqb k.agent from)))
      (λ e. rw (listed_other k e, e, and-false (eqb k.agent from)) (theirs e))
    where
      whose : (z : Bool) → (z && true) ≡ given (cond (z && true) (Some range) None) (λ y. true) false
      whose true = refl
      whose false = refl

      theirs : eqb k.number (bit_index i.itag) ≡ false
          → (eqb k.agent from && is_listed f.waiting k.number)
          ≡ (is_agent f.agent k.agent && is_listed f.waiting k.number)
      theirs e = by_cases (is_listed f.waiting k.number)
          (λ w. ap (λ (b : Bool). b && is_listed f.waiting k.number) (agreed k (and_both (ltb k.number 32) _ w).1))
          (λ w. rw w (and-false (eqb k.agent from) ∙ sym (and-false (is_agent f.agent k.agent))))

  accepted : (k : Ticket) (z : Range) → cond (same k its) (Some range) None ≡ Some z → (same k its ≡ true) × (range ≡ z)
  accepted k z = go (same k its)
    where
      go : (b : Bool) → cond b (Some range) None ≡ Some z → (b ≡ true) × (range ≡ z)
      go true e = (refl, cc)
      go false e = no_some e

  delayed_then : (k : Ticket) (t : ℕ) → (view gone).waiting k ≡ true
      → is_in (delayed_by (tag_state gone.tags (tag t))) (itag k.number)
      ≡ given (cond (same k its) (Some range) None) (λ z. is_open (read_in {T = terms} z (pending_of (tag_state f.tags (tag t))))) (is_in (delayed_by (tag_state f.tags (tag t))) (itag k.number))
  delayed_then k t w =
      let agent : eqb k.agent from ≡ true = (and_both (eqb k.agent from) _ w).0 in
      let low : ltb k.number 32 ≡ true = (and_both (ltb k.number 32) _ (and_both (eqb k.agent from) _ w).1).0 in
      ap (λ (x : TagState). is_in (delayed_by x) (itag k.number)) (at_tag (tag t)) ∙ invalidate_delayed range i.itag (tag_state f.tags (tag t)) (itag k.number) ∙ by_cases (eqb k.number (bit_index i.itag))
      (λ e. let n = eqb-true k.number (bit_index i.itag) e in
      rw (agent, e, unnoted n, n, place_is (bit_index i.itag) (place_lt i.itag), eq-eqb (bit_index i.itag) (bit_index i.itag) refl) refl)
      (λ e. rw (agent, e, other k e low) (or-false _))
    where
      unnoted : k.number ≡ bit_index i.itag
          → is_in (delayed_by (tag_state f.tags (tag t))) (itag k.number) ≡ false
      unnoted n = is_false _ (λ h. never_both _ (o.noted (tag t) (itag k.number) h) (rw (n, in_bit_index f.waiting i.itag) idle))

  pub gone_step : Step 32 (view f) (view gone) (record { took = Some (INV its range); sent = None })
  gone_step =
      record {
        opens = λ t. ap pending_of (at_tag (tag t)) ∙ invalidate_pending range i.itag (tag_state f.tags (tag t));
        unused = λ t e. no_tf (sym e);
        live = λ t l. inl (invalidate_live range i.itag (tag_state f.tags (tag t)) (sym (ap live_of (at_tag (tag t))) ∙ l)).0;
        entries = λ j e h. inl (j, (still j e h).0);
        through = λ b k e. no_some e;
        direct = λ b k e. no_some e;
        waiting = gone_waiting;
        waits_for = λ k t e. delayed_then k t e;
        carried = λ k. refl;
        first = λ k z p. ap Some (sym (eqb-true k.agent from (and_both (eqb k.agent from) _ (accepted k z p).0).0));
        lasts = λ g e. known_from g e;
        not_yet = λ k z p. rw (mine k (and_both (eqb k.agent from) _ (accepted k z p).0).1) (and-false (is_agent f.agent k.agent));
        dropped = λ k z p j e h. rw (← (accepted k z p).1) (still j e h).1;
        stale = λ k z p t l. rw (← (accepted k z p).1, at_tag (tag t)) (invalidate_apart range i.itag (tag_state f.tags (tag t)) (sym (ap live_of (at_tag (tag t))) ∙ l));
      }
    where
      known_from : (g : ℕ) → f.agent ≡ Some g → Some from ≡ Some g
      known_from g = go f.agent ours
        where
          go : (a : Option ℕ) → is_other_agent a from ≡ false → a ≡ Some g → Some from ≡ Some g
          go None u e = no_some e
          go (Some id) u e = ap Some (sym (eqb-true id from (not-false (eqb id from) u))) ∙ e
