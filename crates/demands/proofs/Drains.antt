-- Drain: a completion is sent for exactly the waiting ITags that no outstanding read delays.
use Rattle.std.specs.Prelude.{None, Option, Some}
use mathlib.Core.Path.{◌≡◌, refl, sym, ap, ◌∙◌}
use mathlib.Core.Logic.{inl}
use mathlib.Core.Bool.{Bool, true, false, not, ◌&&◌, and-false}
use mathlib.Core.List.{List, []}
use Prim.Native.Nat.{ℕ, zero, suc, ◌<◌}
use native.Mathlib.Omega.{arith}
use lib.Dec.{eqb, ltb}
use lib.ListN.{length}
use borrow.Author.Tests.{eqb-true, ltb-true}
use Rattle.lemmas.proofs.Cases.{by_cases, and_both, never_both, is_false, impossible}
use Rattle.packet.specs.declared.ITag.{ITag}
use Rattle.packet.specs.declared.Tag.{Tag}
use Rattle.tlp.proofs.Fields.{typed_completion}
use Rattle.tags.specs.declared.TagState.{TagState}
use Rattle.tags.specs.declared.TagState.TheVariants.{Free, Translate, Read}
use Rattle.tags.specs.Itags.{is_in, without}
use Rattle.tags.specs.Tags.{tag_state, is_tag, delayed_by, delayed_itags}
use Rattle.tags.proofs.Laws.{in_none, in_without, without_le, tag_state_tag, delayed_exactly, Delaying}
use Rattle.state.specs.declared.Function.{Function}
use Rattle.state.specs.State.{head_of, with_waiting}
use Rattle.state.proofs.Laws.{Does}
use Rattle.call_send.specs.Drain.{agent_id, invalidate_completion_packet, ready_of}
use Rattle.card.specs.declared.Command.TheVariants.{Drain}
use Rattle.lemmas.proofs.Bools.{no_tf, no_some}
use Rattle.demand3.specs.Seen.{Ticket, DRAIN, IC}
use Rattle.demand3.specs.History.{none_below}
use Rattle.demand3.proofs.Laws.{Step}
use Rattle.demand3.proofs.Theorem.{none_not}
use Rattle.tlp.specs.Bytes.{are_bytes}
use Rattle.demands.specs.Observed.{is_typed, Call, Noted, itag, is_listed}
use Rattle.demands.proofs.Views.{own_packet, tag, is_agent, view, Proper, Good, good_plain, good_send}
use lib.Count.{ones}
use Rattle.state.specs.Answers.{sends_nothing, sends, carries}

none_all : (n : ℕ) (f : ℕ → Bool) → ((t : ℕ) → t < n → f t ≡ false) → none_below n f ≡ true
none_all zero f h = refl
none_all (suc n) f h = rw (h n (omega arith)) (none_all n f (λ t k. h t (omega arith)))

-- ---- which reads an ITag waits for

module _ (tags : List TagState) (i : ITag) (all : length tags ≡ 32) where
  by_read : (t : Tag) → is_in (delayed_by (tag_state tags t)) i ≡ true → Delaying tags i
  by_read t e = go (tag_state tags t) refl e
    where
      go : (x : TagState) → tag_state tags t ≡ x → is_in (delayed_by x) i ≡ true → Delaying tags i
      go Free h n = absurd (never_both _ n (in_none i))
      go (Translate q) h n = absurd (never_both _ n (in_none i))
      go (Read r) h n = record { tag = t; read = r; state = h; delays = n }

  pub delayed_by_read : (t : Tag) → is_in (delayed_by (tag_state tags t)) i ≡ true → is_in (delayed_itags tags) i ≡ true
  delayed_by_read t e = (delayed_exactly tags i all).1 (by_read t e)

  a_tag : (h : Delaying tags i) → is_tag h.tag ≡ true
  a_tag h = tag_state_tag tags h.tag (λ e. let free : Free ≡ Read h.read = sym e ∙ h.state in impossible cc)

  -- it waits for none of the 32 if and only if none delays it
  pub none_delayed : none_below 32 (λ t. is_in (delayed_by (tag_state tags (tag t))) i) ≡ not (is_in (delayed_itags tags) i)
  none_delayed = by_cases (is_in (delayed_itags tags) i) (λ e. rw e (held ((delayed_exactly tags i all).0 e))) (λ e. rw e (none_all 32 _ (λ t k. is_false _ (λ n. never_both _ (delayed_by_read (tag t) n) e))))
    where
      held : Delaying tags i → none_below 32 (λ t. is_in (delayed_by (tag_state tags (tag t))) i) ≡ false
      held h = none_not 32 (λ t. is_in (delayed_by (tag_state tags (tag t))) i) h.tag.0 (ltb-true h.tag.0 32 (a_tag h)) (rw h.state h.delays)

-- ---- Booleans

-- e: it is the agent's; l: its number is below 32; w: it waits; n: a read delays it
regroup : (e l w n : Bool) → (e && (l && (w && not n))) ≡ ((e && (l && w)) && not n)
regroup true true w n = refl
regroup true false w n = refl
regroup false l w n = refl

stays : (e l w n : Bool) → (e && (l && (w && not (w && not n)))) ≡ (not (e && (l && (w && not n))) && (e && (l && w)))
stays true true true true = refl
stays true true true false = refl
stays true true false n = refl
stays true false w n = refl
stays false l w n = refl

module _ (me : Noted) (f : Function) (o : Proper me f) (bytes out : List ℕ) (ty : is_typed Drain ≡ true) (octets : are_bytes bytes ≡ true) where
  abbrev drain_call : Call
  drain_call = record { command = Drain; bytes = bytes; out = out; typed = ty; octets = octets }

  ready_in : (i : ITag) → is_in (ready_of f) i ≡ (is_in f.waiting i && not (is_in (delayed_itags f.tags) i))
  ready_in i = in_without f.waiting (delayed_itags f.tags) i

  abbrev left : Function
  left = with_waiting f (without f.waiting (ready_of f))

  left_in : (i : ITag)
      → is_in left.waiting i
      ≡ (is_in f.waiting i && not (is_in f.waiting i && not (is_in (delayed_itags f.tags) i)))
  left_in i = in_without f.waiting (ready_of f) i ∙ ap (λ (r : Bool). is_in f.waiting i && not r) (ready_in i)

  left_ok : Proper me left
  left_ok =
      record {
        unit = o.unit;
        own = o.own;
        id = o.id;
        agent = o.agent;
        cache = o.cache;
        reached = o.reached;
        tags = o.tags;
        begun = o.begun;
        vector = omega (arith, o.vector, without_le f.waiting (ready_of f));
        noted = λ t i e. left_in i ∙ rw (o.noted t i e, delayed_by_read f.tags i o.tags t e);
        known = λ i e. o.known i (and_both (is_in f.waiting i) _ (sym (left_in i) ∙ e)).0;
      }

  waits_for_none : (i : Ticket)
      → none_below 32 ((view f).waits_for i) ≡ not (is_in (delayed_itags f.tags) (itag i.number))
  waits_for_none i = none_delayed f.tags (itag i.number) o.tags

  -- while the agent is unknown no ITag waits
  unknown : f.agent ≡ None → (i : ITag) → is_in f.waiting i ≡ false
  unknown e i = is_false _ (λ w. o.known i w e)

  -- a drain call that sends nothing
  idle_step : ready_of f ≡ 0 → Step 32 (view f) (view f) (record { took = Some (DRAIN (λ i. true)); sent = None })
  idle_step z =
      record {
        opens = λ t. refl;
        unused = λ t e. no_tf (sym e);
        live = λ t e. inl e;
        entries = λ j e h. inl (j, h);
        through = λ b k e. no_some e;
        direct = λ b k e. no_some e;
        waiting = λ i. refl;
        waits_for = λ i t e. refl;
        carried = λ i. sym (ap (λ (x : Bool). (view f).waiting i && x) (waits_for_none i) ∙ sym (regroup (is_agent f.agent i.agent) (ltb i.number 32) (is_in f.waiting (itag i.number)) (is_in (delayed_itags f.tags) (itag i.number)))
            ∙ rw (← ready_in (itag i.number), z, in_none (itag i.number), and-false (ltb i.number 32)) (and-false (is_agent f.agent i.agent)));
        first = λ i a p. no_some p;
        lasts = λ g e. e;
        not_yet = λ i a p. no_some p;
        dropped = λ i a p. no_some p;
        stale = λ i a p. no_some p;
      }

  -- one that sends a completion
  sent_step : Step 32 (view f) (view left) (record { took = Some (DRAIN (λ i. true)); sent = Some (IC (agent_id f.agent) (is_listed (ready_of f))) })
  sent_step =
      record {
        opens = λ t. refl;
        unused = λ t e. no_tf (sym e);
        live = λ t e. inl e;
        entries = λ j e h. inl (j, h);
        through = λ b k e. no_some e;
        direct = λ b k e. no_some e;
        waiting = λ i. rw (left_in (itag i.number), ready_in (itag i.number)) (stays_by f.agent refl i);
        waits_for = λ i t e. refl;
        carried = λ i. rw (ready_in (itag i.number), waits_for_none i) (carries_by f.agent refl i);
        first = λ i a p. no_some p;
        lasts = λ g e. e;
        not_yet = λ i a p. no_some p;
        dropped = λ i a p. no_some p;
        stale = λ i a p. no_some p;
      }
    where
      carries_by : (g : Option ℕ) → f.agent ≡ g → (i : Ticket)
          → (eqb i.agent (agent_id g) && (ltb i.number 32 && (is_in f.waiting (itag i.number) && not (is_in (delayed_itags f.tags) (itag i.number)))))
          ≡ ((is_agent g i.agent && (ltb i.number 32 && is_in f.waiting (itag i.number))) && not (is_in (delayed_itags f.tags) (itag i.number)))
      carries_by None e i =
          rw (unknown e (itag i.number), and-false (ltb i.number 32)) (and-false (eqb i.agent 0))
      carries_by (Some id) e i = regroup (eqb i.agent id) (ltb i.number 32) (is_in f.waiting (itag i.number)) (is_in (delayed_itags f.tags) (itag i.number))

      stays_by : (g : Option ℕ) → f.agent ≡ g → (i : Ticket)
          → (is_agent g i.agent && (ltb i.number 32 && (is_in f.waiting (itag i.number) && not (is_in f.waiting (itag i.number) && not (is_in (delayed_itags f.tags) (itag i.number))))))
          ≡ (not (eqb i.agent (agent_id g) && (ltb i.number 32 && (is_in f.waiting (itag i.number) && not (is_in (delayed_itags f.tags) (itag i.number))))) && (is_agent g i.agent && (ltb i.number 32 && is_in f.waiting (itag i.number))))
      stays_by None e i = sym (and-false (not (eqb i.agent 0 && (ltb i.number 32 && (is_in f.waiting (itag i.number) && not (is_in (delayed_itags f.tags) (itag i.number)))))))
      stays_by (Some id) e i = stays (eqb i.agent id) (ltb i.number 32) (is_in f.waiting (itag i.number)) (is_in (delayed_itags f.tags) (itag i.number))

  pub good_idle : eqb (ready_of f) 0 ≡ true → Does (Good me f drain_call) (sends_nothing f (carries 0))
  good_idle e = good_plain me f drain_call _ _ o (idle_step (eqb-true (ready_of f) 0 e))

  pub good_drain : eqb (ready_of f) 0 ≡ false
      → Does (Good me f drain_call) (sends left (carries (ones (ready_of f))) (invalidate_completion_packet f.id f.agent (ready_of f)) [] out)
  good_drain ready =
      good_send me f drain_call _ _ (invalidate_completion_packet f.id f.agent (ready_of f)) [] (typed_completion (head_of f.id) o.id _ o.agent (omega (arith, o.vector, without_le f.waiting (delayed_itags f.tags)))) (own_packet me (invalidate_completion_packet f.id f.agent (ready_of f)) (ap head_of o.own) (rw ready refl)) left_ok (λ i. refl) sent_step
