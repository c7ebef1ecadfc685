-- Receiving: each accepted packet preserves the invariant, and changes the views as the observer sees.
use Rattle.std.specs.Prelude.{Option, None, Some}
use mathlib.Core.Path.{◌≡◌, refl, sym, ap, ◌∙◌}
use mathlib.Core.Logic.{◌⊎◌, inl, inr, ⊎_elim}
use mathlib.Core.Bool.{Bool, true, false, ◌&&◌, and-false}
use mathlib.Core.List.{List}
use Prim.Native.Nat.{ℕ, ◌+◌, ◌-◌, ◌<◌, ◌^◌}
use native.Mathlib.Omega.{arith}
use lib.Dec.{eqb, leb}
use lib.ListN.{length}
use borrow.Author.Tests.{eq-eqb, ne_eqb}
use Rattle.lemmas.proofs.Cases.{and_both, never_both, impossible}
use Rattle.packet.specs.declared.ITag.{ITag}
use Rattle.packet.specs.declared.Tag.{Tag}
use Rattle.packet.specs.declared.Outcome.TheVariants.{Data, Status}
use Rattle.packet.specs.declared.Completion.{Completion}
use Rattle.packet.specs.declared.InvalidateRequest.{InvalidateRequest}
use Rattle.packet.specs.declared.PrgResponse.{PrgResponse}
use Rattle.packet.specs.declared.Body.{Body}
use Rattle.packet.specs.declared.Body.TheVariants.{Cpl, Inv, Prs}
use Rattle.packet.specs.Reading.{payload_in}
use Rattle.tlp.specs.Bytes.{Bytes, are_bytes}
use Rattle.tlp.proofs.Laws.{read_typed, completion_payload}
use Rattle.atc.specs.declared.Entry.{Entry}
use Rattle.atc.specs.declared.Cache.{Cache}
use Rattle.atc.specs.Cache.{entry_at}
use Rattle.tags.specs.declared.TagState.{TagState}
use Rattle.tags.specs.declared.TagState.TheVariants.{Free, Translate, Read}
use Rattle.tags.specs.declared.PendingTranslation.{PendingTranslation}
use Rattle.tags.specs.declared.PendingRead.{PendingRead}
use Rattle.tags.specs.Itags.{is_in}
use Rattle.tags.specs.Tags.{tag_state, is_tag, translation_range, delayed_by}
use Rattle.tags.proofs.Laws.{in_none, tag_state_tag, translation_range_units}
use Rattle.translations.specs.declared.Part.TheVariants.{OffBoundary, First, Last}
use Rattle.translations.specs.Fits.{translations_fit}
use Rattle.translations.specs.Fills.{applied, after_first}
use Rattle.translations.proofs.Laws.{Brought, applied_sound, applied_entry}
use Rattle.state.specs.declared.Function.{Function}
use Rattle.state.specs.Answers.{Unrefused, sends_nothing}
use Rattle.state.proofs.Laws.{Does}
use Rattle.on_completion.specs.Reads.{with_due}
use Rattle.on_completion.specs.Translations.{is_live}
use Rattle.on_invalidate.specs.Invalidate.{invalidated_range, is_other_agent}
use Rattle.card.specs.declared.Command.TheVariants.{Receive}
use Rattle.lemmas.proofs.Bools.{no_tf, no_some}
use Rattle.demand3.specs.Seen.{CPL}
use Rattle.demand3.specs.History.{leaves, is_open}
use Rattle.demand3.proofs.Laws.{Step, fills, HeldIn}
use Rattle.demands.specs.Observed.{is_replied, Cached, Reply, terms, is_typed, Call, Noted, outcome_taken, body_taken, slot_held}
use Rattle.demands.proofs.Views.{asked_by, pending_of, live_of, view, Proper, Good, good_plain, quiet}
use Rattle.demands.proofs.Sends.{same_ok}
use Rattle.demands.proofs.Tags.{left, left_ok}
use Rattle.demands.proofs.Invalidates.{held_entry, gone_ok, gone_step, held_used, held_again}
use Rattle.tlp.proofs.Qwords.{octets, dropped_bytes}
use Rattle.translations.proofs.Parts.{last_whole, off_whole, first_begins, first_fits, last_fits}
use Rattle.demands.proofs.Completions.{brought_replied, brought_to, left_step}
use Rattle.state.specs.State.{with_tag, with_cache, with_enable, with_pages}
use Rattle.state.specs.Answers.{payload_last, payload_more, read_failed, aborted, switched_off, discarded, more, filled, done}
use Rattle.on_invalidate.specs.Invalidate.{invalidated_by}
use Rattle.pages.specs.declared.Pages.{Pages}
use Rattle.card.proofs.Cases.{Arrives, Completes, class_of}

module _ (me : Noted) (f : Function) (o : Proper me f) (bytes out : List ℕ) (ty : is_typed Receive ≡ true) (are : are_bytes bytes ≡ true) where
  abbrev receive_call : Call
  receive_call = record { command = Receive; bytes = bytes; out = out; typed = ty; octets = are }

  abbrev load : List ℕ
  load = payload_in bytes

  plain : (b : Body) (to : ℕ) (a : Arrives f bytes b to) (g : Function) (w : Unrefused) → Proper me g
      → Step 32 (view f) (view g) (record { took = body_taken me load a.packet.head.sender b; sent = None })
      → Does (Good me f receive_call) (sends_nothing g w)
  plain b to a g w k s = good_plain me f receive_call g w k (rw (a.reads, a.is) s)

  -- ---- completions
  module _ (c : Completion) (a : Completes f bytes c) where
    abbrev t : Tag
    t = c.tag

    mine : eqb c.requester me.id ≡ true
    mine = rw o.own at a.ours

    all_bytes : Bytes load
    all_bytes = rw (completion_payload bytes a.packet (octets bytes are) a.reads c a.is) (dropped_bytes 12 bytes (octets bytes are))

    module _ (b : TagState) (holds : tag_state f.tags t ≡ b) (used : (tag_state f.tags t ≡ Free → ⊥)) where
      own : is_tag t ≡ true
      own = tag_state_tag f.tags t used

      -- the cache is unchanged
      same_cache : (n : ℕ) (d : Option Reply) → outcome_taken t.0 c.count load c.outcome ≡ Some (CPL t.0 n d)
          → (enabled : Bool) (after : TagState) (w : Unrefused) → pending_of after ≡ leaves d (pending_of b)
          → (live_of after ≡ true → live_of b ≡ true)
          → ((q : PendingTranslation) → after ≡ Translate q → (q.stu ≡ f.stu) × (q.due ≡ 0 → q.whole ≡ 0))
          → ((i : ITag) → is_in (delayed_by after) i ≡ (is_open (leaves {T = terms} d (pending_of b)) && is_in (delayed_by b) i))
          → Does (Good me f receive_call) (sends_nothing (left f t enabled f.cache after) w)
      same_cache n d given enabled after w opened lived begins notes =
          plain (Cpl c) c.requester a _ w
          (left_ok me f o t own after enabled f.cache o.cache o.reached begins (λ i h. o.noted t i (ap (λ (x : TagState). is_in (delayed_by x) i) holds ∙ (and_both (is_open (leaves {T = terms} d (pending_of b))) _ (sym (notes i) ∙ h)).1)))
          (rw (mine, given) (left_step me f o t own b holds enabled f.cache after n d opened lived notes (λ j x h. inl (j, h))))

      -- the tag is freed
      frees : (n : ℕ) (d : Option Reply) → outcome_taken t.0 c.count load c.outcome ≡ Some (CPL t.0 n d)
          → (enabled : Bool) (w : Unrefused) → leaves {T = terms} d (pending_of b) ≡ None
          → Does (Good me f receive_call) (sends_nothing (left f t enabled f.cache Free) w)
      frees n d given enabled w closed =
          same_cache n d given enabled Free w (sym closed) (λ l. no_tf (sym l)) (λ q h. impossible cc)
          (λ i. in_none i ∙ sym (ap (λ (x : Option _). is_open x && is_in (delayed_by b) i) closed))

    -- for a read
    module _ (r : PendingRead) (holds : tag_state f.tags t ≡ Read r) where
      is_used : tag_state f.tags t ≡ Free → ⊥
      is_used h = let z : Read r ≡ Free = sym holds ∙ h in impossible cc

      pub good_fails : (status : ℕ) → c.outcome ≡ Status status → eqb status 0 ≡ false
          → Does (Good me f receive_call) (sends_nothing (with_tag f t Free) read_failed)
      good_fails status x z = frees (Read r) holds is_used status None (rw (x, z) refl) f.enabled _ refl

      pub good_ends : (dwords : ℕ) → c.outcome ≡ Data dwords → eqb c.count r.due ≡ true
          → eqb (length load) r.due ≡ true
          → Does (Good me f receive_call) (sends_nothing (with_tag f t Free) payload_last)
      good_ends dwords x n z =
          frees (Read r) holds is_used 0 (Some (record { count = c.count; load = load })) (rw x refl) f.enabled _ (rw (n, z))

      pub good_goes_on : (dwords : ℕ) → c.outcome ≡ Data dwords → eqb c.count r.due ≡ true
          → leb (length load) r.due ≡ true → eqb (length load) r.due ≡ false
          → Does (Good me f receive_call) (sends_nothing (with_tag f t (Read (with_due r (r.due - length load)))) payload_more)
      good_goes_on dwords x n l z =
          same_cache (Read r) holds is_used 0 (Some (record { count = c.count; load = load })) (rw x refl) f.enabled (Read (with_due r (r.due - length load))) _
          (rw (n, z)) (λ h. no_tf (sym h)) (λ q h. impossible cc) (λ i. rw (n, z))

    -- for a Translation Request
    module _ (q : PendingTranslation) (holds : tag_state f.tags t ≡ Translate q) where
      asks_used : tag_state f.tags t ≡ Free → ⊥
      asks_used h = let z : Translate q ≡ Free = sym holds ∙ h in impossible cc

      abbrev reply : Reply
      reply = record { count = c.count; load = load }

      abbrev filled_cache : Cache
      filled_cache = applied q load f.cache

      filled_reached : (j : ℕ) (e : Entry) → entry_at filled_cache j ≡ Some e → e.to < 2 ^ 64
      filled_reached j e h =
          ⊎_elim
          (λ s. o.reached j e (sym s ∙ h))
          (⊎_elim
          (λ s. no_some (sym s ∙ h))
          (λ (b : (x : Entry) × (entry_at filled_cache j ≡ Some x) × Brought q load x).
          let same : Some b.0 ≡ Some e = sym b.1 ∙ h in
          let is : b.0 ≡ e = cc in
          rw (← is) (brought_to q load b.0 all_bytes b.2)))
          (applied_entry q load f.cache o.cache j)

      -- with the translations of a live request applied
      fills_cache : outcome_taken t.0 c.count load c.outcome ≡ Some (CPL t.0 0 (Some reply))
          → is_live f q ≡ true → translations_fit q load ≡ true → (after : TagState) (w : Unrefused)
          → pending_of after ≡ leaves (Some reply) (pending_of (Translate q))
          → (live_of after ≡ true → live_of (Translate q) ≡ true)
          → ((q : PendingTranslation) → after ≡ Translate q → (q.stu ≡ f.stu) × (q.due ≡ 0 → q.whole ≡ 0))
          → ((i : ITag) → is_in (delayed_by after) i ≡ false)
          → Does (Good me f receive_call) (sends_nothing (left f t f.enabled filled_cache after) w)
      fills_cache given live fit after w opened lived begins notes =
          plain (Cpl c) c.requester a _ w
          (left_ok me f o t (own (Translate q) holds asks_used) after f.enabled filled_cache (applied_sound q load f.cache o.cache) filled_reached begins (λ i h. absurd (never_both _ h (notes i))))
          (rw (mine, given) (left_step me f o t (own (Translate q) holds asks_used) (Translate q) holds f.enabled filled_cache after 0 (Some reply) opened lived (λ i. notes i ∙ sym (ap (λ (b : Bool). is_open (leaves {T = terms} (Some reply) (pending_of (Translate q))) && b) (in_none i) ∙ and-false (is_open (leaves {T = terms} (Some reply) (pending_of (Translate q)))))) entries))
        where
          entries : (j : ℕ) (y : Cached) → slot_held f.stu (entry_at filled_cache j) ≡ Some y
              → HeldIn (view f) y ⊎ (fills (view f) (Some (CPL t.0 0 (Some reply))) y ≡ true)
          entries j y h =
              let held = held_entry f.stu (entry_at filled_cache j) y h in
              ⊎_elim
              (λ s. let old : entry_at f.cache j ≡ Some y.entry = sym s ∙ held.0 in inl (j, held_again f.stu (entry_at f.cache j) (entry_at filled_cache j) y h old))
              (⊎_elim
              (λ s. no_some (sym s ∙ held.0))
              (λ (b : (x : Entry) × (entry_at filled_cache j ≡ Some x) × Brought q load x).
              let same : Some b.0 ≡ Some y.entry = sym b.1 ∙ held.0 in
              let is : b.0 ≡ y.entry = cc in
              inr (rw (holds, (and_both f.enabled _ live).1, ← held_used f.stu (entry_at filled_cache j) y h, ← held.1, ← is) (ap (λ (s : ℕ). is_replied (asked_by q) (q.whole - q.due) reply (record { used = true; stu = s; entry = b.0 })) (sym (o.begun t q holds).0) ∙ brought_replied q load fit b.0 b.2 c.count))))
              (applied_entry q load f.cache o.cache j)

      -- no data
      pub good_aborts : (status : ℕ) → c.outcome ≡ Status status → eqb status 0 ≡ false
          → Does (Good me f receive_call) (sends_nothing (with_tag f t Free) aborted)
      good_aborts status x z = frees (Translate q) holds asks_used status None (rw (x, z) refl) f.enabled _ refl

      pub good_switches : (status : ℕ) → c.outcome ≡ Status status → eqb status 0 ≡ false
          → Does (Good me f receive_call) (sends_nothing (with_enable (with_tag f t Free) false) switched_off)
      good_switches status x z = frees (Translate q) holds asks_used status None (rw (x, z) refl) false _ refl

      -- after the first of two packets the rest is due; after the last, or the only one, nothing is
      module _ (dwords : ℕ) (x : c.outcome ≡ Data dwords) where
        given : outcome_taken t.0 c.count load c.outcome ≡ Some (CPL t.0 0 (Some reply))
        given = rw x refl

        pub good_off : class_of f bytes c q ≡ OffBoundary
            → Does (Good me f receive_call) (sends_nothing (with_tag f t Free) discarded)
        good_off j = frees (Translate q) holds asks_used 0 (Some reply) given f.enabled _ (rw (eq-eqb c.count (length load) (off_whole q f.rcb c.count c.lower load j)))

        module _ (j : class_of f bytes c q ≡ Last) where
          whole : eqb c.count (length load) ≡ true
          whole = eq-eqb c.count (length load) (last_whole q f.rcb c.count c.lower load j)

          pub good_last : is_live f q ≡ true
              → Does (Good me f receive_call) (sends_nothing (with_tag (with_cache f filled_cache) t Free) filled)
          good_last live = fills_cache given live (last_fits q f.rcb c.count c.lower load j) Free _ (rw whole) (λ l. no_tf (sym l)) (λ p h. impossible cc) in_none

          pub good_last_dead : Does (Good me f receive_call) (sends_nothing (with_tag f t Free) discarded)
          good_last_dead = frees (Translate q) holds asks_used 0 (Some reply) given f.enabled _ (rw whole)

        module _ (j : class_of f bytes c q ≡ First) where
          abbrev rest : PendingTranslation
          rest = after_first q c.count load

          half : eqb c.count (length load) ≡ false
          half = ne_eqb c.count (length load) (first_begins q f.rcb c.count c.lower load j).1.1

          so_far : c.count - (c.count - length load) ≡ q.whole - q.due + length load
          so_far =
              let b = first_begins q f.rcb c.count c.lower load j in
              let none_before : q.whole ≡ 0 = (o.begun t q holds).1 b.0 in
              omega (arith, b.1.0, none_before)

          same_range : translation_range rest ≡ translation_range q
          same_range = translation_range_units rest ∙ sym (translation_range_units q)

          begins : (p : PendingTranslation) → Translate rest ≡ Translate p
              → (p.stu ≡ f.stu) × (p.due ≡ 0 → p.whole ≡ 0)
          begins p h =
              let b = first_begins q f.rcb c.count c.lower load j in (
                let unit : q.stu ≡ p.stu = cc in sym unit ∙ (o.begun t q holds).0,
                λ d. let same : c.count - length load ≡ p.due = cc in absurd (b.1.1 (omega (arith, b.1.0, same, d))),
              )

          pub good_first : is_live f q ≡ true
              → Does (Good me f receive_call) (sends_nothing (with_tag (with_cache f filled_cache) t (Translate rest)) more)
          good_first live = fills_cache given live (first_fits q f.rcb c.count c.lower load j) (Translate rest) _ (rw (half, so_far, same_range)) (λ l. l) begins in_none

          pub good_first_dead : Does (Good me f receive_call) (sends_nothing (with_tag f t (Translate rest)) discarded)
          good_first_dead = same_cache (Translate q) holds asks_used 0 (Some reply) given f.enabled (Translate rest) _ (rw (half, so_far, same_range)) (λ l. l) begins (λ i. rw (half, in_none i))

  -- ---- Invalidate Requests
  pub good_invalidate : (i : InvalidateRequest) (a : Arrives f bytes (Inv i) i.device)
      → is_other_agent f.agent a.packet.head.sender ≡ false → is_in f.waiting i.itag ≡ false
      → Does (Good me f receive_call) (sends_nothing (invalidated_by f a.packet.head.sender i) done)
  unfolding invalidated_range
  good_invalidate i a ours idle =
      let from = a.packet.head.sender in
      let short = (read_typed bytes a.packet (octets bytes are) a.reads).sender in
      plain (Inv i) i.device a _ _ (gone_ok me f o from i short ours idle) (rw (rw o.own at a.ours, ← o.unit) (gone_step me f o from i short ours idle))

  -- ---- PRG Responses
  pub good_response : (s : PrgResponse) (a : Arrives f bytes (Prs s) s.device) (pages : Pages)
      → Does (Good me f receive_call) (sends_nothing (with_pages f pages) done)
  good_response s a pages = plain (Prs s) s.device a _ _ (same_ok me f o f.enabled pages) (quiet (view f))
