-- What a received completion changes.
use Rattle.std.specs.Prelude.{Err, None, Ok, Result}
use mathlib.Core.Path.{◌≡◌, refl, sym, ◌∙◌}
use mathlib.Core.Bool.{true, false}
use mathlib.Core.List.{List}
use mathlib.Core.Logic.{◌⊎◌, inl, ⊎_elim, ◌↔◌}
use Prim.Native.Nat.{ℕ}
use lib.Dec.{eqb}
use Rattle.lemmas.proofs.Cases.{never_both, impossible}
use Rattle.packet.specs.declared.Completion.{Completion}
use Rattle.packet.specs.declared.ITag.{ITag}
use Rattle.packet.proofs.Laws.{ok_injective}
use Rattle.packet.specs.Reading.{payload_in}
use Rattle.atc.specs.Cache.{found}
use Rattle.tags.specs.declared.PendingTranslation.{PendingTranslation}
use Rattle.tags.specs.declared.PendingRead.{PendingRead}
use Rattle.tags.specs.declared.TagState.TheVariants.{Free, Translate, Read}
use Rattle.tags.specs.Itags.{is_in}
use Rattle.tags.specs.Tags.{tag_state, translation_range}
use Rattle.tags.proofs.Laws.{Delaying}
use Rattle.translations.proofs.Laws.{Inside, applied_outside}
use Rattle.state.specs.declared.Function.{Function}
use Rattle.state.specs.State.{with_tag}
use Rattle.state.specs.Answers.{Unrefused, payload_more, Success, commit}
use Rattle.state.proofs.Laws.{Does, does_case, does_refusal, commit_in}
use Rattle.call_send.specs.Drain.{ready_of}
use Rattle.call_send.proofs.Laws.{freed_ready}
use Rattle.on_completion.specs.Translations.{is_live}
use Rattle.on_completion.specs.Completions.{completed}
use Rattle.on_completion.proofs.Laws.{Ended, completed_keeps, completed_read}
use Rattle.call_receive.specs.Receive.{taken, received}
use Rattle.card.specs.declared.Command.TheVariants.{Receive}
use Rattle.card.specs.Call.{calling, step}
use Rattle.card.proofs.Tables.{Completing}
use Rattle.card.specs.Sound.{Sound}

module _ (f : Function) (bytes out : List ℕ) (c : Completion) (comes : Completing Receive bytes c) where
  abbrev state_after : Function
  state_after = (step f Receive bytes out).state

  does_received : (Q : Success → Type 0) → Does Q (completed f c (payload_in bytes))
      → Does Q (calling f Receive bytes out)
  unfolding calling received taken
  does_received Q k = rw (comes.reads, comes.body) (does_case Q (eqb c.requester f.id) (completed f c (payload_in bytes)) (Err 5) (λ e. k) (λ e. does_refusal Q 5))

  -- with E clear, for a stale request, and for a read, it changes neither a slot nor the hand
  pub completion_spares : ((q : PendingTranslation) → tag_state f.tags c.tag ≡ Translate q → is_live f q ≡ false)
      → state_after.cache ≡ f.cache
  completion_spares dead =
      commit_in (λ g. g.cache ≡ f.cache) f out (calling f Receive bytes out) refl
      (does_received _ (completed_keeps f c (payload_in bytes) (λ k l p. k ≡ f.cache) (λ o. refl) (λ q o e live. absurd (never_both _ live (dead q e)))))

  -- a unit outside the range of its request gets no new entry: it keeps its own or loses it
  pub completion_outside : Sound f → (unit : ℕ)
      → ((q : PendingTranslation) → tag_state f.tags c.tag ≡ Translate q → Inside (translation_range q) unit → ⊥)
      → (found state_after.cache unit ≡ found f.cache unit) ⊎ (found state_after.cache unit ≡ None)
  completion_outside h unit outside =
      commit_in (λ g. (found g.cache unit ≡ found f.cache unit) ⊎ (found g.cache unit ≡ None)) f out (calling f Receive bytes out) (inl refl)
      (does_received _ (completed_keeps f c (payload_in bytes) (λ k l p. (found k unit ≡ found f.cache unit) ⊎ (found k unit ≡ None)) (λ o. inl refl)
      (λ q o e live. applied_outside q (payload_in bytes) f.cache h.cache unit (outside q e))))

  -- an unrefused completion that ends a read
  module _ (r : PendingRead) (held : tag_state f.tags c.tag ≡ Read r) (w : Unrefused) (says : (step f Receive bytes out).answer ≡ Ok w) (ends : w ≡ payload_more → ⊥) where
    -- frees the read's tag and changes nothing else,
    pub read_ended : state_after ≡ with_tag f c.tag Free
    read_ended = go (calling f Receive bytes out) (does_received _ (completed_read f c (payload_in bytes) r held)) says
      where
        go : (s : Result Success ℕ) → Does (Ended f c (payload_in bytes) r) s → (commit f out s).answer ≡ Ok w
            → (commit f out s).state ≡ with_tag f c.tag Free
        go (Ok d) k q = ⊎_elim (λ a. a) (λ a. absurd (ends (sym (ok_injective q) ∙ a.0))) (k.success d refl)
        go (Err n) k q = impossible cc

    -- so that afterwards an ITag is ready if and only if it waits and no other read delays it
    pub ended_ready : Sound f → (i : ITag)
        → (is_in (ready_of state_after) i ≡ true)
        ↔ ((is_in f.waiting i ≡ true) × ((h : Delaying f.tags i) → h.tag.0 ≡ c.tag.0))
    ended_ready sound i = rw read_ended (freed_ready f i c.tag sound.tags)
