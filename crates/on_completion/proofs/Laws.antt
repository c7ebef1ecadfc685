-- What a completion does to the cache and to its tag.
use mathlib.Core.Path.{◌≡◌, refl}
use mathlib.Core.Bool.{true}
use mathlib.Core.List.{List, []}
use mathlib.Core.Logic.{◌⊎◌, inl, inr}
use Prim.Native.Nat.{ℕ, ◌-◌}
use lib.ListN.{length}
use Rattle.packet.specs.declared.Completion.{Completion}
use Rattle.packet.specs.declared.Outcome.{Outcome}
use Rattle.packet.specs.declared.Outcome.TheVariants.{Data, Status}
use Rattle.atc.specs.declared.Cache.{Cache}
use Rattle.tags.specs.declared.PendingTranslation.{PendingTranslation}
use Rattle.tags.specs.declared.PendingRead.{PendingRead}
use Rattle.tags.specs.declared.TagState.{TagState}
use Rattle.tags.specs.declared.TagState.TheVariants.{Free, Translate, Read}
use Rattle.tags.specs.Tags.{tag_state, set_tag}
use Rattle.pages.specs.declared.Pages.{Pages}
use Rattle.translations.specs.declared.Part.{Part}
use Rattle.translations.specs.declared.Part.TheVariants.{Misfit, OffBoundary, First, Last}
use Rattle.translations.specs.Fits.{classified}
use Rattle.translations.specs.Fills.{applied}
use Rattle.state.specs.declared.Function.{Function}
use Rattle.state.specs.State.{with_tag}
use Rattle.state.specs.Answers.{Unrefused, Success, payload_more}
use Rattle.state.proofs.Laws.{Does, does}
use Rattle.on_completion.specs.Reads.{with_due, on_read_data, on_read_status}
use Rattle.on_completion.specs.Translations.{is_live, on_translation_status, applied_if_live, on_translation_part, on_translation_data}
use Rattle.on_completion.specs.Completions.{completed_for, completed}

module _ (f : Function) (c : Completion) (load : List ℕ) where
  -- a property of the tables that holds for any new state of the tag, also with the translations of a live request
  -- applied, holds after a completion
  pub completed_keeps : (P : Cache → List TagState → Pages → Type 0)
      → ((o : TagState) → P f.cache (set_tag f.tags c.tag o) f.pages)
      → ((q : PendingTranslation) (o : TagState) → tag_state f.tags c.tag ≡ Translate q → is_live f q ≡ true → P (applied q load f.cache) (set_tag f.tags c.tag o) f.pages)
      → Does (λ d. P d.state.cache d.state.tags d.state.pages) (completed f c load)
  unfolding completed on_translation_data applied_if_live on_translation_status on_read_data on_read_status
  completed_keeps P place fill = go c.outcome (tag_state f.tags c.tag) refl
    where
      go : (outcome : Outcome) (o : TagState) → tag_state f.tags c.tag ≡ o
          → Does (λ d. P d.state.cache d.state.tags d.state.pages) (completed_for f c load outcome o)
      go outcome Free e = search does
      go (Data dwords) (Translate q) e = part (classified q f.rcb c.count c.lower load)
        where
          part : (p : Part)
              → Does (λ d. P d.state.cache d.state.tags d.state.pages) (on_translation_part f c.tag q c.count load p)
          part Misfit = search does
          part OffBoundary = search (does, place)
          part First = search (does, place, fill)
          part Last = search (does, place, fill)
      go (Status status) (Translate q) e = search (does, place)
      go (Data dwords) (Read r) e = search (does, place)
      go (Status status) (Read r) e = search (does, place)

  -- the tag of a read is freed, or the answer is "payload, more" and the read stays outstanding for the bytes still due
  abbrev pub Ended : PendingRead → Success → Type 0
  Ended r d = (d.state ≡ with_tag f c.tag Free) ⊎ ((d.answer ≡ payload_more) × (d.state ≡ with_tag f c.tag (Read (with_due r (r.due - length load)))))

  pub completed_read : (r : PendingRead) → tag_state f.tags c.tag ≡ Read r → Does (Ended r) (completed f c load)
  unfolding completed on_read_data on_read_status
  completed_read r e = rw e (go c.outcome)
    where
      freed : (w : Unrefused) → Ended r (record { state = with_tag f c.tag Free; answer = w; sent = 0; bytes = [] })
      freed w = inl refl

      goes_on : Ended r (record { state = with_tag f c.tag (Read (with_due r (r.due - length load))); answer = payload_more; sent = 0; bytes = [] })
      goes_on = inr (refl, refl)

      go : (outcome : Outcome) → Does (Ended r) (completed_for f c load outcome (Read r))
      go (Data dwords) = search (does, freed, goes_on)
      go (Status status) = search (does, freed)
