-- The invariant that every call preserves, and what can enter the cache.
use Rattle.std.specs.Prelude.{None, Option, Some}
use mathlib.Core.Path.{◌≡◌, refl, sym, ap, ◌∙◌}
use mathlib.Core.Bool.{true}
use mathlib.Core.List.{List}
use mathlib.Core.Logic.{◌⊎◌, inl, inr, ⊎_elim}
use Prim.Native.Nat.{ℕ, ◌≤◌}
use native.Mathlib.Omega.{arith}
use lib.Dec.{leb, lit≤}
use lib.ListN.{length}
use borrow.Author.Tests.{leb-true}
use Rattle.lemmas.proofs.Cases.{by_cases, and_both}
use Rattle.lemmas.proofs.Bools.{no_some}
use Rattle.packet.specs.declared.Completion.{Completion}
use Rattle.packet.specs.Reading.{payload_in}
use Rattle.ranges.specs.declared.Range.{Range}
use Rattle.atc.specs.declared.Entry.{Entry}
use Rattle.atc.specs.declared.Cache.{Cache}
use Rattle.atc.specs.Cache.{found, entry_at, entry_overlaps, entry_dropped, SoundCache}
use Rattle.atc.proofs.Laws.{laws}
use Rattle.tags.specs.declared.TagState.TheVariants.{Translate}
use Rattle.tags.specs.declared.PendingTranslation.{PendingTranslation}
use Rattle.tags.specs.Tags.{tag_state}
use Rattle.tags.proofs.Laws.{set_tag_long, invalidated_long, all_stale_long}
use Rattle.pages.specs.declared.Group.{Group}
use Rattle.pages.specs.declared.Pages.{Pages}
use Rattle.pages.specs.Pages.{closed_all, switched_off, switched_on, stopped}
use Rattle.pages.proofs.Laws.{none_used_credits, none_long, close_long, close_le, added_long, added_fits}
use Rattle.translations.specs.declared.Rcb.{Rcb}
use Rattle.translations.proofs.Laws.{Brought, applied_sound, applied_entry}
use Rattle.state.specs.declared.Function.{Function}
use Rattle.state.specs.State.{rcb_of, fresh}
use Rattle.on_completion.specs.Translations.{is_live}
use Rattle.card.specs.declared.Command.{Command}
use Rattle.card.specs.Call.{step}
use Rattle.card.specs.Sound.{SoundPages, SoundTables, Sound}
use Rattle.card.proofs.Tables.{Completing, Stable, step_keeps}

closed_sound : (p : Pages) → p.groups ≡ closed_all → p.allocation ≤ 512 → SoundPages p
closed_sound p none few =
    record { groups = rw none none_long; granted = few; within = rw (none, none_used_credits) (omega arith) }

-- a new Function, and one after a reset, is sound,
pub fresh_sound : (id stu : ℕ) (rcb : Rcb) → Sound (fresh id stu rcb)
fresh_sound id stu rcb =
    record { cache = laws.new_sound; tags = refl; pages = closed_sound switched_off refl (lit≤ tt) }

-- and every call preserves this
pub sound_invariant : (f : Function) (c : Command) (bytes out : List ℕ) → Sound f → Sound (step f c bytes out).state
sound_invariant f c bytes out h = step_keeps f c bytes SoundTables kept out
  where
    groups : List Group
    groups = f.pages.groups

    all : length f.pages.groups ≡ 32
    all = h.pages.groups

    kept : Stable f c bytes SoundTables
    kept =
        record {
          same = h;
          reset = fresh_sound 0 0 (rcb_of 64);
          enable = record { cache = laws.empty_sound f.cache; tags = all_stale_long f.tags ∙ h.tags; pages = h.pages };
          tag = λ t o. record { cache = h.cache; tags = set_tag_long f.tags t o ∙ h.tags; pages = h.pages };
          fill = λ x q o r e live. record { cache = applied_sound q (payload_in bytes) f.cache h.cache; tags = set_tag_long f.tags x.tag o ∙ h.tags; pages = h.pages };
          invalidate = λ range i. record { cache = laws.range_sound f.stu range f.cache h.cache; tags = invalidated_long f.tags range i ∙ h.tags; pages = h.pages };
          switch_on = λ allocation g. record { cache = h.cache; tags = h.tags; pages = closed_sound (switched_on allocation) refl (leb-true allocation 512 (and_both (leb 1 allocation) (leb allocation 512) g).1) };
          switch_off = record { cache = h.cache; tags = h.tags; pages = closed_sound switched_off refl (lit≤ tt) };
          stop = record { cache = h.cache; tags = h.tags; pages = closed_sound stopped refl (lit≤ tt) };
          request = λ q some. record { cache = h.cache; tags = h.tags; pages = record { groups = added_long groups all q.index q.last; granted = h.pages.granted; within = added_fits groups all q.index q.last f.pages.allocation (omega (arith, h.pages.granted)) some } };
          answer = λ k. record { cache = h.cache; tags = h.tags; pages = record { groups = close_long groups all k; granted = h.pages.granted; within = omega (arith, close_le groups all k, h.pages.within) } };
        }

-- ---- what enters the cache

-- an entry that a received completion brings, while its tag has an outstanding Translation Request
-- that is not stale, and E is set
pub record Came (f : Function) (c : Command) (bytes : List ℕ) (e : Entry) : Type 0 where
  pub completion : Completion
  pub comes : Completing c bytes completion
  pub request : PendingTranslation
  pub held : tag_state f.tags completion.tag ≡ Translate request
  pub live : is_live f request ≡ true
  pub brought : Brought request (payload_in bytes) e

module _ (f : Function) (c : Command) (bytes out : List ℕ) where
  abbrev slots_after : Cache
  slots_after = (step f c bytes out).state.cache

  -- after a call each slot is unchanged, or free, or holds such an entry
  pub slot_after : SoundCache f.cache → (i : ℕ)
      → (entry_at slots_after i ≡ entry_at f.cache i)
      ⊎ ((entry_at slots_after i ≡ None) ⊎ ((x : Entry) × (entry_at slots_after i ≡ Some x) × Came f c bytes x))
  slot_after sound i = step_keeps f c bytes (λ d l p. From (entry_at d i)) kept out
    where
      From : Option Entry → Type 0
      From slot = (slot ≡ entry_at f.cache i) ⊎ ((slot ≡ None) ⊎ ((x : Entry) × (slot ≡ Some x) × Came f c bytes x))

      kept : Stable f c bytes (λ d l p. From (entry_at d i))
      kept =
          record {
            same = inl refl;
            reset = inr (inl (laws.new_entry i));
            enable = inr (inl (laws.empty_entry f.cache i));
            tag = λ t o. inl refl;
            fill = λ x q o r e live. ⊎_elim inl (λ s. inr (⊎_elim inl (λ b. inr (b.0, b.1, record { completion = x; comes = r; request = q; held = e; live = live; brought = b.2 })) s)) (applied_entry q (payload_in bytes) f.cache sound i);
            invalidate = λ range itag. rw (laws.range_entry f.stu range f.cache sound i) (left range (entry_at f.cache i) refl);
            switch_on = λ allocation g. inl refl;
            switch_off = inl refl;
            stop = inl refl;
            request = λ q g. inl refl;
            answer = λ k. inl refl;
          }
        where
          left : (range : Range) (slot : Option Entry) → slot ≡ entry_at f.cache i → From (entry_dropped f.stu range slot)
          left range None e = inl e
          left range (Some x) e = by_cases (entry_overlaps f.stu range x) (λ u. rw u (inr (inl refl))) (λ u. rw u (inl e))

  -- so that each unit has its old entry, or none, or such an entry
  pub entry_after : Sound f → (unit : ℕ)
      → (found slots_after unit ≡ found f.cache unit)
      ⊎ ((found slots_after unit ≡ None) ⊎ ((x : Entry) × ((found slots_after unit ≡ Some x) × Came f c bytes x)))
  entry_after h unit = go (found slots_after unit) refl
    where
      go : (r : Option Entry) → found slots_after unit ≡ r
          → (found slots_after unit ≡ found f.cache unit)
          ⊎ ((found slots_after unit ≡ None) ⊎ ((x : Entry) × ((found slots_after unit ≡ Some x) × Came f c bytes x)))
      go None e = inr (inl e)
      go (Some x) e =
          let s = laws.found_is slots_after (sound_invariant f c bytes out h).cache unit x e in
          let i = s.1.0 in
          let there : entry_at slots_after i ≡ Some x = s.1.1 in
          ⊎_elim
          (λ a. let was : found f.cache x.unit ≡ Some x = laws.found_only f.cache h.cache i x (sym a ∙ there) in
          inl (e ∙ sym (ap (found f.cache) (sym s.0) ∙ was)))
          (⊎_elim
          (λ a. no_some (sym a ∙ there))
          (λ a. let same : Some a.0 ≡ Some x = sym a.1 ∙ there in
          let is : a.0 ≡ x = cc in
          inr (inr (x, (e, rw (← is) a.2)))))
          (slot_after h.cache i)
