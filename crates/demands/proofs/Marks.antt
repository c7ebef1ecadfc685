-- How stale marks, delays and new requests change a tag.
use Rattle.std.specs.Prelude.{Some}
use mathlib.Core.Path.{◌≡◌, refl, sym, ap, ◌∙◌}
use mathlib.Core.Bool.{Bool, true, false, ◌&&◌, ◌||◌, and-false}
use Prim.Native.Nat.{ℕ, ◌-◌}
use lib.Dec.{eqb}
use borrow.Author.Tests.{eqb-true}
use Rattle.lemmas.proofs.Cases.{by_cases, and_both, never_both, is_false}
use Rattle.ranges.specs.declared.Range.{Range}
use Rattle.ranges.specs.Range.{overlaps, unit_exponent, region_of, is_within}
use Rattle.ranges.proofs.Units.{within_overlaps}
use Rattle.packet.specs.declared.ITag.{ITag}
use Rattle.tags.specs.declared.TagState.{TagState}
use Rattle.tags.specs.declared.TagState.TheVariants.{Free, Translate, Read}
use Rattle.tags.specs.declared.PendingTranslation.{PendingTranslation}
use Rattle.tags.specs.Itags.{bit_index, is_in}
use Rattle.tags.proofs.Laws.{in_with_itag, in_none, translation_range_units, overlaps_translation, overlaps_read}
use Rattle.tags.specs.Tags.{translation_range, delayed_by, pending_overlaps, stale_translation, invalidated_state, stale_state, invalidated_if}
use Rattle.lemmas.proofs.Bools.{no_tf}
use Rattle.demand3.specs.History.{translation, is_open, read_in}
use Rattle.demand3.proofs.Laws.{Apart}
use Rattle.demands.specs.Observed.{Cached, Reply, terms, is_replied}
use Rattle.demands.proofs.Views.{asked_by, pending_of, live_of}

-- ---- setting E: every Translation Request becomes stale

-- a stale request is for the same units
stale_translation_lem : (q : PendingTranslation) → pending_of (Translate (stale_translation q)) ≡ pending_of (Translate q)
stale_translation_lem q = ap (λ (r : Range). Some (translation (record { stu = q.stu; range = r }) (q.whole - q.due))) (translation_range_units (stale_translation q) ∙ sym (translation_range_units q))

pub stale_pending : (o : TagState) → pending_of (stale_state o) ≡ pending_of o
stale_pending Free = refl
stale_pending (Translate q) = stale_translation_lem q
stale_pending (Read r) = refl

pub stale_live : (o : TagState) → live_of (stale_state o) ≡ true → live_of o ≡ true
stale_live Free e = e
stale_live (Translate q) e = no_tf (sym e)
stale_live (Read r) e = e

pub stale_delayed : (o : TagState) → delayed_by (stale_state o) ≡ delayed_by o
stale_delayed Free = refl
stale_delayed (Translate q) = refl
stale_delayed (Read r) = refl

-- ---- an Invalidate Request

module _ (range : Range) (i : ITag) where
  pub invalidate_pending : (o : TagState) → pending_of (invalidated_if range i o) ≡ pending_of o
  invalidate_pending o = by_cases (pending_overlaps range o) (λ u. rw u (mark o)) (λ u. rw u)
    where
      mark : (o : TagState) → pending_of (invalidated_state i o) ≡ pending_of o
      mark Free = refl
      mark (Translate q) = stale_translation_lem q
      mark (Read r) = refl

  pub invalidate_live : (o : TagState) → live_of (invalidated_if range i o) ≡ true
      → (live_of o ≡ true) × (pending_overlaps range o ≡ false)
  invalidate_live o e = by_cases (pending_overlaps range o) (λ u. no_tf (sym (rw u at e) ∙ dead o)) (λ u. (rw u at e, u))
    where
      dead : (o : TagState) → live_of (invalidated_state i o) ≡ false
      dead Free = refl
      dead (Translate q) = refl
      dead (Read r) = refl

  -- an overlapping read delays the ITag; for another read, or another ITag, nothing changes
  pub invalidate_delayed : (o : TagState) (k : ITag)
      → is_in (delayed_by (invalidated_if range i o)) k
      ≡ (is_in (delayed_by o) k || (eqb (bit_index i) (bit_index k) && is_open (read_in {T = terms} range (pending_of o))))
  invalidate_delayed Free k = by_cases (pending_overlaps range Free) (λ u. rw (u, in_none k) (sym (and-false (eqb (bit_index i) (bit_index k))))) (λ u. rw (u, in_none k) (sym (and-false (eqb (bit_index i) (bit_index k)))))
  invalidate_delayed (Translate q) k = by_cases (pending_overlaps range (Translate q)) (λ u. rw (u, in_none k) (sym (and-false (eqb (bit_index i) (bit_index k))))) (λ u. rw (u, in_none k) (sym (and-false (eqb (bit_index i) (bit_index k)))))
  invalidate_delayed (Read r) k = rw (← overlaps_read range r) (by_cases (pending_overlaps range (Read r)) (λ u. rw u (in_with_itag r.itags i k ∙ yes (eqb (bit_index i) (bit_index k)) (is_in r.itags k))) (λ u. rw u (not_met (eqb (bit_index i) (bit_index k)) (is_in r.itags k))))
    where
      yes : (b x : Bool) → (x || b) ≡ (x || (b && true))
      yes true x = refl
      yes false x = refl

      not_met : (b x : Bool) → x ≡ (x || (b && false))
      not_met true true = refl
      not_met true false = refl
      not_met false true = refl
      not_met false false = refl

  -- what a Translation Request that stays live can grant is outside the range
  pub invalidate_apart : (o : TagState) → live_of (invalidated_if range i o) ≡ true
      → Apart range (pending_of (invalidated_if range i o))
  invalidate_apart o e = rw (invalidate_pending o) (go o (invalidate_live o e).1)
    where
      go : (o : TagState) → pending_overlaps range o ≡ false → Apart range (pending_of o)
      go Free u = tt
      go (Read r) u = tt
      go (Translate q) u = λ k d x g. is_false _ (λ m. outside k d x g m)
        where
          outside : (k : ℕ) (d : Reply) (x : Cached) → is_replied (asked_by q) k d x ≡ true
              → terms.entry_in range x ≡ true → ⊥
          outside k d x g m =
              let a = and_both (eqb x.stu q.stu) _ (and_both x.used _ g).1 in
              let s : x.stu ≡ q.stu = eqb-true x.stu q.stu a.0 in
              let in_range : is_within (region_of x.entry.unit (unit_exponent q.stu)) (translation_range q) ≡ true = (and_both _ _ a.1).0 in
              let over : overlaps (region_of x.entry.unit (unit_exponent x.stu)) range ≡ true = (and_both x.used _ m).1 in
              never_both _ (within_overlaps (region_of x.entry.unit (unit_exponent q.stu)) (translation_range q) range in_range (rw s at over)) (sym (overlaps_translation range q) ∙ u)
