-- What is known of a completion that is the first of two, the last, or the only one off the boundary.
use Rattle.std.specs.Prelude.{None, Option, Some}
use mathlib.Core.Path.{◌≡◌, refl, sym, ◌∙◌}
use mathlib.Core.Bool.{Bool, true, false, cond}
use mathlib.Core.List.{List}
use Prim.Native.Nat.{ℕ, ◌+◌, ◌-◌, ◌*◌, ◌/◌, ◌%◌, ◌<◌, ◌≤◌}
use lib.Dec.{eqb, leb}
use lib.ListN.{length}
use borrow.Author.Tests.{eqb-true, eqb-false, leb-true}
use Rattle.lemmas.proofs.Cases.{by_cases, and_both, never_both, impossible}
use Rattle.lemmas.proofs.All.{all_stop}
use Rattle.ranges.specs.Range.{unit_exponent, unit_count}
use Rattle.tlp.specs.Translations.{translation_at}
use Rattle.tags.specs.declared.PendingTranslation.{PendingTranslation}
use Rattle.tags.specs.Tags.{translation_range}
use Rattle.translations.specs.declared.Rcb.{Rcb}
use Rattle.translations.specs.declared.Part.{Part}
use Rattle.translations.specs.declared.Part.TheVariants.{Misfit, OffBoundary, First, Last}
use Rattle.translations.specs.Fits.{check_fit, on_boundary, first_part, second_part, part_of, common_size, exponent_or0, size_is, translation_fits, received_count, all_fit, size_fits, translations_fit, classified_by, classified}
use Rattle.lemmas.proofs.Bools.{no_tf}

-- what fits has passed its test
fitted : (t : Bool) (next x : Part) → (Misfit ≡ x → ⊥) → check_fit t next ≡ x → (t ≡ true) × (next ≡ x)
fitted true next x h e = (refl, e)
fitted false next x h e = absurd (h e)

misfit_first : Misfit ≡ First → ⊥
misfit_first e = impossible cc

misfit_last : Misfit ≡ Last → ⊥
misfit_last e = impossible cc

misfit_off : Misfit ≡ OffBoundary → ⊥
misfit_off e = impossible cc

module _ (rcb : Rcb) (most count lower bytes : ℕ) where
  -- Byte Count decides whether a packet is the only one
  first_part_lem : (x : Part) → (Misfit ≡ x → ⊥) → first_part rcb most count lower bytes ≡ x
      → (leb bytes count ≡ true) × (cond (eqb count bytes) (cond (on_boundary rcb (count + lower)) Last OffBoundary) (check_fit (on_boundary rcb (bytes + lower)) First) ≡ x)
  unfolding first_part
  first_part_lem x h e =
      let a = fitted (eqb (count % 8) 0) _ x h e in
      let b = fitted (leb bytes count) _ x h a.1 in
      let c = fitted (leb count most) _ x h b.1 in
      (b.0, c.1)

  only : (x : Part) → (Misfit ≡ x → ⊥) → (First ≡ x → ⊥) → first_part rcb most count lower bytes ≡ x → count ≡ bytes
  only x h g e = by_cases (eqb count bytes) (λ u. eqb-true count bytes u) (λ u. absurd (g (fitted (on_boundary rcb (bytes + lower)) First x h (rw u at (first_part_lem x h e).1)).1))

  of_two : first_part rcb most count lower bytes ≡ First → (bytes ≤ count) × (count ≡ bytes → ⊥)
  of_two e =
      let f = first_part_lem First misfit_first e in
      (leb-true bytes count f.0, by_cases (eqb count bytes) (λ u. absurd (whole (on_boundary rcb (count + lower)) (rw u at f.1))) (λ u. eqb-false count bytes u))
    where
      whole : (b : Bool) → cond b Last OffBoundary ≡ First → ⊥
      whole true q = impossible cc
      whole false q = impossible cc

second_part_lem : (due count lower bytes : ℕ) (x : Part) → (Misfit ≡ x → ⊥) → second_part due count lower bytes ≡ x
    → (Last ≡ x) × (count ≡ bytes)
unfolding second_part
second_part_lem due count lower bytes x h e =
    let a = fitted (eqb count due) _ x h e in
    let b = fitted (eqb bytes due) _ x h a.1 in
    let c = fitted (eqb lower 0) Last x h b.1 in
    (c.1, eqb-true count due a.0 ∙ sym (eqb-true bytes due b.0))

module _ (q : PendingTranslation) (rcb : Rcb) (count lower bytes : ℕ) where
  part_of_lem : (x : Part) → (Misfit ≡ x → ⊥) → part_of q rcb count lower bytes ≡ x
      → cond (eqb q.due 0) (first_part rcb (8 * unit_count q.further) count lower bytes) (second_part q.due count lower bytes) ≡ x
  unfolding part_of
  part_of_lem x h e = (fitted (eqb (bytes % 8) 0) _ x h e).1

  -- a last packet, and an only one, has as many bytes as its Byte Count
  part_ends : (x : Part) → (Misfit ≡ x → ⊥) → (First ≡ x → ⊥) → part_of q rcb count lower bytes ≡ x → count ≡ bytes
  part_ends x h g e =
      let p = part_of_lem x h e in
      by_cases (eqb q.due 0) (λ u. only rcb _ count lower bytes x h g (rw u at p)) (λ u. (second_part_lem q.due count lower bytes x h (rw u at p)).1)

  -- the first of two packets has fewer, and nothing came before it
  part_begins : part_of q rcb count lower bytes ≡ First → (q.due ≡ 0) × ((bytes ≤ count) × (count ≡ bytes → ⊥))
  part_begins e =
      let p = part_of_lem First misfit_first e in
      by_cases (eqb q.due 0)
      (λ u. (eqb-true q.due 0 u, of_two rcb _ count lower bytes (rw u at p)))
      (λ u. let r = (second_part_lem q.due count lower bytes First misfit_first (rw u at p)).0 in impossible cc)

classified_by_lem : (fit : Bool) (p x : Part) → (Misfit ≡ x → ⊥) → (OffBoundary ≡ x → ⊥) → classified_by fit p ≡ x
    → (fit ≡ true) × (p ≡ x)
classified_by_lem fit Misfit x h g e = absurd (h e)
classified_by_lem fit OffBoundary x h g e = absurd (g e)
classified_by_lem fit First x h g e = fitted fit First x h e
classified_by_lem fit Last x h g e = fitted fit Last x h e

first_off : First ≡ OffBoundary → ⊥
first_off e = impossible cc

classified_off : (fit : Bool) (p : Part) → classified_by fit p ≡ OffBoundary → p ≡ OffBoundary
classified_off fit Misfit e = e
classified_off fit OffBoundary e = refl
classified_off fit First e = absurd (first_off (fitted fit First OffBoundary misfit_off e).1)
classified_off fit Last e = let z : Last ≡ OffBoundary = (fitted fit Last OffBoundary misfit_off e).1 in impossible cc

off_first : OffBoundary ≡ First → ⊥
off_first e = impossible cc

off_last : OffBoundary ≡ Last → ⊥
off_last e = impossible cc

first_last : First ≡ Last → ⊥
first_last e = impossible cc

module _ (q : PendingTranslation) (rcb : Rcb) (count lower : ℕ) (load : List ℕ) where
  pub last_whole : classified q rcb count lower load ≡ Last → count ≡ length load
  unfolding classified
  last_whole e = part_ends q rcb count lower (length load) Last misfit_last first_last (classified_by_lem (translations_fit q load) (part_of q rcb count lower (length load)) Last misfit_last off_last e).1

  pub off_whole : classified q rcb count lower load ≡ OffBoundary → count ≡ length load
  unfolding classified
  off_whole e = part_ends q rcb count lower (length load) OffBoundary misfit_off first_off (classified_off (translations_fit q load) (part_of q rcb count lower (length load)) e)

  pub first_begins : classified q rcb count lower load ≡ First
      → (q.due ≡ 0) × ((length load ≤ count) × (count ≡ length load → ⊥))
  unfolding classified
  first_begins e = part_begins q rcb count lower (length load) (classified_by_lem (translations_fit q load) (part_of q rcb count lower (length load)) First misfit_first off_first e).1

  pub first_fits : classified q rcb count lower load ≡ First → translations_fit q load ≡ true
  unfolding classified
  first_fits e =
      (classified_by_lem (translations_fit q load) (part_of q rcb count lower (length load)) First misfit_first off_first e).0

  pub last_fits : classified q rcb count lower load ≡ Last → translations_fit q load ≡ true
  unfolding classified
  last_fits e =
      (classified_by_lem (translations_fit q load) (part_of q rcb count lower (length load)) Last misfit_last off_last e).0

-- what fits has one size, its first translation's
pub one_size : (q : PendingTranslation) (load : List ℕ) → translations_fit q load ≡ true → 0 < length load / 8
    → exponent_or0 (translation_at load 0).size ≡ exponent_or0 (common_size q load)
unfolding common_size size_fits all_fit translation_fits
one_size q load f some = by_cases (eqb q.due 0) (λ u. rw u refl) (λ u. rw u (second (rw u at f)))
  where
    sized : (s : Option ℕ) (e : ℕ) → size_is s e ≡ true → exponent_or0 s ≡ e
    sized (Some own) e h = eqb-true own e h
    sized None e h = no_tf (sym h)

    second : size_fits q (Some q.size) load ≡ true → exponent_or0 (translation_at load 0).size ≡ q.size
    second h =
        let every = (and_both (leb (unit_exponent q.stu) q.size) _ h).1 in
        let test : ℕ → Bool = λ i. translation_fits (translation_range q) q.size (received_count q + i) (translation_at load i).size in
        by_cases (test 0) (λ t. sized (translation_at load 0).size q.size (and_both (size_is (translation_at load 0).size q.size) _ t).0)
        (λ t. absurd (never_both _ every (all_stop test 0 (length load / 8) some t)))

-- the number of translations in an earlier packet follows from its bytes
pub came_by : (q : PendingTranslation) → received_count q ≡ (q.whole - q.due) / 8
unfolding received_count
came_by q = refl
