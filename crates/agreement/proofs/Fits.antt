-- The host's reply fits the request of the Function that asked with STU 0.
use Rattle.std.specs.Prelude.{Some}
use mathlib.Core.Path.{◌≡◌, refl}
use mathlib.Core.Bool.{true, false}
use mathlib.Core.List.{List}
use Prim.Native.Nat.{ℕ, ◌-◌, ◌*◌, ◌/◌, ◌^◌, ◌<◌, ◌≤◌}
use native.Mathlib.Nat.{add-zero, div-mul-le_self, le_trans}
use native.Mathlib.Omega.{arith}
use lib.ListN.{length}
use borrow.Author.Tests.{le-leb, eq-eqb}
use Rattle.lemmas.specs.All.{all_below}
use Rattle.ranges.specs.Range.{region_of, unit_count, units_from, range_from}
use Rattle.ranges.proofs.Units.{range_from_ends}
use Rattle.tlp.specs.Translations.{translation_at}
use Rattle.tags.specs.declared.PendingTranslation.{PendingTranslation}
use Rattle.tags.specs.Tags.{translation_range}
use Rattle.translations.specs.declared.Rcb.{Rcb}
use Rattle.translations.specs.declared.Rcb.TheVariants.{B64, B128}
use Rattle.translations.specs.declared.Part.TheVariants.{Last}
use Rattle.translations.specs.Fits.{on_boundary, first_part, part_of, common_size, begins_in, received_count, translation_fits, all_fit, size_fits, translations_fit, classified}

-- a request as an ask with STU 0 leaves it
abbrev pub new_request : ℕ → ℕ → PendingTranslation
new_request asked further =
    record { address = asked; further = further; stu = 0; stale = false; size = 0; whole = 0; due = 0 }

-- its range begins with the page that holds the address, and ends in the address space
module _ (asked further : ℕ) where
  pub range_first : (translation_range (new_request asked further)).first ≡ asked / 4096 * 4096
  unfolding translation_range units_from range_from region_of
  range_first = refl

  pub range_from_lem : (asked / 4096 * 4096 < 2 ^ 64)
      → asked / 4096 * 4096 ≤ (translation_range (new_request asked further)).last
  unfolding translation_range units_from region_of
  range_from_lem h = (range_from_ends (asked / 4096 * 4096) (unit_count further * 4096 - 1) h).0

module _ (asked further : ℕ) (payload : List ℕ) (e : ℕ) (fits : asked / 4096 * 4096 < 2 ^ 64) (eight : length payload ≡ 8) (sized : (translation_at payload 0).size ≡ Some e) (low : 12 ≤ e) where
  abbrev q : PendingTranslation
  q = new_request asked further

  pub size_is : common_size q payload ≡ Some e
  unfolding common_size
  size_is = sized

  begins : begins_in (translation_range q) e 0 ≡ true
  unfolding begins_in
  begins =
      let first = asked / 4096 * 4096 in
      rw (range_first asked further, add-zero (first / 2 ^ e)) (le-leb _ _ (le_trans (div-mul-le_self first (2 ^ e)) (range_from_lem asked further fits)))

  all_fit_lem : all_fit (translation_range q) e 0 payload ≡ true
  unfolding all_fit all_below translation_fits
  all_fit_lem = rw (eight, sized, eq-eqb e e refl) begins

  fit : translations_fit q payload ≡ true
  unfolding size_fits received_count
  fit = rw (size_is, le-leb 12 e low) all_fit_lem

  part : (rcb : Rcb) → part_of q rcb 8 120 (length payload) ≡ Last
  unfolding part_of first_part on_boundary
  part B64 = rw (eight, le-leb 8 (8 * unit_count further) (omega arith))
  part B128 = rw (eight, le-leb 8 (8 * unit_count further) (omega arith))

  pub only_packet : (rcb : Rcb) → classified q rcb 8 120 payload ≡ Last
  unfolding classified
  only_packet rcb = rw (fit, part rcb)
