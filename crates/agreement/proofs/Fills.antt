-- What the reply does to the cache: the units in the walk's page are filled, or the first one is deleted.
use Rattle.std.specs.Prelude.{Some}
use mathlib.Core.Path.{◌≡◌, refl, sym, ap, ◌∙◌}
use mathlib.Core.Bool.{Bool, true, false, cond, not, ◌||◌}
use mathlib.Core.List.{List}
use Prim.Native.Nat.{ℕ, zero, suc, ◌+◌, ◌-◌, ◌*◌, ◌/◌, ◌%◌, ◌^◌, ◌<◌, ◌≤◌}
use native.Mathlib.Nat.{div-add-mod', min-eq_left}
use native.Mathlib.Omega.{arith}
use native.Mathlib.Decide.{dec_le}
use lib.Dec.{eqb, ltb}
use lib.ListN.{length}
use borrow.Author.Tests.{lt-ltb, le-ltb, eq-eqb, ne_eqb, eqb-true, eqb-false}
use Rattle.lemmas.specs.Iterate.{iterate}
use Rattle.lemmas.proofs.Cases.{by_cases, impossible}
use Rattle.lemmas.proofs.Iterate.{iterate_same}
use Rattle.ranges.specs.declared.Translation.{Translation}
use Rattle.ranges.specs.Range.{region_of, relocated, unit_count, units_from, range_from}
use Rattle.ranges.proofs.Units.{region_monotone}
use Rattle.packet.specs.declared.TranslationRequest.{TranslationRequest}
use Rattle.tlp.specs.Translations.{translation_at}
use Rattle.atc.specs.declared.Cache.{Cache}
use Rattle.atc.specs.Cache.{unit_dropped}
use Rattle.tags.specs.declared.PendingTranslation.{PendingTranslation}
use Rattle.tags.specs.Tags.{translation_range}
use Rattle.translations.specs.Fits.{received_count}
use Rattle.translations.specs.Fills.{entry_of, unit_updated, updated_if_covered, updated_at, applied}
use Rattle.walk.specs.declared.Mapping.{Mapping}
use Rattle.walk.specs.Walk.{is_none}
use Rattle.translator.specs.Translator.{translation_with, null_translation}
use Rattle.agreement.specs.Agreement.{request_units, rights_left, page_entry, unit_filled, units_filled}
use Rattle.agreement.proofs.Fits.{new_request, range_first, range_from_lem, size_is}

-- an address moved to an aligned base keeps its offset
moved : (base a e : ℕ) → e ≤ 64 → (region_of base e).first ≡ base → relocated base a e ≡ base + a % 2 ^ e
unfolding relocated region_of
moved base a e up aligned =
    let same : base / 2 ^ e * 2 ^ e ≡ base = rw (min-eq_left {n = e} {m = 64} up) at aligned in
    rw (min-eq_left {n = e} {m = 64} up, same) (omega (arith, div-add-mod' a (2 ^ e)))

-- the index of a region is 0 exactly in the first region
index_zero : (x y : ℕ) → y ≤ x → ltb (x - y) 1 ≡ eqb x y
index_zero x y h = by_cases (eqb x y) (λ e. rw e (lt-ltb (x - y) 1 (omega (arith, eqb-true x y e)))) (λ e. rw e (le-ltb (x - y) 1 (go e)))
  where
    go : eqb x y ≡ false → 1 ≤ x - y
    go e = let n : x ≡ y → ⊥ = eqb-false x y e in pick (dec_le (x - y) 0) n
      where
        pick : Dec (x - y ≤ 0) → (x ≡ y → ⊥) → 1 ≤ x - y
        pick (yes l) n = absurd (n (omega arith))
        pick (no l) n = omega arith

-- a reply of one translation x of 2 ^ e bytes, for n units from `first` on
module _ (asked n : ℕ) (payload : List ℕ) (x : Translation) (e : ℕ)
    (some : 1 ≤ n) (few : n ≤ 16)
    (fits : asked / 4096 * 4096 < 2 ^ 64) (eight : length payload ≡ 8) (given : translation_at payload 0 ≡ x) (sized : x.size ≡ Some e) (low : 12 ≤ e) where
  abbrev q : PendingTranslation
  q = new_request asked (n - 1)

  abbrev first : ℕ
  first = asked / 4096 * 4096

  units : unit_count (n - 1) ≡ n
  units = omega arith

  -- unit j, if the range reaches it, is updated where it lies in the region of the first unit
  abbrev updated_unit : ℕ → Cache → Cache
  updated_unit j c =
      cond (ltb (translation_range q).last (first + j * 4096)) c
      (cond (eqb ((first + j * 4096) / 2 ^ e) (first / 2 ^ e)) (unit_updated x e (first + j * 4096) c) c)

  covered : (unit : ℕ) (c : Cache) → first ≤ unit
      → updated_if_covered first e 0 unit payload c ≡ cond (eqb (unit / 2 ^ e) (first / 2 ^ e)) (unit_updated x e unit c) c
  unfolding updated_if_covered
  covered unit c h =
      let r = unit / 2 ^ e - first / 2 ^ e in
      let up = region_monotone first unit e h in
      let none : r - 0 ≡ r = omega arith in
      rw (le-ltb r 0 (omega arith), none, eight, index_zero (unit / 2 ^ e) (first / 2 ^ e) up)
      (by_cases (eqb (unit / 2 ^ e) (first / 2 ^ e))
      (λ s. let z : r ≡ 0 = omega (arith, eqb-true (unit / 2 ^ e) (first / 2 ^ e) s) in rw (s, z, given))
      (λ s. rw s))

  pub applied_is : (c : Cache) → applied q payload c ≡ iterate updated_unit n c
  unfolding applied updated_at received_count
  applied_is c =
      rw (units, size_is asked (n - 1) payload e fits eight (ap (λ (y : Translation). y.size) given ∙ sized) low, range_first asked (n - 1))
      (iterate_same _ updated_unit n c (λ j d l. ap (λ (y : Cache). cond (ltb (translation_range q).last (first + j * 4096)) d y) (covered (first + j * 4096) d (omega arith))))

  range_holds : first < 2 ^ 48 → (j : ℕ) → j < n → first + j * 4096 ≤ (translation_range q).last
  unfolding translation_range units_from range_from region_of
  range_holds small j l =
      rw (units, min-eq_left {n = first + (n * 4096 - 1)} {m = 2 ^ 64 - 1} (omega arith)) (omega arith)

-- the null translation: the entry of the first unit is deleted
module _ (asked n : ℕ) (payload : List ℕ) (some : 1 ≤ n) (few : n ≤ 16) (fits : asked / 4096 * 4096 < 2 ^ 64) (eight : length payload ≡ 8) (given : translation_at payload 0 ≡ null_translation) where
  abbrev at : ℕ
  at = asked / 4096 * 4096

  abbrev null_step : ℕ → Cache → Cache
  null_step = updated_unit asked n payload null_translation 12 some few fits eight given refl (omega arith)

  step_first : (c : Cache) → null_step 0 c ≡ unit_dropped at c
  unfolding unit_updated
  step_first c =
      let same : at + 0 ≡ at = omega arith in
      rw (same, le-ltb _ _ (range_from_lem asked (n - 1) fits), eq-eqb (at / 2 ^ 12) (at / 2 ^ 12) refl)

  step_later : (j : ℕ) (c : Cache) → null_step (suc j) c ≡ c
  step_later j c =
      let other : (at + suc j * 4096) / 2 ^ 12 ≡ at / 2 ^ 12 → ⊥ = λ h. absurd (omega (arith, h)) in
      rw (ne_eqb ((at + suc j * 4096) / 2 ^ 12) (at / 2 ^ 12) other) (either (ltb (translation_range (new_request asked (n - 1))).last (at + suc j * 4096)))
    where
      either : (b : Bool) → cond b c c ≡ c
      either true = refl
      either false = refl

  steps : (k : ℕ) (c : Cache) → iterate null_step (suc k) c ≡ unit_dropped at c
  unfolding iterate
  steps zero c = step_first c
  steps (suc k) c = step_later k (iterate null_step (suc k) c) ∙ steps k c

  pub null_applied : (c : Cache) → applied (new_request asked (n - 1)) payload c ≡ unit_dropped at c
  null_applied c =
      let one : suc (n - 1) ≡ n = omega arith in
      applied_is asked n payload null_translation 12 some few fits eight given refl (omega arith) c
      ∙ ap (λ (k : ℕ). iterate null_step k c) (sym one)
      ∙ steps (n - 1) c

-- a page with a right: each unit in it is filled
module _ (t : TranslationRequest) (m : Mapping) (asked : ℕ) (payload : List ℕ)
    (some : 1 ≤ request_units t) (few : request_units t ≤ 16) (page : asked / 4096 * 4096 ≡ t.address)
    (small : t.address < 2 ^ 48) (eight : length payload ≡ 8)
    (given : translation_at payload 0 ≡ translation_with m.base m.exponent (rights_left t m)) (low : 12 ≤ m.exponent) (up : m.exponent ≤ 64)
    (aligned : (region_of m.base m.exponent).first ≡ m.base) (right : is_none (rights_left t m) ≡ false) where
  abbrev page_translation : Translation
  page_translation = translation_with m.base m.exponent (rights_left t m)

  fits : asked / 4096 * 4096 < 2 ^ 64
  fits = rw page (omega arith)

  entry_is : (unit : ℕ) → entry_of page_translation m.exponent unit ≡ page_entry t m unit
  entry_is unit =
      ap (λ (to : ℕ). record { r = (rights_left t m).r; w = (rights_left t m).w; n = false; u = false; unit = unit; to = to }) (moved m.base unit m.exponent up aligned)

  grants : (r w : Bool) → not (r || w) ≡ false → (r || w) ≡ true
  grants true w h = refl
  grants false true h = refl
  grants false false h = impossible cc

  abbrev page_step : ℕ → Cache → Cache
  page_step = updated_unit asked (request_units t) payload page_translation m.exponent some few fits eight given refl low

  step_is : (j : ℕ) (c : Cache) → j < request_units t → page_step j c ≡ unit_filled t m j c
  unfolding unit_updated
  step_is j c l =
      rw (le-ltb _ _ (range_holds asked (request_units t) payload page_translation m.exponent some few fits eight given refl low (rw page small) j l), page, grants (rights_left t m).r (rights_left t m).w right, entry_is (t.address + j * 4096))

  pub page_applied : (c : Cache) → applied (new_request asked (request_units t - 1)) payload c ≡ units_filled t m (request_units t) c
  page_applied c =
      applied_is asked (request_units t) payload page_translation m.exponent some few fits eight given refl low c
      ∙ iterate_same page_step (unit_filled t m) (request_units t) c (λ j d l. step_is j d l)
