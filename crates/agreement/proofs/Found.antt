-- Which of the filled units are found afterwards.
use Rattle.std.specs.Prelude.{Some}
use mathlib.Core.Path.{◌≡◌, ◌∙◌}
use mathlib.Core.Bool.{true, false}
use Prim.Native.Nat.{ℕ, zero, suc, ◌<◌}
use native.Mathlib.Numerals.{add-one}
use native.Mathlib.Omega.{arith}
use native.Mathlib.Decide.{dec_le}
use Rattle.lemmas.specs.Iterate.{iterate}
use Rattle.lemmas.proofs.Cases.{by_cases, either_case}
use Rattle.lemmas.proofs.Iterate.{iterate_invariant}
use Rattle.packet.specs.declared.TranslationRequest.{TranslationRequest}
use Rattle.atc.specs.declared.Cache.{Cache}
use Rattle.atc.specs.Cache.{found, SoundCache}
use Rattle.atc.proofs.Laws.{laws, fill_spares}
use Rattle.walk.specs.declared.Mapping.{Mapping}
use Rattle.walk.specs.Walk.{is_none}
use Rattle.agreement.specs.Agreement.{request_unit, request_units, lies_in_page, page_entry, rights_left, unit_filled, units_filled, HandUnused, FoundAfter}

module _ (t : TranslationRequest) (m : Mapping) (c : Cache) (sound : SoundCache c) where
  -- the cache after n units
  abbrev after : ℕ → Cache
  after n = units_filled t m n c

  sound_after : (n : ℕ) → SoundCache (after n)
  sound_after n =
      iterate_invariant (unit_filled t m) SoundCache n c sound
      (λ k d l s. either_case SoundCache (lies_in_page t m k) _ _ (λ inside. laws.fill_sound (page_entry t m (request_unit t k)) d s) (λ outside. s))

  module _ (j : ℕ) (inside : lies_in_page t m j ≡ true) where
    found_first : found (after (suc j)) (request_unit t j) ≡ Some (page_entry t m (request_unit t j))
    unfolding iterate
    found_first = rw inside (laws.fill_found (page_entry t m (request_unit t j)) (after j) (sound_after j))

    -- it stays found if each later step leaves it
    stays_found : (n : ℕ) → j < n
        → ((k : ℕ) → j < k → k < n → found (after (suc k)) (request_unit t j) ≡ found (after k) (request_unit t j))
        → found (after n) (request_unit t j) ≡ Some (page_entry t m (request_unit t j))
    stays_found zero l leaves = absurd (omega (arith, l))
    stays_found (suc n) l leaves = go (dec_le (suc j) n) (λ h. stays_found n h (λ k a b. leaves k a (omega arith)))
      where
        go : Dec (j < n) → (j < n → found (after n) (request_unit t j) ≡ Some (page_entry t m (request_unit t j)))
            → found (after (suc n)) (request_unit t j) ≡ Some (page_entry t m (request_unit t j))
        go (yes h) before = leaves n h (omega arith) ∙ before h
        go (no h) before = let same : n ≡ j = omega arith in rw same found_first

    pub last_found : is_none (rights_left t m) ≡ false → j < request_units t → ((k : ℕ) → j < k → k < request_units t → lies_in_page t m k ≡ false) → FoundAfter t m c j
    unfolding iterate
    last_found right l outside = rw right (stays_found (request_units t) l (λ k a b. rw (outside k a b)))

    pub all_found : is_none (rights_left t m) ≡ false → HandUnused t m c → j < request_units t → FoundAfter t m c j
    unfolding iterate
    all_found right rests l = rw right (stays_found (request_units t) l leaves)
      where
        leaves : (k : ℕ) → j < k → k < request_units t → found (unit_filled t m k (after k)) (request_unit t j) ≡ found (after k) (request_unit t j)
        leaves k a b =
            let rest : (unit_filled t m k (after k)).hand ≡ (after k).hand = rw (add-one k) at (rests k b) in
            by_cases (lies_in_page t m k)
            (λ i. rw i (fill_spares (page_entry t m (request_unit t k)) (after k) (sound_after k) (rw i at rest) (request_unit t j) (λ e. omega (arith, e, a))))
            (λ o. rw o)
