-- What a completion stores in the cache.
use Rattle.std.specs.Prelude.{None, Option, Some}
use mathlib.Core.Path.{◌≡◌, refl}
use mathlib.Core.Bool.{true}
use mathlib.Core.List.{List}
use mathlib.Core.Logic.{◌⊎◌, inl, inr, ⊎_elim}
use Prim.Native.Nat.{ℕ, ◌+◌, ◌-◌, ◌*◌, ◌/◌, ◌<◌, ◌≤◌}
use native.Mathlib.Omega.{arith}
use lib.Dec.{ltb}
use lib.ListN.{length}
use borrow.Author.Tests.{ltb-true, ltb-false}
use Rattle.lemmas.proofs.Cases.{either_case}
use Rattle.lemmas.proofs.Iterate.{iterate_invariant}
use Rattle.ranges.specs.declared.Range.{Range}
use Rattle.ranges.specs.Range.{unit_bytes, unit_count}
use Rattle.tlp.specs.Translations.{translation_at}
use Rattle.atc.specs.declared.Entry.{Entry}
use Rattle.atc.specs.declared.Cache.{Cache}
use Rattle.atc.specs.Cache.{found, no_entry, entry_at, filled_with, unit_dropped, SoundCache}
use Rattle.atc.proofs.Laws.{laws}
use Rattle.tags.specs.declared.PendingTranslation.{PendingTranslation}
use Rattle.tags.specs.Tags.{translation_range}
use Rattle.translations.specs.Fits.{common_size, exponent_or0, received_count}
use Rattle.translations.specs.Fills.{allows_access, entry_of, region_index, unit_updated, updated_if_covered, updated_at, applied}

-- a byte of the range
abbrev pub Inside : Range → ℕ → Type 0
Inside range a = (range.first ≤ a) × (a ≤ range.last)

-- An entry that a completion with this payload brings for its request: its unit is in the range, and it is what the
-- translation over that unit gives.
pub record Brought (q : PendingTranslation) (load : List ℕ) (x : Entry) : Type 0 where
  pub unit : ℕ
  pub among : unit < unit_count q.further
  pub at : x.unit ≡ (translation_range q).first + unit * unit_bytes q.stu
  pub inside : Inside (translation_range q) x.unit
  pub word : ℕ
  pub carried : word < length load / 8
  pub over : received_count q + word
      ≡ region_index (translation_range q).first (exponent_or0 (common_size q load)) x.unit
  pub grants : allows_access (translation_at load word) ≡ true
  pub given : x ≡ entry_of (translation_at load word) (exponent_or0 (common_size q load)) x.unit

module _ (q : PendingTranslation) (load : List ℕ) where
  abbrev e : ℕ
  e = exponent_or0 (common_size q load)

  abbrev first : ℕ
  first = (translation_range q).first

  -- a property that each fill of the completion and each deletion preserve is preserved by the completion
  pub applied_keeps : (P : Cache → Type 0) (c : Cache) → P c
      → ((x : Entry) (d : Cache) → Brought q load x → P d → P (filled_with x d))
      → ((unit : ℕ) (d : Cache) → Inside (translation_range q) unit → P d → P (unit_dropped unit d))
      → P (applied q load c)
  unfolding applied updated_at updated_if_covered unit_updated
  applied_keeps P c h fills drops = iterate_invariant _ P (unit_count q.further) c h (λ j d among k. one j d among k)
    where
      one : (j : ℕ) (d : Cache) → j < unit_count q.further → P d
          → P (updated_at (translation_range q) q.stu e (received_count q) load j d)
      one j d among k =
          let a = first + j * unit_bytes q.stu in
          let r = region_index first e a in
          let x = translation_at load (r - received_count q) in
          let at_least : first ≤ a = omega arith in
          either_case P (ltb (translation_range q).last a) d _ (λ past. k)
          (λ below. either_case P (ltb r (received_count q)) d _ (λ before. k)
          (λ here. either_case P (ltb (r - received_count q) (length load / 8)) _ d
          (λ carried. either_case P (allows_access x) (filled_with (entry_of x e a) d) (unit_dropped a d)
          (λ grants. fills (entry_of x e a) d
          (record {
            unit = j;
            among = among;
            at = refl;
            inside = (at_least, ltb-false (translation_range q).last a below);
            word = r - received_count q;
            carried = ltb-true (r - received_count q) (length load / 8) carried;
            over = omega (arith, ltb-false r (received_count q) here);
            grants = grants;
            given = refl;
          }) k)
          (λ shut. drops a d (at_least, ltb-false (translation_range q).last a below) k))
          (λ later. k)))

  pub applied_sound : (c : Cache) → SoundCache c → SoundCache (applied q load c)
  applied_sound c s =
      applied_keeps SoundCache c s (λ x d b k. laws.fill_sound x d k) (λ unit d b k. laws.drop_sound unit d k)

  -- each slot is unchanged, or free, or holds an entry that the completion brought
  pub applied_entry : (c : Cache) → SoundCache c → (i : ℕ)
      → (entry_at (applied q load c) i ≡ entry_at c i)
      ⊎ ((entry_at (applied q load c) i ≡ no_entry) ⊎ ((x : Entry) × (entry_at (applied q load c) i ≡ Some x) × Brought q load x))
  applied_entry c s i =
      (applied_keeps (λ d. SoundCache d × From (entry_at d i)) c (s, inl refl)
      (λ x d b k. (laws.fill_sound x d k.0, ⊎_elim (λ same. rw same k.1) (λ new. inr (inr (x, new, b))) (laws.fill_entry x d k.0 i)))
      (λ unit d b k. (laws.drop_sound unit d k.0, ⊎_elim (λ same. rw same k.1) (λ none. inr (inl none)) (laws.drop_entry unit d k.0 i)))).1
    where
      From : Option Entry → Type 0
      From slot = (slot ≡ entry_at c i) ⊎ ((slot ≡ no_entry) ⊎ ((x : Entry) × (slot ≡ Some x) × Brought q load x))

  -- a unit outside the range gets no new entry: it keeps its own or loses it
  pub applied_outside : (c : Cache) → SoundCache c → (unit : ℕ) → (Inside (translation_range q) unit → ⊥)
      → (found (applied q load c) unit ≡ found c unit) ⊎ (found (applied q load c) unit ≡ None)
  applied_outside c s unit outside =
      (applied_keeps (λ d. SoundCache d × Seen (found d unit)) c (s, inl refl)
      (λ x d b k. (laws.fill_sound x d k.0, ⊎_elim (λ a. rw a k.1) inr (laws.fill_other x d k.0 unit (λ e. outside (rw e at b.inside)))))
      (λ other d b k. (laws.drop_sound other d k.0, rw (laws.drop_other other d k.0 unit (λ e. outside (rw e at b))) k.1))).1
    where
      Seen : Option Entry → Type 0
      Seen r = (r ≡ found c unit) ⊎ (r ≡ None)
