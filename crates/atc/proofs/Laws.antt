-- The laws of a cache that the layers above use, as one record; and a proof that this cache satisfies them.
use Rattle.std.proofs.Common.{◌≡◌, ℕ, zero, suc, ◌+◌, ◌%◌, ◌^◌, ◌<◌, ◌≤◌, true, false, ◌⊎◌, List, length, replicate, sym, refl, ap, ◌∙◌, inl, inr, ⊎_elim, arith, length-set, get_or-set_same, eq-eqb, eqb-true, Option, None, Some, is_some}
use Rattle.std.specs.Option.{unwrap_or, option_or}
use Rattle.std.proofs.lemmas.Option.{same_Some, none-some}
use Rattle.std.proofs.lemmas.List.Quantifiers.{position-Some}
use native.Mathlib.Decide.{dec_le}
use lib.ListN.{length-map, get_or-eq_default, get_or-map}
use Rattle.lemmas.proofs.Cases.{by_cases, never_both, is_false, impossible}
use Rattle.lemmas.proofs.First.{by_option, position_none, position_set, position_map}
use Rattle.lemmas.proofs.Maps.{set_or}
use Rattle.ranges.specs.declared.Range.{Range}
use Rattle.ranges.specs.Range.{unit_exponent, region_of, overlaps}
use Rattle.atc.specs.declared.Entry.{Entry}
use Rattle.atc.specs.declared.Cache.{Cache}
use Rattle.atc.specs.Cache.{no_entry, blank, emptied, is_entry_of, is_free_slot, slot_of, free_slot, slot_at, entry_at, found, with_slot, filled_with, unit_dropped, entry_overlaps, entry_dropped, range_dropped, SoundCache}

-- A cache is a type C with these operations. Each number has an entry, or none.
pub record CacheLaws (C : Type 0) (Sound : C → Type 0) (at : C → ℕ → Option Entry) (find : C → ℕ → Option Entry) (new : C) (empty : C → C) (fill : Entry → C → C) (drop : ℕ → C → C) (dropRange : ℕ → Range → C → C) : Type 0 where
  -- a unit has at most one entry
  pub single : (c : C) → Sound c → (i j : ℕ) (a b : Entry) → at c i ≡ Some a → at c j ≡ Some b → a.unit ≡ b.unit → i ≡ j
  -- an entry that is found is an entry of the unit, and is in the cache; an entry in the cache is found by its unit
  pub found_is : (c : C) → Sound c → (unit : ℕ) (e : Entry) → find c unit ≡ Some e → (e.unit ≡ unit) × ((i : ℕ) × (at c i ≡ Some e))
  pub found_only : (c : C) → Sound c → (i : ℕ) (e : Entry) → at c i ≡ Some e → find c e.unit ≡ Some e
  -- a new cache is empty
  pub new_sound : Sound new
  pub new_entry : (i : ℕ) → at new i ≡ no_entry
  -- and so is an emptied one
  pub empty_sound : (c : C) → Sound (empty c)
  pub empty_entry : (c : C) (i : ℕ) → at (empty c) i ≡ no_entry
  -- a fill: only the new entry is added, and it is found; any other unit keeps its entry or loses it
  pub fill_sound : (e : Entry) (c : C) → Sound c → Sound (fill e c)
  pub fill_entry : (e : Entry) (c : C) → Sound c → (i : ℕ) → (at (fill e c) i ≡ at c i) ⊎ (at (fill e c) i ≡ Some e)
  pub fill_found : (e : Entry) (c : C) → Sound c → find (fill e c) e.unit ≡ Some e
  pub fill_other : (e : Entry) (c : C) → Sound c → (unit : ℕ) → (e.unit ≡ unit → ⊥)
      → (find (fill e c) unit ≡ find c unit) ⊎ (find (fill e c) unit ≡ None)
  -- the entry of a unit is deleted: it is not found, and any other is unchanged
  pub drop_sound : (unit : ℕ) (c : C) → Sound c → Sound (drop unit c)
  pub drop_entry : (unit : ℕ) (c : C) → Sound c → (i : ℕ)
      → (at (drop unit c) i ≡ at c i) ⊎ (at (drop unit c) i ≡ no_entry)
  pub drop_found : (unit : ℕ) (c : C) → Sound c → find (drop unit c) unit ≡ None
  pub drop_other : (unit : ℕ) (c : C) → Sound c → (other : ℕ) → (unit ≡ other → ⊥)
      → find (drop unit c) other ≡ find c other
  -- a range is deleted: exactly the entries whose unit overlaps it are deleted
  pub range_sound : (stu : ℕ) (range : Range) (c : C) → Sound c → Sound (dropRange stu range c)
  pub range_entry : (stu : ℕ) (range : Range) (c : C) → Sound c → (i : ℕ)
      → at (dropRange stu range c) i ≡ entry_dropped stu range (at c i)
  pub range_found : (stu : ℕ) (range : Range) (c : C) → Sound c → (unit : ℕ)
      → overlaps (region_of unit (unit_exponent stu)) range ≡ true → find (dropRange stu range c) unit ≡ None
  pub range_other : (stu : ℕ) (range : Range) (c : C) → Sound c → (unit : ℕ)
      → overlaps (region_of unit (unit_exponent stu)) range ≡ false → find (dropRange stu range c) unit ≡ find c unit

-- a slot with an entry is one of the list
used_lt : (slots : List (Option Entry)) (i : ℕ) (e : Entry) → slot_at slots i ≡ Some e → i < length slots
used_lt slots i e u = go (dec_le (length slots) i)
  where
    go : Dec (length slots ≤ i) → i < length slots
    go (yes l) = absurd (none-some e (sym (get_or-eq_default slots no_entry l) ∙ u))
    go (no n) = omega arith

of_unit : (unit : ℕ) (slot : Option Entry) → is_entry_of unit slot ≡ true → (e : Entry) × (slot ≡ Some e) × (e.unit ≡ unit)
of_unit unit None h = impossible cc
of_unit unit (Some e) h = (e, refl, eqb-true e.unit unit h)

-- a cache that only loses entries stays sound
fewer : (c d : Cache) → length d.slots ≡ 32 → ((i : ℕ) → (entry_at d i ≡ entry_at c i) ⊎ (entry_at d i ≡ no_entry))
    → SoundCache c → SoundCache d
fewer c d all f s = record { slots = all; single = λ i j a b u v q. s.single i j a b (kept i a u) (kept j b v) q }
  where
    kept : (k : ℕ) (e : Entry) → entry_at d k ≡ Some e → entry_at c k ≡ Some e
    kept k e h = ⊎_elim (λ a. sym a ∙ h) (λ a. absurd (none-some e (sym a ∙ h))) (f k)

-- ---- finding an entry

module _ (c : Cache) (unit : ℕ) where
  own_holds : (i : ℕ) → slot_of c.slots unit ≡ Some i → is_entry_of unit (entry_at c i) ≡ true
  own_holds i p = (position-Some (is_entry_of unit) c.slots i no_entry p).1

  slot_is : (i : ℕ) → slot_of c.slots unit ≡ Some i → (e : Entry) × (entry_at c i ≡ Some e) × (e.unit ≡ unit)
  slot_is i p = of_unit unit (entry_at c i) (own_holds i p)

  -- if no slot holds an entry of the unit, none is found
  none_found : ((i : ℕ) (e : Entry) → entry_at c i ≡ Some e → e.unit ≡ unit → ⊥) → found c unit ≡ None
  unfolding found
  none_found f = by_option (slot_of c.slots unit) (λ n. rw n) (λ i p. let h = slot_is i p in absurd (f i h.0 h.1 h.2))

  same_found : (d : Cache) → slot_of d.slots unit ≡ slot_of c.slots unit
      → ((i : ℕ) → slot_of c.slots unit ≡ Some i → entry_at d i ≡ entry_at c i) → found d unit ≡ found c unit
  unfolding found
  same_found d q f = rw q (by_option (slot_of c.slots unit) (λ n. rw n) (λ i p. rw p (f i p)))

  -- a store to a slot that held no entry of the unit, of no entry of it, does not change what is found
  same_put : (k : ℕ) (x : Option Entry) (hand : ℕ) → is_entry_of unit (entry_at c k) ≡ false → is_entry_of unit x ≡ false
      → found (with_slot c k x hand) unit ≡ found c unit
  same_put k x hand f g =
      same_found (with_slot c k x hand) (position_set (is_entry_of unit) c.slots k x no_entry (g ∙ sym f))
      (λ i p. ⊎_elim (λ q. q) (λ q. absurd (never_both _ (rw q.0 at (own_holds i p)) f)) (set_or c.slots k i x no_entry))

module _ (c : Cache) (s : SoundCache c) (unit : ℕ) where
  slot_only : (i : ℕ) (e : Entry) → entry_at c i ≡ Some e → e.unit ≡ unit → slot_of c.slots unit ≡ Some i
  slot_only i e u q =
      by_option (slot_of c.slots unit)
      (λ n. absurd (never_both (is_entry_of unit (entry_at c i)) (rw u (eq-eqb e.unit unit q)) (position_none (is_entry_of unit) c.slots i no_entry n (used_lt c.slots i e u))))
      (λ k p. let h = slot_is c unit k p in p ∙ ap Some (s.single k i h.0 e h.1 u (h.2 ∙ sym q)))

  found_is : (e : Entry) → found c unit ≡ Some e → (e.unit ≡ unit) × ((i : ℕ) × (entry_at c i ≡ Some e))
  unfolding found
  found_is e f =
      by_option (slot_of c.slots unit)
      (λ n. absurd (none-some e (rw n at f)))
      (λ i p. let g : entry_at c i ≡ Some e = rw p at f in
      let h = slot_is c unit i p in
      (ap (λ (x : Entry). x.unit) (same_Some e h.0 (sym g ∙ h.1)) ∙ h.2, (i, g)))

  found_at : (i : ℕ) (e : Entry) → entry_at c i ≡ Some e → e.unit ≡ unit → found c unit ≡ Some e
  unfolding found
  found_at i e u q = rw (slot_only i e u q) u

  -- if none is found, no slot holds one
  found_none : found c unit ≡ None → (i : ℕ) (e : Entry) → entry_at c i ≡ Some e → e.unit ≡ unit → ⊥
  found_none f i e u q = none-some e (sym f ∙ found_at i e u q)

-- ---- the empty cache

free_all : (n i : ℕ) → slot_at (replicate n no_entry) i ≡ no_entry
free_all zero i = refl
free_all (suc n) zero = refl
free_all (suc n) (suc i) = free_all n i

bare_sound : (hand : ℕ) → SoundCache (record { hand = hand; slots = replicate 32 no_entry })
bare_sound hand = record { slots = refl; single = λ i j a b u v q. absurd (none-some a (sym (free_all 32 i) ∙ u)) }

-- ---- a fill

-- the slot that a fill sets
abbrev place : Entry → Cache → ℕ
place e c = unwrap_or (option_or (slot_of c.slots e.unit) (free_slot c.slots)) (c.hand % 32)

module _ (e : Entry) (c : Cache) where
  -- what holds in each of the three cases holds for a fill and its slot
  by_place : (P : Cache → ℕ → Type 0)
      → ((i : ℕ) → slot_of c.slots e.unit ≡ Some i → P (with_slot c i (Some e) c.hand) i)
      → ((i : ℕ) → free_slot c.slots ≡ Some i → P (with_slot c i (Some e) c.hand) i)
      → (slot_of c.slots e.unit ≡ None → free_slot c.slots ≡ None → P (with_slot c (c.hand % 32) (Some e) ((c.hand + 1) % 2 ^ 32)) (c.hand % 32))
      → P (filled_with e c) (place e c)
  unfolding filled_with
  by_place P f g h =
      by_option (slot_of c.slots e.unit)
      (λ p. by_option (free_slot c.slots) (λ q. rw (p, q, filled_with) (h p q)) (λ i q. rw (p, q, filled_with) (g i q)))
      (λ i p. rw (p, filled_with) (f i p))

  -- no slot but this one changes:
  fill_sets : filled_with e c ≡ with_slot c (place e c) (Some e) (filled_with e c).hand
  fill_sets = by_place (λ d k. d ≡ with_slot c k (Some e) d.hand) (λ i l. refl) (λ i l. refl) (λ m n. refl)

  -- each is unchanged, or is the filled one and holds the entry
  fill_slot : (i : ℕ)
      → (entry_at (filled_with e c) i ≡ entry_at c i) ⊎ ((i ≡ place e c) × (entry_at (filled_with e c) i ≡ Some e))
  fill_slot i = rw fill_sets (set_or c.slots (place e c) i (Some e) no_entry)

  free_is : (i : ℕ) → free_slot c.slots ≡ Some i → entry_at c i ≡ None
  free_is i p = empty (entry_at c i) (position-Some is_free_slot c.slots i no_entry p).1
    where
      empty : (slot : Option Entry) → is_free_slot slot ≡ true → slot ≡ None
      empty None h = refl
      empty (Some x) h = impossible cc

module _ (e : Entry) (c : Cache) (s : SoundCache c) where
  -- the slot is one of the 32
  place_lt : place e c < 32
  place_lt =
      by_place e c (λ d k. k < 32)
      (λ i l. rw s.slots at (position-Some (is_entry_of e.unit) c.slots i no_entry l).0)
      (λ i l. rw s.slots at (position-Some is_free_slot c.slots i no_entry l).0)
      (λ m n. omega arith)

  -- if the unit has an entry, that entry is replaced
  fill_own : (i : ℕ) (a : Entry) → entry_at c i ≡ Some a → a.unit ≡ e.unit → place e c ≡ i
  fill_own i a u q = rw (slot_only c s e.unit i a u q)

  fill_sound : SoundCache (filled_with e c)
  fill_sound =
      record {
        slots = rw (fill_sets e c) (length-set c.slots (place e c) (Some e) ∙ s.slots);
        single = λ i j a b u v q. ⊎_elim
            (λ k. ⊎_elim
            (λ l. s.single i j a b (sym k ∙ u) (sym l ∙ v) q)
            (λ l. sym (l.0 ∙ fill_own i a (sym k ∙ u) (q ∙ unit_of b (sym v ∙ l.1))))
            (fill_slot e c j))
            (λ k. ⊎_elim
            (λ l. k.0 ∙ fill_own j b (sym l ∙ v) (sym q ∙ unit_of a (sym u ∙ k.1)))
            (λ l. k.0 ∙ sym l.0)
            (fill_slot e c j))
            (fill_slot e c i);
      }
    where
      unit_of : (a : Entry) → Some a ≡ Some e → a.unit ≡ e.unit
      unit_of a h = ap (λ (x : Entry). x.unit) (same_Some a e h)

  at_place : entry_at (filled_with e c) (place e c) ≡ Some e
  at_place =
      let l : place e c < length c.slots = omega (arith, place_lt, s.slots) in
      rw (fill_sets e c) (get_or-set_same c.slots (place e c) (Some e) no_entry l)

  fill_found : found (filled_with e c) e.unit ≡ Some e
  fill_found = found_at (filled_with e c) fill_sound e.unit (place e c) e at_place refl

  -- a unit keeps its entry unless the entry was in the filled slot,
  fill_spared : (unit : ℕ) → (e.unit ≡ unit → ⊥) → is_entry_of unit (entry_at c (place e c)) ≡ false
      → found (filled_with e c) unit ≡ found c unit
  fill_spared unit f g =
      ap (λ (d : Cache). found d unit) (fill_sets e c)
      ∙ same_put c unit (place e c) (Some e) (filled_with e c).hand g (is_false (is_entry_of unit (Some e)) (λ h. f (eqb-true e.unit unit h)))

  -- in which case it loses the entry
  fill_other : (unit : ℕ) → (e.unit ≡ unit → ⊥)
      → (found (filled_with e c) unit ≡ found c unit) ⊎ (found (filled_with e c) unit ≡ None)
  fill_other unit f =
      by_cases (is_entry_of unit (entry_at c (place e c))) (λ h. inr (lost h)) (λ h. inl (fill_spared unit f h))
    where
      lost : is_entry_of unit (entry_at c (place e c)) ≡ true → found (filled_with e c) unit ≡ None
      lost h =
          none_found (filled_with e c) unit
          (λ i a u q. let o = of_unit unit (entry_at c (place e c)) h in
          ⊎_elim
          (λ k. let l : i ≡ place e c = s.single i (place e c) a o.0 (sym k ∙ u) o.1 (q ∙ sym o.2) in
          f (of a (sym at_place ∙ rw l at u) ∙ q))
          (λ k. f (of a (sym k.1 ∙ u) ∙ q))
          (fill_slot e c i))
        where
          of : (a : Entry) → Some e ≡ Some a → e.unit ≡ a.unit
          of a k = ap (λ (x : Entry). x.unit) (same_Some e a k)

  -- ---- the hand of this cache

  -- if the hand stays, only the filled unit changes
  pub fill_spares : (filled_with e c).hand ≡ c.hand → (unit : ℕ) → (e.unit ≡ unit → ⊥)
      → found (filled_with e c) unit ≡ found c unit
  fill_spares stays unit f =
      fill_spared unit f
      (is_false (is_entry_of unit (entry_at c (place e c)))
      (λ h. by_place e c (λ d k. d.hand ≡ c.hand → is_entry_of unit (entry_at c k) ≡ true → ⊥)
      (λ i l r g. let o = slot_is c e.unit i l in f (sym o.2 ∙ eqb-true o.0.unit unit (rw o.1 at g)))
      (λ i l r g. let g : is_entry_of unit None ≡ true = rw (free_is e c i l) at g in impossible cc)
      (λ m n r g. omega arith)
      stays h))

  -- the hand stays, or the unit had no entry and no slot was free
  pub fill_hand : ((filled_with e c).hand ≡ c.hand)
      ⊎ ((found c e.unit ≡ None) × ((i : ℕ) → i < 32 → is_some (entry_at c i) ≡ true))
  fill_hand =
      by_place e c (λ d k. (d.hand ≡ c.hand) ⊎ ((found c e.unit ≡ None) × ((i : ℕ) → i < 32 → is_some (entry_at c i) ≡ true)))
      (λ i l. inl refl)
      (λ i l. inl refl)
      (λ m n. inr (none_found c e.unit (λ i a u q. none-some i (sym m ∙ slot_only c s e.unit i a u q)), full n))
    where
      in_use : (slot : Option Entry) → is_free_slot slot ≡ false → is_some slot ≡ true
      in_use None h = impossible cc
      in_use (Some x) h = refl

      full : free_slot c.slots ≡ None → (i : ℕ) → i < 32 → is_some (entry_at c i) ≡ true
      full n i l = in_use (entry_at c i) (position_none is_free_slot c.slots i no_entry n (rw s.slots l))

  -- in that case the slot of the hand is filled, and the hand steps
  pub fill_full : found c e.unit ≡ None → ((i : ℕ) → i < 32 → is_some (entry_at c i) ≡ true)
      → filled_with e c ≡ with_slot c (c.hand % 32) (Some e) ((c.hand + 1) % 2 ^ 32)
  fill_full m f =
      by_place e c (λ d k. d ≡ with_slot c (c.hand % 32) (Some e) ((c.hand + 1) % 2 ^ 32))
      (λ i l. let own = slot_is c e.unit i l in absurd (found_none c s e.unit m i own.0 own.1 own.2))
      (λ i l. let in_use = f i (rw s.slots at (position-Some is_free_slot c.slots i no_entry l).0) in
      let none : is_some {T = Entry} None ≡ true = rw (free_is e c i l) at in_use in
      impossible cc)
      (λ m n. refl)

-- ---- deleting the entry of a unit

module _ (unit : ℕ) (c : Cache) where
  -- what holds in both cases holds for the deletion
  by_drop : (P : Cache → Type 0) → (slot_of c.slots unit ≡ None → P c)
      → ((i : ℕ) → slot_of c.slots unit ≡ Some i → P (with_slot c i no_entry c.hand)) → P (unit_dropped unit c)
  unfolding unit_dropped
  by_drop P f g = by_option (slot_of c.slots unit) (λ n. rw (n, unit_dropped) (f n)) (λ i p. rw (p, unit_dropped) (g i p))

  drop_entry : (i : ℕ) → (entry_at (unit_dropped unit c) i ≡ entry_at c i) ⊎ (entry_at (unit_dropped unit c) i ≡ no_entry)
  drop_entry i =
      by_drop (λ d. (entry_at d i ≡ entry_at c i) ⊎ (entry_at d i ≡ no_entry))
      (λ n. inl refl)
      (λ k p. ⊎_elim inl (λ q. inr q.1) (set_or c.slots k i no_entry no_entry))

  module _ (s : SoundCache c) where
    drop_sound : SoundCache (unit_dropped unit c)
    drop_sound =
        fewer c (unit_dropped unit c)
        (by_drop (λ d. length d.slots ≡ 32) (λ n. s.slots) (λ i p. length-set c.slots i no_entry ∙ s.slots)) drop_entry s

    drop_found : found (unit_dropped unit c) unit ≡ None
    drop_found =
        by_drop (λ d. found d unit ≡ None)
        (λ n. none_found c unit (λ i e u q. none-some i (sym n ∙ slot_only c s unit i e u q)))
        (λ k p. none_found (with_slot c k no_entry c.hand) unit (λ i e u q. gone k p i e (set_or c.slots k i no_entry no_entry) u q))
      where
        gone : (k : ℕ) → slot_of c.slots unit ≡ Some k → (i : ℕ) (e : Entry)
            → (entry_at (with_slot c k no_entry c.hand) i ≡ entry_at c i) ⊎ ((i ≡ k) × (entry_at (with_slot c k no_entry c.hand) i ≡ no_entry))
            → entry_at (with_slot c k no_entry c.hand) i ≡ Some e → e.unit ≡ unit → ⊥
        gone k p i e (inl a) u q =
            let same : k ≡ i = same_Some k i (sym p ∙ slot_only c s unit i e (sym a ∙ u) q) in
            let l = used_lt c.slots i e (sym a ∙ u) in
            none-some e (sym (get_or-set_same c.slots i no_entry no_entry l) ∙ rw same at u)
        gone k p i e (inr a) u q = none-some e (sym a.1 ∙ u)

    drop_other : (other : ℕ) → (unit ≡ other → ⊥) → found (unit_dropped unit c) other ≡ found c other
    drop_other other f =
        by_drop (λ d. found d other ≡ found c other)
        (λ n. refl)
        (λ k p. let o = slot_is c unit k p in
        same_put c other k no_entry c.hand
        (is_false (is_entry_of other (entry_at c k)) (λ h. f (sym o.2 ∙ eqb-true o.0.unit other (rw o.1 at h))))
        refl)

-- ---- deleting every entry that overlaps a range

module _ (stu : ℕ) (range : Range) (c : Cache) where
  range_entry : (i : ℕ) → entry_at (range_dropped stu range c) i ≡ entry_dropped stu range (entry_at c i)
  unfolding range_dropped
  range_entry i = get_or-map (entry_dropped stu range) c.slots i no_entry

  -- what a slot holds afterwards it held before, and does not overlap
  range_left : (slot : Option Entry) (e : Entry) → entry_dropped stu range slot ≡ Some e
      → (slot ≡ Some e) × (entry_overlaps stu range e ≡ false)
  range_left None e h = absurd (none-some e h)
  range_left (Some x) e h =
      by_cases (entry_overlaps stu range x)
      (λ p. absurd (none-some e (rw p at h)))
      (λ p. let q : Some x ≡ Some e = rw p at h in (q, rw (same_Some x e q) at p))

  range_sound : SoundCache c → SoundCache (range_dropped stu range c)
  unfolding range_dropped
  range_sound s =
      record {
        slots = length-map c.slots (entry_dropped stu range) ∙ s.slots;
        single = λ i j a b u v q. s.single i j a b (range_left _ a (sym (range_entry i) ∙ u)).0 (range_left _ b (sym (range_entry j) ∙ v)).0 q;
      }

  module _ (s : SoundCache c) (unit : ℕ) where
    range_found : overlaps (region_of unit (unit_exponent stu)) range ≡ true
        → found (range_dropped stu range c) unit ≡ None
    range_found m =
        none_found (range_dropped stu range c) unit
        (λ i e u q. never_both (entry_overlaps stu range e) (rw q m) (range_left _ e (sym (range_entry i) ∙ u)).1)

    range_other : overlaps (region_of unit (unit_exponent stu)) range ≡ false
        → found (range_dropped stu range c) unit ≡ found c unit
    unfolding range_dropped
    range_other m =
        same_found c unit (range_dropped stu range c) (position_map (is_entry_of unit) (entry_dropped stu range) same c.slots)
        (λ i p. let o = slot_is c unit i p in range_entry i ∙ kept (entry_at c i) o.0 o.1 o.2)
      where
        kept : (slot : Option Entry) (e : Entry) → slot ≡ Some e → e.unit ≡ unit → entry_dropped stu range slot ≡ slot
        kept slot e h q = rw (h, q, m)

        same : (slot : Option Entry) → is_entry_of unit (entry_dropped stu range slot) ≡ is_entry_of unit slot
        same None = refl
        same (Some e) = by_cases (entry_overlaps stu range e) (λ p. rw p (sym (is_false (is_entry_of unit (Some e)) (λ h. never_both _ (rw (eqb-true e.unit unit h) at p) m)))) (λ p. rw p)

-- the laws of this cache
pub laws : CacheLaws Cache SoundCache entry_at found blank emptied filled_with unit_dropped range_dropped
laws =
    record {
      single = λ c s. s.single;
      found_is = found_is;
      found_only = λ c s i e u. found_at c s e.unit i e u refl;
      new_sound = bare_sound 0;
      new_entry = free_all 32;
      empty_sound = λ c. bare_sound c.hand;
      empty_entry = λ c. free_all 32;
      fill_sound = fill_sound;
      fill_entry = λ e c s i. ⊎_elim inl (λ a. inr a.1) (fill_slot e c i);
      fill_found = fill_found;
      fill_other = fill_other;
      drop_sound = drop_sound;
      drop_entry = λ unit c s. drop_entry unit c;
      drop_found = drop_found;
      drop_other = drop_other;
      range_sound = range_sound;
      range_entry = λ stu range c s. range_entry stu range c;
      range_found = range_found;
      range_other = range_other;
    }
