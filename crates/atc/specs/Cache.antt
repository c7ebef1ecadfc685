-- The cache. 01, "ATC".
use Rattle.std.specs.Prelude.{◌≡◌, ℕ, ◌+◌, ◌%◌, ◌^◌, Bool, true, false, cond, List, map, length, replicate, ◌==◌, Option, Some, None, option_and_then, slice_index_or, slice_set}
use Rattle.std.specs.List.{position}
use Rattle.std.specs.Option.{option_or}
use Rattle.ranges.specs.declared.Range.{Range}
use Rattle.ranges.specs.Range.{unit_exponent, region_of, overlaps}
use Rattle.atc.specs.declared.Entry.{Entry}
use Rattle.atc.specs.declared.Cache.{Cache}

-- the content of a free slot
abbrev pub no_entry : Option Entry
no_entry = None

-- 32 free slots, and the hand at slot 0
abbrev pub blank : Cache
blank = record { hand = 0; slots = replicate 32 no_entry }

-- all entries are deleted; the hand stays
abbrev pub emptied : Cache → Cache
emptied c = record { hand = c.hand; slots = replicate 32 no_entry }

-- is this the entry of the unit with this address?
abbrev pub is_entry_of : ℕ → Option Entry → Bool
is_entry_of unit None = false
is_entry_of unit (Some e) = e.unit == unit

abbrev pub is_free_slot : Option Entry → Bool
is_free_slot None = true
is_free_slot (Some e) = false

abbrev pub slot_of : List (Option Entry) → ℕ → Option ℕ
slot_of slots unit = position (is_entry_of unit) slots

abbrev pub free_slot : List (Option Entry) → Option ℕ
free_slot slots = position is_free_slot slots

-- the content of a slot; past the last there is no entry
abbrev pub slot_at : List (Option Entry) → ℕ → Option Entry
slot_at slots i = slice_index_or slots i no_entry

abbrev pub entry_at : Cache → ℕ → Option Entry
entry_at c i = slot_at c.slots i

-- the entry of a unit
unfoldable pub found : Cache → ℕ → Option Entry
found c unit = option_and_then (entry_at c) (slot_of c.slots unit)

-- slot i and the hand are set; nothing else changes
abbrev pub with_slot : Cache → ℕ → Option Entry → ℕ → Cache
with_slot c i slot hand = record { hand = hand; slots = slice_set c.slots i slot }

-- An entry is stored in the slot of the unit's old entry, if there is one, otherwise in the lowest free
-- slot. If no slot is free, it replaces the slot of the hand (the hand modulo 32). Only then does the
-- hand step; it wraps at 2 ^ 32.
unfoldable pub filled_with : Entry → Cache → Cache
filled_with e c = elim (option_or (slot_of c.slots e.unit) (free_slot c.slots)) [
  | Some i ↦ with_slot c i (Some e) c.hand
  | None ↦ with_slot c (c.hand % 32) (Some e) ((c.hand + 1) % 2 ^ 32)
]

-- the entry of one unit is deleted
unfoldable pub unit_dropped : ℕ → Cache → Cache
unit_dropped unit c = elim (slot_of c.slots unit) [
  | Some i ↦ with_slot c i no_entry c.hand
  | None ↦ c
]

-- does an entry's unit overlap a range?
abbrev pub entry_overlaps : ℕ → Range → Entry → Bool
entry_overlaps stu range e = overlaps (region_of e.unit (unit_exponent stu)) range

abbrev pub entry_dropped : ℕ → Range → Option Entry → Option Entry
entry_dropped stu range None = None
entry_dropped stu range (Some e) = cond (entry_overlaps stu range e) None (Some e)

abbrev pub slots_dropped : ℕ → Range → List (Option Entry) → List (Option Entry)
slots_dropped stu range slots = map (entry_dropped stu range) slots

-- every entry that overlaps a range is deleted
unfoldable pub range_dropped : ℕ → Range → Cache → Cache
range_dropped stu range c = record { hand = c.hand; slots = slots_dropped stu range c.slots }

-- 32 slots, and at most one entry per unit
pub record SoundCache (c : Cache) : Type 0 where
  pub slots : length c.slots ≡ 32
  pub single : (i j : ℕ) (a b : Entry) → entry_at c i ≡ Some a → entry_at c j ≡ Some b → a.unit ≡ b.unit → i ≡ j
