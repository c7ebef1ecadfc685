-- Which entries a walk reads, and what it depends on. 02, "b".
use Rattle.std.specs.Prelude.{◌≡◌, List, [], ◌∷◌, ℕ, ◌+◌, ◌-◌, ◌*◌, ◌<◌, ◌≤◌, length}
use Rattle.walk.specs.Walk.{Visit, rights_in, bits51_to12, index_at, table_entry, is_large, walked}

abbrev pub entry_at_visit : List ℕ → Visit → ℕ
entry_at_visit entries v = table_entry entries v.table v.index

-- The first visit is in table k, at a level with n levels below, at the index of the address there, and the table is wholly
-- lent; the next is a level below, in the table that the entry names.
abbrev pub InOrder : ℕ → ℕ → List ℕ → ℕ → List Visit → Type 0
InOrder n k entries a [] = Unit {0}
InOrder n k entries a (v ∷ vs) =
    (v.table ≡ k) × (v.index ≡ index_at n a) × (v.index < 512) × (512 * (k + 1) ≤ length entries)
    × InOrder (n - 1) (bits51_to12 (entry_at_visit entries v)) entries a vs

-- two entries that agree in R, in W, in bits 51:12 and, at levels 2 and 3, in bit 7
pub record SameMeaning (n x y : ℕ) : Type 0 where
  pub rights : rights_in x ≡ rights_in y
  pub large : is_large n x ≡ is_large n y
  pub number : bits51_to12 x ≡ bits51_to12 y

-- two lent lists agree in this way at each of these visits
abbrev pub SameAt : ℕ → List Visit → List ℕ → List ℕ → Type 0
SameAt n [] entries others = Unit {0}
SameAt n (v ∷ vs) entries others =
    SameMeaning n (entry_at_visit entries v) (entry_at_visit others v) × SameAt (n - 1) vs entries others

pub record OnlyVisitsMatter : Type 0 where
  pub at_most_four : (entries : List ℕ) (a : ℕ) → length (walked entries a).visits ≤ 4
  pub order : (entries : List ℕ) (a : ℕ) → InOrder 3 0 entries a (walked entries a).visits
  -- A walk depends on the length of what is lent, and on the entries that it reads: on their R and W, on their bits 51:12
  -- and, at levels 2 and 3, on their bit 7.
  pub same : (entries others : List ℕ) (a : ℕ) → length entries ≡ length others
      → SameAt 3 (walked entries a).visits entries others → walked entries a ≡ walked others a
