-- Laws of the page walk.
use mathlib.Core.Path.{◌≡◌, refl, ap}
use mathlib.Core.Bool.{Bool, true, false, cond, ◌||◌}
use mathlib.Core.List.{List, [], ◌∷◌}
use Prim.Native.Nat.{ℕ, zero, suc, ◌+◌, ◌-◌, ◌*◌, ◌^◌, ◌<◌, ◌≤◌}
use native.Mathlib.Nat.{add-zero}
use native.Mathlib.Omega.{arith}
use lib.Dec.{eqb, leb}
use lib.ListN.{length, get_or}
use borrow.Author.Tests.{le-leb, lt-leb, leb-false, ne_eqb}
use Rattle.lemmas.proofs.Cases.{impossible, either_case}
use Rattle.ranges.specs.declared.Range.{Range}
use Rattle.ranges.specs.Range.{region_of}
use Rattle.ranges.proofs.Units.{region_first, region_again}
use Rattle.walk.specs.declared.Rights.{Rights}
use Rattle.walk.specs.declared.End.{End}
use Rattle.walk.specs.declared.End.TheVariants.{Mapped, Unmapped, NotLent}
use Rattle.walk.specs.declared.Walk.{Walk}
use Rattle.walk.specs.declared.Level.{Level}
use Rattle.walk.specs.declared.Level.TheVariants.{One, Two, Three, Four}
use Rattle.walk.specs.Walk.{Walked, rights_in, bits51_to12, all_rights, is_none, both_grant, is_lent, below, index_at, table_entry, is_large, ends_in, visiting, entry_read, page_of, walk_from, walked}

-- the level of a walk after v entries
pub level_at : (v i : ℕ) (l : Level) → v ≡ i → v ≤ 3 → below (get_or (One ∷ Two ∷ Three ∷ Four ∷ []) i l) ≡ 3 - v
level_at v i l e h = rw e (go i (rw e at h))
  where
    go : (i : ℕ) → i ≤ 3 → below (get_or (One ∷ Two ∷ Three ∷ Four ∷ []) i l) ≡ 3 - i
    go zero h = refl
    go (suc zero) h = refl
    go (suc (suc zero)) h = refl
    go (suc (suc (suc zero))) h = refl
    go (suc (suc (suc (suc i)))) h = absurd (omega (arith, h))

-- the walk at any level, the last one included
pub at_level : (n : ℕ) (entries : List ℕ) (a k : ℕ) (above : Rights)
    → walk_from n entries a k above ≡ entry_read entries k (index_at n a) above (λ x rights. cond (eqb n 0 || is_large n x) (ends_in (Mapped (page_of n x rights))) (walk_from (n - 1) entries a (bits51_to12 x) rights))
unfolding walk_from
at_level zero entries a k above = refl
at_level (suc n) entries a k above =
    let some : eqb (suc n) 0 ≡ false = ne_eqb (suc n) 0 (λ e. absurd (omega (arith, e))) in
    let one : suc n - 1 ≡ n = omega arith in
    rw (some, one)

-- a level at which the walk goes on has one below it
pub level_below : (n : ℕ) (b : Bool) → (eqb n 0 || b) ≡ false → 1 ≤ n
level_below zero b e = impossible cc
level_below (suc n) b e = omega arith

-- the rest of a walk after v entries
abbrev pub after : ℕ → Walked → Walk
after v w = record { end = w.end; visited = v + length w.visits }

pub after_none : (v : ℕ) (e : End) → after v (ends_in e) ≡ record { end = e; visited = v }
after_none v e = ap (λ (n : ℕ). record { end = e; visited = n }) (add-zero v)

pub after_one : (v k i : ℕ) (w : Walked) → after v (visiting k i w) ≡ after (v + 1) w
after_one v k i w = ap (λ (n : ℕ). record { end = w.end; visited = n }) (omega arith)

-- one turn of the walk, by what the entry says
module _ (v n : ℕ) (entries : List ℕ) (a k : ℕ) (above : Rights) where
  abbrev rest : Walk
  rest = after v (walk_from n entries a k above)

  abbrev x : ℕ
  x = table_entry entries k (index_at n a)

  abbrev rights : Rights
  rights = both_grant above (rights_in x)

  pub not_lent : length entries < 512 * (k + 1) → rest ≡ record { end = NotLent; visited = v }
  not_lent h = rw (at_level n entries a k above, lt-leb (512 * (k + 1)) (length entries) h) (after_none v NotLent)

  module _ (h : 512 * (k + 1) ≤ length entries) where
    lent : is_lent entries k ≡ true
    lent = le-leb (512 * (k + 1)) (length entries) h

    pub grants_none : is_none (rights_in x) ≡ true → rest ≡ record { end = Unmapped; visited = v + 1 }
    grants_none e = rw (at_level n entries a k above, lent, e)

    module _ (e : is_none (rights_in x) ≡ false) where
      pub maps_page : (eqb n 0 || is_large n x) ≡ true → rest ≡ record { end = Mapped (page_of n x rights); visited = v + 1 }
      maps_page p = rw (at_level n entries a k above, lent, e, p)

      pub goes_on : (eqb n 0 || is_large n x) ≡ false → rest ≡ after (v + 1) (walk_from (n - 1) entries a (bits51_to12 x) rights)
      goes_on p = rw (at_level n entries a k above, lent, e, p) (after_one v k (index_at n a) (walk_from (n - 1) entries a (bits51_to12 x) rights))

-- a page, or what follows
abbrev pub page_or : ℕ → (ℕ → Rights → Walked) → ℕ → Rights → Walked
page_or n next x g = cond (is_large n x) (ends_in (Mapped (page_of n x g))) (next x g)

-- what holds of the empty walk, and of every walk from entries 0 on
pub by_address : (P : Walked → Type 0) (entries : List ℕ) (a : ℕ) → P (ends_in Unmapped) → P (walk_from 3 entries a 0 all_rights) → P (walked entries a)
unfolding walked
by_address P entries a high low =
    either_case P (leb (2 ^ 48) a) (ends_in Unmapped) (walk_from 3 entries a 0 all_rights) (λ h. high) (λ l. low)

-- ---- the page of a walk

-- a page of 4096 bytes to 512 GiB, aligned to its size, and in the address space
abbrev pub SoundEnd : End → Type 0
SoundEnd (Mapped m) = (12 ≤ m.exponent) × (m.exponent ≤ 64) × ((region_of m.base m.exponent).first ≡ m.base) × (m.base < 2 ^ 64)
SoundEnd Unmapped = Unit {0}
SoundEnd NotLent = Unit {0}

page_sound : (n x : ℕ) (g : Rights) → n ≤ 3 → SoundEnd (Mapped (page_of n x g))
page_sound n x g h =
    (omega arith, omega arith, ap (λ (r : Range). r.first) (region_again (bits51_to12 x * 4096) (12 + 9 * n)), omega (arith, region_first (bits51_to12 x * 4096) (12 + 9 * n)))

-- whatever the entries say
read_sound : (entries : List ℕ) (k i : ℕ) (above : Rights) (next : ℕ → Rights → Walked)
    → ((x : ℕ) (g : Rights) → SoundEnd (next x g).end) → SoundEnd (entry_read entries k i above next).end
read_sound entries k i above next h =
    either_case (λ (w : Walked). SoundEnd w.end) (is_lent entries k) _ _
    (λ lent.
    either_case (λ (w : Walked). SoundEnd w.end) (is_none (rights_in (table_entry entries k i))) _ _
    (λ none. tt)
    (λ some. h (table_entry entries k i) (both_grant above (rights_in (table_entry entries k i)))))
    (λ missing. tt)

from_sound : (n : ℕ) (entries : List ℕ) (a k : ℕ) (above : Rights) → n ≤ 3 → SoundEnd (walk_from n entries a k above).end
unfolding walk_from
from_sound zero entries a k above h =
    read_sound entries k (index_at zero a) above (λ x g. ends_in (Mapped (page_of zero x g))) (λ x g. page_sound zero x g h)
from_sound (suc n) entries a k above h =
    read_sound entries k (index_at (suc n) a) above (page_or (suc n) (λ x g. walk_from n entries a (bits51_to12 x) g)) (λ x g.
    either_case (λ (w : Walked). SoundEnd w.end) (is_large (suc n) x) (ends_in (Mapped (page_of (suc n) x g))) (walk_from n entries a (bits51_to12 x) g)
    (λ large. page_sound (suc n) x g h)
    (λ small. from_sound n entries a (bits51_to12 x) g (omega arith)))

pub walk_sound : (entries : List ℕ) (a : ℕ) → SoundEnd (walked entries a).end
walk_sound entries a = by_address (λ (w : Walked). SoundEnd w.end) entries a tt (from_sound 3 entries a 0 all_rights (omega arith))

-- only an address below 2 ^ 48 leads to a page
abbrev pub LowEnd : ℕ → End → Type 0
LowEnd a (Mapped m) = a < 2 ^ 48
LowEnd a Unmapped = Unit {0}
LowEnd a NotLent = Unit {0}

low_end : (a : ℕ) (e : End) → a < 2 ^ 48 → LowEnd a e
low_end a (Mapped m) h = h
low_end a Unmapped h = tt
low_end a NotLent h = tt

pub walk_low : (entries : List ℕ) (a : ℕ) → LowEnd a (walked entries a).end
unfolding walked
walk_low entries a =
    either_case (λ (w : Walked). LowEnd a w.end) (leb (2 ^ 48) a) (ends_in Unmapped) (walk_from 3 entries a 0 all_rights) (λ high. tt)
    (λ low. low_end a (walk_from 3 entries a 0 all_rights).end (leb-false (2 ^ 48) a low))
