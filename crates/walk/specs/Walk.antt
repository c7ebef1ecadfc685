-- The page walk: an address goes down four levels of tables, all in one lent list of entries. 02, "b".
use Rattle.std.specs.Prelude.{Bool, true, cond, not, ◌&&◌, ◌||◌, List, [], ◌∷◌, ℕ, zero, suc, ◌+◌, ◌*◌, ◌/◌, ◌%◌, ◌^◌, eqb, leb, get_or, length}
use Rattle.ranges.specs.Size.{bit}
use Rattle.ranges.specs.Range.{region_of}
use Rattle.walk.specs.declared.Rights.{Rights}
use Rattle.walk.specs.declared.Mapping.{Mapping}
use Rattle.walk.specs.declared.End.{End}
use Rattle.walk.specs.declared.End.TheVariants.{Mapped, Unmapped, NotLent}
use Rattle.walk.specs.declared.Walk.{Walk}
use Rattle.walk.specs.declared.Level.{Level}
use Rattle.walk.specs.declared.Level.TheVariants.{One, Two, Three, Four}

-- ---- a table entry

-- R in bit 0, W in bit 1
abbrev pub rights_in : ℕ → Rights
rights_in x = record { r = eqb (x % 2) 1; w = bit x 1 }

-- which table comes next, or which page of 4096 bytes is meant
abbrev pub bits51_to12 : ℕ → ℕ
bits51_to12 x = x / 4096 % 2 ^ 40

-- ---- rights

abbrev pub all_rights : Rights
all_rights = record { r = true; w = true }

abbrev pub is_none : Rights → Bool
is_none g = not (g.r || g.w)

-- what both grant
abbrev pub both_grant : Rights → Rights → Rights
both_grant g h = record { r = g.r && h.r; w = g.w && h.w }

-- ---- tables and levels: n is the number of levels below, 3, 2, 1 and 0 at levels 1, 2, 3 and 4

-- table k is entries 512 k to 512 k + 511; it is lent only as a whole
abbrev pub is_lent : List ℕ → ℕ → Bool
is_lent entries k = leb (512 * (k + 1)) (length entries)

-- one entry covers 2 ^ 39, 2 ^ 30, 2 ^ 21 or 2 ^ 12 bytes, from level 1 down
abbrev pub covered_exponent : ℕ → ℕ
covered_exponent n = 12 + 9 * n

-- the index in a table of that level: bits 47:39, 38:30, 29:21 or 20:12 of the address
abbrev pub index_at : ℕ → ℕ → ℕ
index_at n a = a / 2 ^ covered_exponent n % 512

abbrev pub table_entry : List ℕ → ℕ → ℕ → ℕ
table_entry entries k i = get_or entries (512 * k + i) 0

-- bit 7 counts only at levels 2 and 3: the entry then maps a page of 1 GiB or 2 MiB
abbrev pub is_large : ℕ → ℕ → Bool
is_large n x = (eqb n 1 || eqb n 2) && bit x 7

-- a level of the code, as the number of levels below
abbrev pub below : Level → ℕ
below One = 3
below Two = 2
below Three = 1
below Four = 0

-- the page that an entry maps; bits of its address below its size are ignored
abbrev pub page_of : ℕ → ℕ → Rights → Mapping
page_of n x rights =
    record {
      base = (region_of (bits51_to12 x * 4096) (covered_exponent n)).first;
      exponent = covered_exponent n;
      rights = rights;
    }

-- ---- the walk: the entries that it reads, in order, and how it ends

pub record Visit : Type 0 where
  pub table : ℕ
  pub index : ℕ

pub record Walked : Type 0 where
  pub visits : List Visit
  pub end : End

-- no further entry is read
abbrev pub ends_in : End → Walked
ends_in e = record { visits = []; end = e }

-- one entry is read before the rest of the walk
abbrev pub visiting : ℕ → ℕ → Walked → Walked
visiting k i rest = record { visits = record { table = k; index = i } ∷ rest.visits; end = rest.end }

-- Entry i of table k is read if the table is lent. If it grants neither right the walk ends there. Otherwise `next` follows,
-- with the entry, and with the rights that it grants together with the entries above it.
abbrev pub entry_read : List ℕ → ℕ → ℕ → Rights → (ℕ → Rights → Walked) → Walked
entry_read entries k i above next =
    cond (is_lent entries k)
    (visiting k i
    (cond (is_none (rights_in (table_entry entries k i))) (ends_in Unmapped)
    (next (table_entry entries k i) (both_grant above (rights_in (table_entry entries k i))))))
    (ends_in NotLent)

-- the walk from table k on, at a level with n levels below; `above` is what the entries above it grant
unfoldable pub walk_from : ℕ → List ℕ → ℕ → ℕ → Rights → Walked
walk_from zero entries a k above =
    entry_read entries k (index_at zero a) above (λ x rights. ends_in (Mapped (page_of zero x rights)))
walk_from (suc n) entries a k above =
    entry_read entries k (index_at (suc n) a) above (λ x rights.
    cond (is_large (suc n) x) (ends_in (Mapped (page_of (suc n) x rights)))
    (walk_from n entries a (bits51_to12 x) rights))

-- an address of more than 48 bits is not walked; any other is, from table 0 on
unfoldable pub walked : List ℕ → ℕ → Walked
walked entries a = cond (leb (2 ^ 48) a) (ends_in Unmapped) (walk_from 3 entries a 0 all_rights)

-- the answer of the code: how the walk ends, and how many entries it read
abbrev pub counted : Walked → Walk
counted w = record { end = w.end; visited = length w.visits }
