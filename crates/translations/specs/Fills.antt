-- What a completion that fits does to the cache and to its request. 01, "Completion for a TR, data".
use Rattle.std.specs.Prelude.{Bool, cond, ◌||◌, List, ℕ, ◌+◌, ◌-◌, ◌*◌, ◌/◌, ◌^◌, ltb, length}
use Rattle.lemmas.specs.Iterate.{iterate}
use Rattle.ranges.specs.declared.Range.{Range}
use Rattle.ranges.specs.declared.Translation.{Translation}
use Rattle.ranges.specs.Range.{unit_bytes, unit_count, relocated}
use Rattle.tlp.specs.Translations.{translation_at}
use Rattle.atc.specs.declared.Entry.{Entry}
use Rattle.atc.specs.declared.Cache.{Cache}
use Rattle.atc.specs.Cache.{filled_with, unit_dropped}
use Rattle.tags.specs.declared.PendingTranslation.{PendingTranslation}
use Rattle.tags.specs.Tags.{translation_range}
use Rattle.translations.specs.Fits.{common_size, exponent_or0, received_count}

-- is R or W set?
abbrev pub allows_access : Translation → Bool
allows_access x = x.r || x.w

-- the entry of a unit: its address has the same offset in the translated region, or is 0 if U
-- is set; R, W, N and U as given
abbrev pub entry_of : Translation → ℕ → ℕ → Entry
entry_of x e unit =
    record {
      r = x.r;
      w = x.w;
      n = x.n;
      u = x.u;
      unit = unit;
      to = cond x.u 0 (relocated x.base unit e);
    }

-- if R or W is set the unit's entry is stored; if both are clear it is deleted
unfoldable pub unit_updated : Translation → ℕ → ℕ → Cache → Cache
unit_updated x e unit c = cond (allows_access x) (filled_with (entry_of x e unit) c) (unit_dropped unit c)

-- the index of the translation that covers a unit; region 0 holds the first unit of the request
abbrev pub region_index : ℕ → ℕ → ℕ → ℕ
region_index first e unit = unit / 2 ^ e - first / 2 ^ e

-- the unit is updated if this packet covers it; `before` translations came in an earlier packet
unfoldable pub updated_if_covered : ℕ → ℕ → ℕ → ℕ → List ℕ → Cache → Cache
updated_if_covered first e before unit payload c =
    cond (ltb (region_index first e unit) before) c
    (cond (ltb (region_index first e unit - before) (length payload / 8))
    (unit_updated (translation_at payload (region_index first e unit - before)) e unit c)
    c)

-- unit j of the range is updated; a range that is cut off at the top of the address space has fewer units
unfoldable pub updated_at : Range → ℕ → ℕ → ℕ → List ℕ → ℕ → Cache → Cache
updated_at range stu e before payload j c =
    cond (ltb range.last (range.first + j * unit_bytes stu)) c
    (updated_if_covered range.first e before (range.first + j * unit_bytes stu) payload c)

-- each unit of the range is updated, in ascending order
unfoldable pub applied : PendingTranslation → List ℕ → Cache → Cache
applied t payload c =
    iterate (updated_at (translation_range t) t.stu (exponent_or0 (common_size t payload)) (received_count t) payload)
    (unit_count t.further) c

-- the request after the first of two packets
abbrev pub after_first : PendingTranslation → ℕ → List ℕ → PendingTranslation
after_first t count payload =
    record {
      address = t.address;
      further = t.further;
      stu = t.stu;
      stale = t.stale;
      size = exponent_or0 (common_size t payload);
      whole = count;
      due = count - length payload;
    }
