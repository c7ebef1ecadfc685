-- The invariant of the tables in every reachable state. 01, "The Function's tables".
use Rattle.std.specs.Prelude.{◌≡◌, List, ◌≤◌, length}
use Rattle.atc.specs.declared.Cache.{Cache}
use Rattle.atc.specs.Cache.{SoundCache}
use Rattle.tags.specs.declared.TagState.{TagState}
use Rattle.pages.specs.declared.Pages.{Pages}
use Rattle.pages.specs.Pages.{used_credits}
use Rattle.state.specs.declared.Function.{Function}

-- 32 groups, and at most as many credits in use as allocated; at most 512 are allocated
pub record SoundPages (p : Pages) : Type 0 where
  pub groups : length p.groups ≡ 32
  pub granted : p.allocation ≤ 512
  pub within : used_credits p.groups ≤ p.allocation

-- a sound cache, 32 tags and sound pages
pub record SoundTables (c : Cache) (table : List TagState) (p : Pages) : Type 0 where
  pub cache : SoundCache c
  pub tags : length table ≡ 32
  pub pages : SoundPages p

abbrev pub Sound : Function → Type 0
Sound f = SoundTables f.cache f.tags f.pages
