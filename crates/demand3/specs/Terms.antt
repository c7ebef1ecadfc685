-- What packets are about, as demand 3 needs it. Serves 01, "How much each call must settle".
use Rattle.std.specs.Prelude.{Bool, ℕ}

pub record Terms : Type 1 where
  -- an invalidated range, rounded up to the unit in force
  pub Area : Type 0
  -- the memory that a read or a write is for
  pub Access : Type 0
  -- the range of a Translation Request
  pub Ask : Type 0
  -- a completion with data
  pub Data : Type 0
  -- a cache entry
  pub Entry : Type 0
  -- what overlaps an area: an access, and the unit of an entry
  pub access_in : Area → Access → Bool
  pub entry_in : Area → Entry → Bool
  -- how many bytes a read asks for
  pub wanted : Access → ℕ
  -- how many bytes of data a completion has, and its Byte Count: how many are still due, including its own
  pub size : Data → ℕ
  pub count : Data → ℕ
  -- for this request, after this many bytes of earlier completions, this completion grants the entry
  pub grants : Ask → ℕ → Data → Entry → Bool
  -- the entry translates the whole access, and translates it to this address
  pub serves : Entry → Access → ℕ → Bool
  -- the access was asked for at this address
  pub asked : Access → ℕ → Bool
