-- Text in a buffer at an index. Serves 01, "Listing program".
use Rattle.std.specs.Prelude.{ℕ, ◌+◌, ◌≡◌, List, ◌++◌, length, take, drop}

-- l with s from index at on
abbrev pub lay : ℕ → List ℕ → List ℕ → List ℕ
lay at s l = take at l ++ s ++ drop (at + length s) l

-- s was written into l at an index, which gives l'; next is the index after it
abbrev pub Laid : ℕ → List ℕ → List ℕ → ℕ → List ℕ → Type 0
Laid at s l next l' = (next ≡ at + length s) × (l' ≡ lay at s l)
