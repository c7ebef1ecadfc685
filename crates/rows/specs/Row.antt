-- A text written by a row. Serves 01, "Listing program".
use Rattle.std.specs.Prelude.{ℕ, ◌≡◌, List}
use Rattle.rows.specs.declared.put.Row.{Row}
use Rattle.rows.specs.Places.{Laid}

-- the text was written to the row's buffer at its index, which went on by it
abbrev pub Puts : List ℕ → Row → Row → Type 0
Puts s r r' = (r'.out.ghost_name ≡ r.out.ghost_name) × Laid r.at s r.out.now r'.at r'.out.now
