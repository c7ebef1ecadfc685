-- Text written into a lent buffer, as far as it has room. Serves 01, "Bench examples".
use Rattle.std.specs.Prelude.{ℕ, ◌/◌, ◌%◌, ◌≡◌, List, [], ◌∷◌, ◌++◌, length, take}
use Rattle.text.specs.Digits.{hex_digit}
use Rattle.test_records.specs.declared.output.Output.{Output}

-- what has been written
abbrev pub written : Output → List ℕ
written o = take o.at o.space.now

-- the text follows what was written, as far as there is room; the buffer is the same, and as long
abbrev pub Adds : List ℕ → Output → Output → Type 0
Adds s o o' =
    (o'.space.ghost_name ≡ o.space.ghost_name)
    × (length o'.space.now ≡ length o.space.now)
    × (written o' ≡ take (length o.space.now) (written o ++ s))

-- two digits for each byte
unfoldable pub hex_text : List ℕ → List ℕ
hex_text [] = []
hex_text (b ∷ bs) = hex_digit (b / 16) ∷ hex_digit (b % 16) ∷ hex_text bs

-- some text follows what was written
unfoldable pub AddsSome : Output → Output → Type 0
AddsSome o o' = (s : List ℕ) × Adds s o o'
