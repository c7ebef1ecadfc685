-- Lists of bytes, as a fact and as a test. Serves 01, "The seven packets".
use Rattle.std.specs.Prelude.{Bool, true, ◌&&◌, List, [], ◌∷◌, ℕ, ◌<◌, ltb}
use Rattle.packet.specs.Frames.{byte}

-- every byte is below 256
abbrev pub Bytes : List ℕ → Type 0
Bytes b = (i : ℕ) → byte b i < 256

-- is every element below 256?
abbrev pub are_bytes : List ℕ → Bool
are_bytes [] = true
are_bytes (x ∷ l) = ltb x 256 && are_bytes l
