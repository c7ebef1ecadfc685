-- What is read of a record: past its end every byte is 0. Serves 01, "Bench examples".
use Rattle.std.specs.Prelude.{ℕ, List, [], ◌∷◌, ◌++◌, take, replicate}

-- the first byte, or 0 where there is none
abbrev pub first_byte : List ℕ → ℕ
first_byte [] = 0
first_byte (b ∷ bs) = b

-- the first n bytes, with zeros past the end
abbrev pub first_bytes : ℕ → List ℕ → List ℕ
first_bytes n bs = take n (bs ++ replicate n 0)
