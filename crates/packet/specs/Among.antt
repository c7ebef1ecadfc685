-- Is a number on a list? Serves 01, "The seventeen numbers".
use Rattle.std.specs.Prelude.{Bool, false, ◌||◌, List, [], ◌∷◌, ℕ, eqb}

abbrev pub is_among : ℕ → List ℕ → Bool
is_among n [] = false
is_among n (m ∷ l) = eqb n m || is_among n l
