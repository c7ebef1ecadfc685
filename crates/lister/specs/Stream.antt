-- The listing of a whole input, read in pieces of any size. 01, "Listing program".
use Rattle.std.specs.Prelude.{ℕ, ◌+◌, cond, List, [], ◌∷◌, ◌++◌, eqb, take}
use Rattle.lister.specs.Line.{line_text}

-- Lines end in a line feed. p is the start of line k, and cs is what comes next. First, the
-- output of the lines that end in cs;
unfoldable pub printed : ℕ → List ℕ → List ℕ → List ℕ
printed k p [] = []
printed k p (c ∷ cs) = cond (eqb c 10) (line_text k p ++ printed (k + 1) [] cs) (printed k (p ++ c ∷ []) cs)

-- then the number of the line that cs leaves unfinished;
unfoldable pub number_after : ℕ → List ℕ → ℕ
number_after k [] = k
number_after k (c ∷ cs) = cond (eqb c 10) (number_after (k + 1) cs) (number_after k cs)

-- and the start of that line
unfoldable pub start_after : List ℕ → List ℕ → List ℕ
start_after p [] = p
start_after p (c ∷ cs) = cond (eqb c 10) (start_after [] cs) (start_after (p ++ c ∷ []) cs)

-- the last line may have no line feed; after a final line feed there is no further line
abbrev pub last_text : ℕ → List ℕ → List ℕ
last_text k [] = []
last_text k (c ∷ cs) = line_text k (c ∷ cs)

unfoldable pub listing : List ℕ → List ℕ
listing cs = printed 1 [] cs ++ last_text (number_after 1 cs) (start_after [] cs)

-- Of a line of more than 288 characters only the first 289 matter: they show that it is too long.
abbrev pub first289 : List ℕ → List ℕ
first289 p = take 289 p

-- the pieces of an input, one after the other
unfoldable pub concat : List (List ℕ) → List ℕ
concat [] = []
concat (b ∷ bs) = b ++ concat bs
