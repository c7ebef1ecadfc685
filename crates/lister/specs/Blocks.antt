-- A program feeds an input block by block, writes what is ready after each call, and finishes. For any blocks, its output is the listing of the input. 01, "Listing program".
use Rattle.std.specs.Prelude.{ℕ, ◌+◌, ◌*◌, ◌^◌, ◌≤◌, ◌<◌, ◌≡◌, List, [], ◌∷◌, length, take}
use Rattle.lister.specs.declared.Progress.{Progress}
use Rattle.lister.specs.Stream.{listing, concat}
use Rattle.lister.specs.Pieces.{initial_progress, fed, finished}

-- The parts of the output, one for each block and one at the end: after each call, the bytes that
-- are ready at the start of `out`.
unfoldable pub handed_out : Progress → List ℕ → List ℕ → List (List ℕ) → List (List ℕ)
handed_out from hold out [] =
    let last = finished from hold out in
    take last.0 last.1 ∷ []
handed_out from hold out (b ∷ bs) =
    let step = fed from hold b out in
    take step.0.ready step.2 ∷ handed_out step.0.progress step.1 step.2 bs

unfoldable pub AllAtMost : ℕ → List (List ℕ) → Type 0
AllAtMost n [] = Unit {0}
AllAtMost n (b ∷ bs) = (length b ≤ n) × AllAtMost n bs

-- Blocks of at most n characters, buffers that are large enough for them, and fewer than 2^64 - 1 characters in all.
abbrev pub BlocksFit : ℕ → List ℕ → List ℕ → List (List ℕ) → Type 0
BlocksFit n hold out bs =
    (289 ≤ length hold) × (64 ≤ length out) × (n * 64 ≤ length out) × AllAtMost n bs × (1 + length (concat bs) < 2 ^ 64)

-- the concatenated parts are the listing of the concatenated blocks
abbrev pub AnyBlocks : Type 0
AnyBlocks =
    (n : ℕ) (hold out : List ℕ) (bs : List (List ℕ)) → BlocksFit n hold out bs
    → concat (handed_out initial_progress hold out bs) ≡ listing (concat bs)
