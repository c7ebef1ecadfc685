-- The effect of one block of the input. Serves 01, "Listing program".
use Rattle.std.specs.Prelude.{ℕ, ◌-◌, ◌/◌, ◌^◌, ◌≤◌, ◌<◌, min, ◌≡◌, Bool, true, cond, not, ◌&&◌, List, [], ◌∷◌, ltb, eqb, length, take, get_or}
use Rattle.lister.specs.declared.Progress.{Progress}
use Rattle.lister.specs.declared.Fed.{Fed}
use Rattle.rows.specs.Rows.{at_start, row_in}
use Rattle.lister.specs.Stream.{printed, number_after, start_after, last_text, first289}

-- before the first block: line 1, with no character kept
abbrev pub initial_progress : Progress
initial_progress = record { number = 1; held = 0 }

-- the kept start of the unfinished line
abbrev pub start_in : ℕ → List ℕ → List ℕ
start_in held hold = take (min held 289) hold

-- how many of n characters are taken: each needs 64 bytes of room, and each line a number below 2^64
abbrev pub takes : ℕ → ℕ → ℕ → ℕ
takes k n room = min (min n (room / 64)) (2 ^ 64 - 1 - k)

-- after taking the t characters b, with p kept before: the result, and the new contents of hold and out
abbrev pub left : ℕ → List ℕ → List ℕ → List ℕ → List ℕ → ℕ → Fed × List ℕ × List ℕ
left k p hold b out t =
    let start = at_start (first289 (start_after p b)) hold in
    let text = at_start (printed k p b) out in
    (record { progress = record { number = number_after k b; held = start.0 }; taken = t; ready = text.0 }, start.1, text.1)

abbrev pub left_of : Progress → List ℕ → List ℕ → List ℕ → ℕ → Fed × List ℕ × List ℕ
left_of from hold block out t = left from.number (start_in from.held hold) hold (take t block) out t

-- with a hold of fewer than 289 characters nothing is taken
unfoldable pub fed : Progress → List ℕ → List ℕ → List ℕ → Fed × List ℕ × List ℕ
fed from hold block out =
    left_of from hold block out (cond (ltb (length hold) 289) 0 (takes from.number (length block) (length out)))

-- the last line, if it has no line feed; nothing without room for 64 bytes
unfoldable pub finished : Progress → List ℕ → List ℕ → ℕ × List ℕ
finished from hold out = row_in (last_text from.number (start_in from.held hold)) out

unfoldable pub no_feed : List ℕ → Bool
no_feed [] = true
no_feed (c ∷ cs) = not (eqb c 10) && no_feed cs

-- n is the index of the first line feed, or the length of a list without one
abbrev pub LineEnd : List ℕ → ℕ → Type 0
LineEnd cs n = (n ≤ length cs) × (no_feed (take n cs) ≡ true) × (n < length cs → get_or cs n 0 ≡ 10)
