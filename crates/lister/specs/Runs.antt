-- Bytes decoded from the characters at the start of a list. Serves 01, "Listing program".
use Rattle.std.specs.Prelude.{ℕ, ◌+◌, ◌*◌, ◌≤◌, ◌<◌, ◌≡◌, true, false, ◌&&◌, List, length, take, get_or}
use Rattle.text.specs.Digits.{is_hex, all_hex, unhex}

-- The first n pairs of cs decode to the first n of bytes, and the next pair does not count: it is the 145th, or does
-- not exist, or has a character that is not a hex digit.
abbrev pub HexRun : List ℕ → ℕ → List ℕ → Type 0
HexRun cs n bytes =
    (n ≤ 144)
    × (length bytes ≡ 144)
    × (n * 2 ≤ length cs)
    × (all_hex (take (n * 2) cs) ≡ true)
    × (take n bytes ≡ unhex (take (n * 2) cs))
    × (n < 144 → n * 2 + 1 < length cs → (is_hex (get_or cs (n * 2) 0) && is_hex (get_or cs (n * 2 + 1) 0)) ≡ false)
