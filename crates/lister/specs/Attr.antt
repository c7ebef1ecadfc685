-- The listing does not show Attr. 02, "a".
use Rattle.std.specs.Prelude.{ℕ, ◌≡◌, true, List, length}
use Rattle.packet.specs.SameButAttr.{SameButAttr}
use Rattle.text.specs.Digits.{all_hex, unhex}
use Rattle.lister.specs.Line.{line_text}

-- Two lines of hex whose bytes differ in no bit but Attr have the same output.
abbrev pub AttrNotShown : Type 0
AttrNotShown =
    (k : ℕ) (cs ds : List ℕ) → length cs ≡ length ds → all_hex cs ≡ true → all_hex ds ≡ true
    → SameButAttr (unhex cs) (unhex ds)
    → line_text k cs ≡ line_text k ds
