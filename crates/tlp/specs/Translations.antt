-- The translations that a payload holds. 01, "Completion for a TR, data".
use Rattle.std.specs.Prelude.{List, ℕ}
use Rattle.packet.specs.Reading.{qword_at}
use Rattle.ranges.specs.declared.Translation.{Translation}
use Rattle.ranges.specs.Size.{translation_of}

-- translation k
unfoldable pub translation_at : List ℕ → ℕ → Translation
translation_at payload k = translation_of (qword_at payload k)
