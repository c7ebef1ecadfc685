-- The listing of one line. 01, "Listing program".
use Rattle.std.specs.Prelude.{ℕ, ◌%◌, List, length, ltb, eqb, Err, Ok, Result}
use Rattle.packet.specs.declared.Packet.{Packet}
use Rattle.packet.specs.Numbers.{number_of, refuse, check}
use Rattle.packet.specs.Reading.{reading}
use Rattle.text.specs.Digits.{all_hex, unhex}
use Rattle.rows.specs.Rows.{out_line}
use Rattle.lister.specs.declared.LineError.{LineError}
use Rattle.lister.specs.declared.LineError.TheVariants.{Refused, Unreadable}

-- The length is tested before the characters: a line of more than 288 is refused with 1. A line that is not hex, by its
-- length or one of its characters, is refused with 0. Otherwise its bytes are read as a packet.
unfoldable pub line_read : List ℕ → Result Packet ℕ
line_read cs =
    refuse 1 (ltb 288 (length cs))
    (check 0 (eqb (length cs % 2) 0)
    (check 0 (all_hex cs)
    (reading (unhex cs))))

-- the number of a line without a packet
abbrev pub error_number : LineError → ℕ
error_number (Refused r) = number_of r
error_number Unreadable = 0

-- the result of an answer of the code
abbrev pub line_result : Result Packet LineError → Result Packet ℕ
line_result (Ok p) = Ok p
line_result (Err e) = Err (error_number e)

-- the whole output line of line k
unfoldable pub line_text : ℕ → List ℕ → List ℕ
line_text k cs = out_line k (line_read cs)
