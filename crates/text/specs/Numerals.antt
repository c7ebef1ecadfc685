-- The digits of a number at the end of an array of twenty. Serves 01, "Listing program".
use Rattle.std.specs.Prelude.{ℕ, ◌-◌, List, ◌++◌, length, drop, replicate}
use Rattle.text.specs.Digits.{decimal}
use Rattle.text.specs.declared.Numeral.{Numeral}

abbrev pub zeros : ℕ → List ℕ
zeros n = replicate n 48

-- the digits of a number, with zeros before them up to twenty
abbrev pub numeral_at : ℕ → List ℕ → Numeral
numeral_at start ds = record { digits = zeros start ++ ds; start = start }

unfoldable pub numeral : ℕ → Numeral
numeral n = numeral_at (20 - length (decimal n)) (decimal n)

-- the digits from its start on
abbrev pub digits_of : Numeral → List ℕ
digits_of x = drop x.start x.digits
