-- Numbers as text: hex read in either case and written in upper case, decimal with no leading zero. 01, "Listing program".
use Rattle.std.specs.Prelude.{ℕ, zero, suc, ◌+◌, ◌-◌, ◌*◌, ◌/◌, ◌%◌, Bool, true, cond, ◌&&◌, List, [], ◌∷◌, ◌++◌, ltb, leb, Option, Some, None}

-- the value of a hex digit, or 16 for any other character
abbrev pub hex_value : ℕ → ℕ
hex_value c =
    cond (leb 48 c && leb c 57) (c - 48)
    (cond (leb 65 c && leb c 70) (c - 55)
    (cond (leb 97 c && leb c 102) (c - 87)
    16))

-- the same, with None for any other character
abbrev pub hex_value_of : ℕ → Option ℕ
hex_value_of c = cond (ltb (hex_value c) 16) (Some (hex_value c)) None

-- the values of n characters from c on, and of all 256
unfoldable pub values_from : ℕ → ℕ → List ℕ
values_from zero c = []
values_from (suc n) c = hex_value c ∷ values_from n (suc c)

unfoldable pub hex_values : List ℕ
hex_values = values_from 256 0

abbrev pub is_hex : ℕ → Bool
is_hex c = ltb (hex_value c) 16

unfoldable pub all_hex : List ℕ → Bool
all_hex [] = true
all_hex (c ∷ cs) = is_hex c && all_hex cs

-- two digits per byte
unfoldable pub unhex : List ℕ → List ℕ
unhex [] = []
unhex (c ∷ []) = []
unhex (c ∷ d ∷ cs) = (hex_value c * 16 + hex_value d) ∷ unhex cs

abbrev pub hex_digit : ℕ → ℕ
hex_digit n = cond (ltb n 10) (48 + n) (55 + n)

-- the last k digits
unfoldable pub hex_in : ℕ → ℕ → List ℕ
hex_in zero n = []
hex_in (suc k) n = hex_in k (n / 16) ++ (hex_digit (n % 16) ∷ [])

abbrev pub hex4 : ℕ → List ℕ
hex4 n = hex_digit (n / 4096 % 16) ∷ hex_digit (n / 256 % 16) ∷ hex_digit (n / 16 % 16) ∷ hex_digit (n % 16) ∷ []

abbrev pub hex8 : ℕ → List ℕ
hex8 n = hex4 (n / 65536) ++ hex4 (n % 65536)

-- at most k digits; a 64-bit number has at most 20
unfoldable pub decimal_in : ℕ → ℕ → List ℕ
decimal_in zero n = []
decimal_in (suc k) n = cond (ltb n 10) ((48 + n) ∷ []) (decimal_in k (n / 10) ++ ((48 + n % 10) ∷ []))

unfoldable pub decimal : ℕ → List ℕ
decimal n = decimal_in 20 n
