-- Laws of the digits at the end of an array of twenty.
use Prim.Native.Nat.{ℕ, zero, suc, ◌+◌, ◌-◌, ◌/◌, ◌%◌, ◌≤◌, zero-le, suc-le-suc}
use mathlib.Core.Path.{◌≡◌}
use mathlib.Core.Bool.{Bool, true, false, cond}
use mathlib.Core.List.{List, [], ◌∷◌, ◌++◌}
use native.Mathlib.Numerals.{add-one}
use native.Mathlib.Omega.{arith}
use lib.Dec.{ltb}
use lib.ListN.{length, drop, length-append, length-replicate}
use lib.Seq.{drop_at}
use Rattle.text.specs.declared.Numeral.{Numeral}
use Rattle.text.specs.Digits.{decimal_in, decimal}
use Rattle.text.specs.Numerals.{zeros, numeral, digits_of}

-- a 64-bit number has at most twenty digits
one_more : (k n : ℕ) (t : Bool) (ds : List ℕ) → length ds ≤ k
    → length (cond t ((48 + n) ∷ []) (ds ++ ((48 + n % 10) ∷ []))) ≤ suc k
one_more k n true ds h = suc-le-suc zero-le
one_more k n false ds h = rw (length-append, add-one) (suc-le-suc h)

decimal_in_short : (k n : ℕ) → length (decimal_in k n) ≤ k
unfolding decimal_in
decimal_in_short zero n = zero-le
decimal_in_short (suc k) n = one_more k n (ltb n 10) (decimal_in k (n / 10)) (decimal_in_short k (n / 10))

pub decimal_short : (n : ℕ) → length (decimal n) ≤ 20
unfolding decimal
decimal_short n = decimal_in_short 20 n

-- the array has twenty elements, and the number's digits are those from `start` on
pub numeral_starts : (n : ℕ) → (numeral n).start + length (decimal n) ≡ 20
unfolding numeral
numeral_starts n = let h = decimal_short n in omega arith

pub numeral_long : (n : ℕ) → length (numeral n).digits ≡ 20
unfolding numeral
numeral_long n = rw (length-append, length-replicate) (numeral_starts n)

numeral_ends : (n : ℕ) → drop (numeral n).start (numeral n).digits ≡ decimal n
unfolding numeral
numeral_ends n = drop_at (zeros (20 - length (decimal n))) (decimal n) (20 - length (decimal n)) (length-replicate (20 - length (decimal n)) 48)

-- what a caller knows of an array of digits: those from its start on are the number's
pub numeral_digits : (n : ℕ) (x : Numeral) → x ≡ numeral n → digits_of x ≡ decimal n
numeral_digits n x e = rw e (numeral_ends n)
