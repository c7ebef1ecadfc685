-- The table of the hex digits.
use Rattle.std.proofs.Common.{ℕ, zero, suc, ◌+◌, ◌<◌, ◌≡◌, List, [], ◌∷◌, sym, ap, ◌∙◌, get_or, zero-add, suc-add, add-suc, add-zero}
use native.Mathlib.Nat.{not-suc-le-zero, le_of_suc-le-suc}
use Rattle.text.specs.Digits.{hex_digit}

digits_from : ℕ → ℕ → List ℕ
digits_from zero c = []
digits_from (suc n) c = hex_digit c ∷ digits_from n (suc c)

digits_at : (n c i : ℕ) → i < n → get_or (digits_from n c) i 0 ≡ hex_digit (c + i)
unfolding digits_from
digits_at zero c i h = absurd (not-suc-le-zero h)
digits_at (suc n) c zero h = ap hex_digit (sym (add-zero c))
digits_at (suc n) c (suc i) h =
    digits_at n (suc c) i (le_of_suc-le-suc h) ∙ ap hex_digit (suc-add c i ∙ sym (add-suc c i))

-- 0 to 9 and A to F
abbrev pub table : List ℕ
table = 48 ∷ 49 ∷ 50 ∷ 51 ∷ 52 ∷ 53 ∷ 54 ∷ 55 ∷ 56 ∷ 57 ∷ 65 ∷ 66 ∷ 67 ∷ 68 ∷ 69 ∷ 70 ∷ []

pub digit_at : (i : ℕ) → i < 16 → get_or table i 0 ≡ hex_digit i
unfolding digits_from
digit_at i h = digits_at 16 0 i h ∙ ap hex_digit (zero-add i)
