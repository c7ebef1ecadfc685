-- The contents of the table of values.
use Prim.Native.Nat.{ℕ, zero, suc, ◌+◌, ◌<◌}
use mathlib.Core.Path.{◌≡◌, sym, ap, ◌∙◌}
use native.Mathlib.Nat.{not-suc-le-zero, le_of_suc-le-suc, add-zero, zero-add, add-suc, suc-add}
use lib.ListN.{get_or}
use Rattle.text.specs.Digits.{hex_value, values_from, hex_values}

values_at : (n c i : ℕ) → i < n → get_or (values_from n c) i 0 ≡ hex_value (c + i)
unfolding values_from
values_at zero c i h = absurd (not-suc-le-zero h)
values_at (suc n) c zero h = ap hex_value (sym (add-zero c))
values_at (suc n) c (suc i) h =
    values_at n (suc c) i (le_of_suc-le-suc h) ∙ ap hex_value (suc-add c i ∙ sym (add-suc c i))

pub value_of : (c : ℕ) → c < 256 → get_or hex_values c 0 ≡ hex_value c
unfolding hex_values
value_of c h = values_at 256 0 c h ∙ ap hex_value (zero-add c)
