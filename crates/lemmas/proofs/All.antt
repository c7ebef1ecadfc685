-- A loop that goes up and stops at the first number that fails a test.
use mathlib.Core.Path.{◌≡◌, refl}
use mathlib.Core.Bool.{Bool, true, false}
use mathlib.Core.Logic.{⊎_elim}
use Prim.Native.Nat.{ℕ, zero, suc, ◌+◌, ◌<◌}
use native.Mathlib.Nat.{not-suc-le-zero, le_of_suc-le-suc, eq-or-lt_of_le}
use native.Mathlib.Numerals.{add-one}
use Rattle.lemmas.proofs.Cases.{and-false}
use Rattle.lemmas.specs.All.{all_below}

-- invariants of such a loop: at its start, after a turn, and where it stops
module _ (p : ℕ → Bool) where
  pub all_start : all_below p 0 ≡ true
  unfolding all_below
  all_start = refl

  pub all_turn : (k : ℕ) → all_below p k ≡ true → p k ≡ true → all_below p (k + 1) ≡ true
  unfolding all_below
  all_turn k inv e = rw (add-one, inv, e)

  pub all_stop : (k n : ℕ) → k < n → p k ≡ false → all_below p n ≡ false
  unfolding all_below
  all_stop k zero h e = absurd (not-suc-le-zero h)
  all_stop k (suc n) h e =
      ⊎_elim
      (λ (s : k ≡ n). rw (← s, e) (and-false (all_below p k)))
      (λ (l : k < n). rw (all_stop k n l e))
      (eq-or-lt_of_le (le_of_suc-le-suc h))
