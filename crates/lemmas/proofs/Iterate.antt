-- A loop that steps a state n times.
use mathlib.Core.Path.{◌≡◌, refl, ap, ◌∙◌}
use Prim.Native.Nat.{ℕ, zero, suc, ◌+◌, ◌<◌}
use native.Mathlib.Nat.{lt-suc_self, lt_trans}
use native.Mathlib.Numerals.{add-one}
use Rattle.lemmas.specs.Iterate.{iterate}

module _ {S : Type 0} (step : ℕ → S → S) where
  pub iterate_start : (s : S) → s ≡ iterate step 0 s
  unfolding iterate
  iterate_start s = refl

  -- one turn of a loop: next is the state before it, and y the state after it
  pub iterate_turn : {next y : S} (k : ℕ) (s : S) → next ≡ iterate step k s → y ≡ step k next
      → y ≡ iterate step (k + 1) s
  unfolding iterate
  iterate_turn k s inv e = rw add-one (e ∙ ap (step k) inv)

-- An invariant: what holds of the first state, and is preserved by each step, holds of the last.
pub iterate_invariant : {S : Type 0} (step : ℕ → S → S) (P : S → Type 0) (n : ℕ) (s : S) → P s
    → ((k : ℕ) (r : S) → k < n → P r → P (step k r)) → P (iterate step n s)
unfolding iterate
iterate_invariant step P zero s h f = h
iterate_invariant step P (suc n) s h f = f n (iterate step n s) (lt-suc_self n) (iterate_invariant step P n s h (λ k r l q. f k r (lt_trans l (lt-suc_self n)) q))

-- steps that do the same make the same loop
pub iterate_same : {S : Type 0} (step other : ℕ → S → S) (n : ℕ) (s : S) → ((k : ℕ) (r : S) → k < n → step k r ≡ other k r)
    → iterate step n s ≡ iterate other n s
unfolding iterate
iterate_same step other zero s f = refl
iterate_same step other (suc n) s f =
    f n (iterate step n s) (lt-suc_self n)
    ∙ ap (other n) (iterate_same step other n s (λ k r l. f k r (lt_trans l (lt-suc_self n))))
