-- A step function iterated n times; step k gets its number k. Serves 01, "Completion for a TR, data".
use Rattle.std.specs.Prelude.{ℕ, zero, suc}

unfoldable pub iterate : {S : Type 0} → (ℕ → S → S) → ℕ → S → S
iterate step zero s = s
iterate step (suc k) s = step k (iterate step k s)
