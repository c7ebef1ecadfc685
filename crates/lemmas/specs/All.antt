-- Does a test hold for every number below n? Serves 01, "Completion for a TR, data".
use Rattle.std.specs.Prelude.{Bool, true, ◌&&◌, ℕ, zero, suc}

unfoldable pub all_below : (ℕ → Bool) → ℕ → Bool
all_below p zero = true
all_below p (suc k) = all_below p k && p k
