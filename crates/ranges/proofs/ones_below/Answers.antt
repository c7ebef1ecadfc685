use Prim.Native.Nat.{◌-◌}
use native.Mathlib.Omega.{arith}
use lib.Pow.{pow_mono}
use Rattle.lemmas.proofs.Powers.{one_shl}
use Rattle.ranges.proofs.ones_below.Goals as goal

pub overflow_sub-result-else-exponent-eq12 : goal.overflow_sub-result-else-exponent-eq12
overflow_sub-result-else-exponent-eq12 c =
    let a = c.args in
    rw (one_shl 64 (a.exponent - 1) (omega arith)) (pow_mono {i = 12} {j = a.exponent - 1} (omega arith))
