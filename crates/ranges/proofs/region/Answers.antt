use native.Mathlib.Omega.{arith}
use native.Mathlib.Nat.{min-eq_left, min-eq_right, le_of_lt, div-eq_of_lt}
use Rattle.lemmas.proofs.Powers.{one_shl, region_lt}
use Rattle.ranges.specs.Range.{region_of}
use Rattle.ranges.proofs.region.Goals as goal

pub overflow_add-result : goal.overflow_add-result
overflow_add-result c = let a = c.args in
    rw (one_shl 64 a.exponent c.if-exponent-lt64.true) (omega (arith, region_lt 64 a.exponent a.address c.ranges.address.fits (le_of_lt c.if-exponent-lt64.true)))

pub returns-then-exponent-lt64 : goal.returns-then-exponent-lt64
unfolding region_of
returns-then-exponent-lt64 c = rw (one_shl 64 _ c.if-exponent-lt64.true, min-eq_left (le_of_lt c.if-exponent-lt64.true))

pub returns-else-exponent-lt64 : goal.returns-else-exponent-lt64
unfolding region_of
returns-else-exponent-lt64 c = rw (min-eq_right c.if-exponent-lt64.false, div-eq_of_lt c.ranges.address.fits)
