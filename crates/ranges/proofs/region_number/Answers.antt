use mathlib.Core.Path.{sym}
use native.Mathlib.Nat.{div-eq_of_lt, lt_of_lt_of_le}
use lib.Pow.{pow_mono}
use Rattle.ranges.proofs.region_number.Goals as goal

pub returns-else-exponent-lt64 : goal.returns-else-exponent-lt64
returns-else-exponent-lt64 c = sym (div-eq_of_lt (lt_of_lt_of_le c.ranges.address.fits (pow_mono c.if-exponent-lt64.false)))
