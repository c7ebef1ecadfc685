use mathlib.Core.Path.{◌≡◌}
use Prim.Native.Nat.{◌-◌}
use Rattle.ranges.specs.Size.{lowest_zero}
use Rattle.ranges.proofs.lowest_zero.Given as goal

abbrev pub invariant-loop-b : goal.invariant-loop-b
invariant-loop-b l = lowest_zero 52 12 l.x ≡ lowest_zero (64 - l.b) l.b l.x
