use mathlib.Core.Path.{◌≡◌}
use Prim.Native.Nat.{◌≤◌}
use lib.ListN.{length}
use Rattle.text.proofs.Pairs.{Run}
use Rattle.lister.proofs.hex.run.Given as goal

abbrev pub invariant-loop-i : goal.invariant-loop-i
invariant-loop-i l = (l.i ≤ l.end) × Run l.cs l.i l.bytes × (length l.bytes ≡ length l.initial.bytes)
