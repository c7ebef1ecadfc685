use Prim.Native.Nat.{◌-◌, ◌≤◌}
use lib.ListN.{length, take}
use Rattle.std.specs.Io.KnownBytes.{Consumes}
use Rattle.test_lines.proofs.read_input.Given as goal

abbrev pub invariant-loop-done : goal.invariant-loop-done
invariant-loop-done g l =
    (l.done ≤ length l.input)
    × Consumes (g.R.Read.remaining l.initial.reader) (g.R.Read.remaining l.reader) (take l.done l.input)

abbrev pub decreases-loop-done : goal.decreases-loop-done
decreases-loop-done g l = length l.input - l.done
