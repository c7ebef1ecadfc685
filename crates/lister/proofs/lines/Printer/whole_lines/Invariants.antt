use mathlib.Core.Path.{◌≡◌}
use mathlib.Core.List.{[]}
use Prim.Native.Nat.{◌+◌, ◌-◌, ◌*◌, ◌≤◌}
use lib.ListN.{length, take}
use Rattle.rows.specs.Places.{Laid}
use Rattle.lister.specs.Stream.{printed}
use Rattle.lister.proofs.Feeds.{WholeLines}
use Rattle.lister.proofs.lines.Printer.whole_lines.Given as goal

abbrev pub invariant-loop-taken : goal.invariant-loop-taken
invariant-loop-taken l =
    (l.self.out.ghost_name ≡ l.initial.self.out.ghost_name)
    × WholeLines l.initial.self.number l.cs l.taken l.self.number
    × Laid l.initial.self.at (printed l.initial.self.number [] (take l.taken l.cs)) l.initial.self.out.now l.self.at l.self.out.now
    × (l.self.at ≤ l.initial.self.at + l.taken * 64)
    × (l.self.number ≤ l.initial.self.number + l.taken)
    × (length l.self.out.now ≡ length l.initial.self.out.now)
    × (length l.bytes ≡ 144)

abbrev pub decreases-loop-taken : goal.decreases-loop-taken
decreases-loop-taken l = length l.cs - l.taken
