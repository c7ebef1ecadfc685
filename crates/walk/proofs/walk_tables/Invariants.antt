use mathlib.Core.Path.{◌≡◌}
use Prim.Native.Nat.{◌-◌, ◌^◌, ◌<◌, ◌≤◌}
use Rattle.walk.specs.Walk.{walk_from, walked, counted}
use Rattle.walk.proofs.Laws.{after}
use Rattle.walk.proofs.walk_tables.Given as goal

abbrev pub invariant-loop-level : goal.invariant-loop-level
invariant-loop-level l =
    (l.visited ≡ l.level-index) × (l.visited ≤ 3) × (l.k < 2 ^ 40) × (counted (walked l.entries l.address) ≡ after l.visited (walk_from (3 - l.visited) l.entries l.address l.k l.granted))
