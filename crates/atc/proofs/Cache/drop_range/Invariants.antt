use Rattle.std.proofs.Common.{◌≡◌}
use Rattle.lemmas.proofs.Maps.{map_to}
use Rattle.atc.specs.Cache.{entry_dropped}
use Rattle.atc.proofs.Cache.drop_range.Given as goal

abbrev pub invariant-loop-slot : goal.invariant-loop-slot
invariant-loop-slot l = l.slot-items ≡ map_to (entry_dropped l.stu l.range) l.slot-index l.initial.slot-items
