use Rattle.std.proofs.Common.{◌≡◌}
use Rattle.lemmas.proofs.Maps.{map_to}
use Rattle.tags.specs.Tags.{invalidated_if}
use Rattle.tags.proofs.invalidate.Given as goal

abbrev pub invariant-loop-o : goal.invariant-loop-o
invariant-loop-o l = l.tags ≡ map_to (invalidated_if l.range l.itag) l.o-index l.initial.tags
