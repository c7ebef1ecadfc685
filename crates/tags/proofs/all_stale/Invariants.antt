use Rattle.std.proofs.Common.{◌≡◌}
use Rattle.lemmas.proofs.Maps.{map_to}
use Rattle.tags.specs.Tags.{stale_state}
use Rattle.tags.proofs.all_stale.Given as goal

abbrev pub invariant-loop-o : goal.invariant-loop-o
invariant-loop-o l = l.tags ≡ map_to stale_state l.o-index l.initial.tags
