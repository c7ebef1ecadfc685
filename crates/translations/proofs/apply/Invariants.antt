use Rattle.std.proofs.Common.{◌≡◌}
use Rattle.lemmas.specs.Iterate.{iterate}
use Rattle.translations.specs.Fills.{updated_at}
use Rattle.translations.proofs.apply.Given as goal

abbrev pub invariant-loop-j : goal.invariant-loop-j
invariant-loop-j l = l.c ≡ iterate (updated_at l.load.range l.load.stu l.load.e l.load.before l.load.payload.now) l.j l.initial.c
