use Rattle.std.proofs.Common.{take}
use Rattle.test_records.specs.Written.{Adds}
use Rattle.test_records.proofs.output.Output.text.Given as goal

abbrev pub invariant-loop-c : goal.invariant-loop-c
invariant-loop-c l = Adds (take l.c-index l.characters) l.initial.self l.self
