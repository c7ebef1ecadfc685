use Rattle.std.proofs.Common.{take}
use Rattle.test_records.specs.Written.{Adds, hex_text}
use Rattle.test_records.proofs.output.Output.hex.Given as goal

abbrev pub invariant-loop-b : goal.invariant-loop-b
invariant-loop-b l = Adds (hex_text (take l.b-index l.bytes)) l.initial.self l.self
