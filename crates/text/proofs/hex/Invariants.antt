use Rattle.text.proofs.HexWriting.{Written}
use Rattle.text.proofs.hex.Given as goal

abbrev pub invariant-loop-i : goal.invariant-loop-i
invariant-loop-i g l = Written g.row.N l.n l.digits l.i l.rest
