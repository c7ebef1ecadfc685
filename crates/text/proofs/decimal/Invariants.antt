use Rattle.text.proofs.Writing.{Held}
use Rattle.text.proofs.decimal.Given as goal

abbrev pub invariant-loop-start : goal.invariant-loop-start
invariant-loop-start l = Held l.n l.digits l.start l.rest

abbrev pub decreases-loop-start : goal.decreases-loop-start
decreases-loop-start l = l.start
