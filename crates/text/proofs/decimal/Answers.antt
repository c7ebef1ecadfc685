use native.Mathlib.Omega.{arith}
use Rattle.text.proofs.Writing.{held_more}
use Rattle.text.proofs.decimal.Goals as goal

pub loop-start-preserved : goal.loop-start-preserved
loop-start-preserved c = held_more _ _ _ _ c.loop-start.invariant (omega arith) (omega arith)
