use native.Mathlib.Omega.{arith}
use Rattle.text.proofs.HexWriting.{one_more, all_written}
use Rattle.text.proofs.hex.Goals as goal

pub loop-i-preserved : goal.loop-i-preserved
loop-i-preserved g c =
    one_more _ _ _ _ _ _ c.loop-i.invariant (omega arith) (omega arith) c.hex_digit.ensures

pub returns : goal.returns
returns g c = all_written _ _ _ _ _ c.loop-i.invariant (omega arith)
