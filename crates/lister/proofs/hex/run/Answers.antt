use mathlib.Core.Path.{refl}
use Prim.Native.Nat.{◌+◌, ◌*◌, ◌<◌}
use native.Mathlib.Omega.{arith}
use lib.ListN.{length, length-set}
use Rattle.text.proofs.Pairs.{none_spelled, turn}
use Rattle.lister.proofs.hex.run.Goals as goal

pub loop-i-init : goal.loop-i-init
loop-i-init c =
    (omega arith, none_spelled c.args.cs.now c.args.bytes.now, refl)

pub loop-i-preserved : goal.loop-i-preserved
loop-i-preserved c =
    let cs = c.args.cs.now in
    let i = c.loop-i.i in
    let r = c.loop-i.invariant.1 in
    let more : i * 2 + 1 < length cs = omega (arith, c.loop-i-test.true, c.most-end.ensures) in
    let high = c.value-high in
    let low = c.value-low in (
      omega arith,
      turn cs c.loop-i.bytes i r more high.result low.result (omega arith) high.ensures low.ensures c.if-high-gt15.false c.if-low-gt15.false,
      simp length-set c.loop-i.invariant.2,
    )
