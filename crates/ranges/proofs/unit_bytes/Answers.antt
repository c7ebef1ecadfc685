use native.Mathlib.Omega.{arith}
use lib.Pow.{pow_pos, pow_mono}
use Prim.Native.Nat.{◌+◌, ◌%◌, ◌<◌, ◌≤◌}
use mathlib.Core.Path.{refl}
use Rattle.lemmas.proofs.Powers.{one_shl}
use Rattle.ranges.proofs.unit_bytes.Goals as goal

pub returns : goal.returns
returns c = let stu = c.args.stu in
    let few : 12 + stu % 32 < 64 = omega arith in
    let most : 12 + stu % 32 ≤ 43 = omega arith in
    rw (c.unit_exponent.ensures, one_shl 64 (12 + stu % 32) few) (refl, pow_pos (12 + stu % 32), pow_mono most)
