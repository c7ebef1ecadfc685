use mathlib.Core.Path.{refl}
use mathlib.Core.List.{[], ◌∷◌}
use Prim.Native.Nat.{◌≤◌}
use native.Mathlib.Omega.{arith}
use lib.ListN.{length}
use Rattle.text.specs.Digits.{decimal}
use Rattle.rows.proofs.Laying.{put_three}
use Rattle.rows.proofs.put.Row.bad.Goals as goal

pub returns-clause-laid : goal.returns-clause-laid
returns-clause-laid c =
    let row = c.args.self.now in
    let room : row.at ≤ length row.out.now = omega arith in
    let number = rw c.from.ensures at c.decimal.ensures.laid in
    put_three (66 ∷ 65 ∷ 68 ∷ 9 ∷ []) (decimal c.args.n) (9 ∷ 45 ∷ []) _ refl row c.text.new.self c.decimal.new.self c.text-2.new.self room c.text.ensures number c.text-2.ensures
