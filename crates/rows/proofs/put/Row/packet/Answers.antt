use mathlib.Core.List.{[], ◌∷◌, ◌++◌, append_assoc}
use Prim.Native.Nat.{◌≤◌}
use native.Mathlib.Omega.{arith}
use lib.ListN.{length}
use Rattle.text.specs.Digits.{hex4}
use Rattle.rows.specs.Rows.{kind_text, label_text}
use Rattle.rows.proofs.Laying.{put_three}
use Rattle.rows.proofs.put.Row.packet.Goals as goal

pub returns-clause-laid : goal.returns-clause-laid
returns-clause-laid c =
    let row = c.args.self.now in
    let p = c.args.p in
    let room : row.at ≤ length row.out.now = omega arith in
    let sender = rw c.hex4.ensures at c.field.ensures.laid in
    put_three (kind_text p.body ++ 9 ∷ []) (hex4 p.head.sender ++ 9 ∷ []) (label_text p.body) _ (simp append_assoc) row c.kind.new.self c.field.new.self c.label.new.self room c.kind.ensures.laid sender c.label.ensures.laid
