-- An output line does not show Attr.
use Rattle.std.specs.Prelude.{Err, Ok, Result}
use Prim.Native.Nat.{ℕ}
use mathlib.Core.Path.{◌≡◌, refl}
use Rattle.packet.specs.declared.Packet.{Packet}
use Rattle.packet.proofs.SameButAttr.{attr_cleared}
use Rattle.rows.specs.Rows.{out_line}

pub line_cleared : (k : ℕ) (r : Result Packet ℕ) → out_line k r ≡ out_line k (attr_cleared r)
unfolding out_line
line_cleared k (Ok p) = refl
line_cleared k (Err n) = refl
