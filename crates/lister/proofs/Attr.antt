-- The listing does not show Attr.
use Rattle.std.specs.Prelude.{Result}
use Prim.Native.Nat.{ℕ, ◌%◌}
use mathlib.Core.Path.{◌≡◌, refl, sym, ap, ◌∙◌}
use mathlib.Core.Bool.{Bool, true, false}
use lib.ListN.{length}
use lib.Dec.{ltb, eqb}
use Rattle.packet.specs.declared.Packet.{Packet}
use Rattle.packet.specs.Numbers.{refuse, check}
use Rattle.packet.specs.Reading.{reading}
use Rattle.packet.proofs.SameButAttr.{attr_cleared, same_reading}
use Rattle.text.specs.Digits.{unhex}
use Rattle.rows.specs.Rows.{out_line}
use Rattle.rows.proofs.Attr.{line_cleared}
use Rattle.lister.specs.Line.{line_read, line_text}
use Rattle.lister.specs.Attr.{AttrNotShown}

-- whatever the tests before reading say
by_tests : (k : ℕ) (t u : Bool) (x y : Result Packet ℕ) → attr_cleared x ≡ attr_cleared y
    → out_line k (refuse 1 t (check 0 u x)) ≡ out_line k (refuse 1 t (check 0 u y))
by_tests k true u x y e = refl
by_tests k false true x y e = line_cleared k x ∙ ap (out_line k) e ∙ sym (line_cleared k y)
by_tests k false false x y e = refl

pub attr_not_shown : AttrNotShown
unfolding line_text line_read
attr_not_shown k cs ds n c d e =
    rw (n, c, d)
    (by_tests k (ltb 288 (length ds)) (eqb (length ds % 2) 0) (reading (unhex cs)) (reading (unhex ds)) (same_reading (unhex cs) (unhex ds) e))
