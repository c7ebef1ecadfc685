-- No output line has more than 64 bytes.
use Rattle.std.specs.Prelude.{Err, Ok, Result}
use Prim.Native.Nat.{ℕ, ◌≤◌}
use mathlib.Core.List.{[], ◌∷◌, ◌++◌}
use native.Mathlib.Omega.{arith}
use lib.Dec.{lit≤}
use lib.ListN.{length, length-append}
use Rattle.packet.specs.declared.Packet.{Packet}
use Rattle.packet.specs.declared.Access.{Access}
use Rattle.packet.specs.declared.Access.TheVariants.{Read, Write}
use Rattle.packet.specs.declared.Body.{Body}
use Rattle.packet.specs.declared.Body.TheVariants.{Tr, Mem, Cpl, Inv, Ic, Prq, Prs}
use Rattle.text.specs.Digits.{hex4, decimal}
use Rattle.text.proofs.Numerals.{decimal_short}
use Rattle.rows.specs.Rows.{kind_text, access_text, label_text, answer_text, out_line}

pub kind_short : (b : Body) → length (kind_text b) ≤ 3
kind_short (Tr t) = lit≤ tt
kind_short (Mem m) = lit≤ tt
kind_short (Cpl c) = lit≤ tt
kind_short (Inv i) = lit≤ tt
kind_short (Ic i) = lit≤ tt
kind_short (Prq q) = lit≤ tt
kind_short (Prs s) = lit≤ tt

access_short : (a : Access) → length (access_text a) ≤ 20
access_short (Read tag) = decimal_short tag.0
access_short Write = lit≤ tt

pub label_short : (b : Body) → length (label_text b) ≤ 20
label_short (Tr t) = decimal_short t.tag.0
label_short (Mem m) = access_short m.access
label_short (Cpl c) = decimal_short c.tag.0
label_short (Inv i) = decimal_short i.itag.0
label_short (Ic i) = lit≤ tt
label_short (Prq q) = decimal_short q.index.0
label_short (Prs s) = decimal_short s.index.0

pub answer_short : (a : Result Packet ℕ) → length (answer_text a) ≤ 29
answer_short (Ok p) =
    let k = kind_short p.body in
    let l = label_short p.body in
    let e = length-append (kind_text p.body ++ 9 ∷ hex4 p.head.sender) (9 ∷ label_text p.body) in
    let f = length-append (kind_text p.body) (9 ∷ hex4 p.head.sender) in
    omega arith
answer_short (Err n) =
    let d = decimal_short n in
    let e = length-append (decimal n) (9 ∷ 45 ∷ []) in
    omega arith

pub out_line_short : (k : ℕ) (a : Result Packet ℕ) → length (out_line k a) ≤ 64
unfolding out_line
out_line_short k a =
    let d = decimal_short k in
    let s = answer_short a in
    let e = length-append (decimal k ++ 9 ∷ answer_text a) (10 ∷ []) in
    let f = length-append (decimal k) (9 ∷ answer_text a) in
    omega arith
