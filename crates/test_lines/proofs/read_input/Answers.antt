use mathlib.Core.Path.{◌≡◌, ap, sym, ◌∙◌}
use mathlib.Core.List.{List, ◌++◌}
use Prim.Native.Nat.{ℕ, ◌+◌, ◌≤◌}
use native.Mathlib.Omega.{arith}
use lib.ListN.{length, take, length-append}
use lib.Seq.{length-take-le, take-append-add}
use Rattle.std.proofs.KnownBytes.{Consumes-trans}
use Rattle.std.proofs.lemmas.List.{take-append-le}
use Rattle.test_lines.proofs.read_input.Goals as goal

-- the bytes that are read go after those that were read before
front : (xs buf rest : List ℕ) (at n : ℕ) → at ≤ length xs → n ≤ length buf
    → take (at + n) (take at xs ++ (buf ++ rest)) ≡ take at xs ++ take n buf
front xs buf rest at n h l =
    let e : length (take at xs) ≡ at = length-take-le at xs h in
    ap (λ (k : ℕ). take (k + n) (take at xs ++ (buf ++ rest))) (sym e)
    ∙ take-append-add (take at xs) (buf ++ rest) n
    ∙ ap (λ (l : List ℕ). take at xs ++ l) (rw take-append-le)

pub loop-done-preserved : goal.loop-done-preserved
loop-done-preserved g c =
    let l = c.loop-done in
    let fits : c.in_ok-n.n ≤ length c.read.new.buf = c.in_ok-n.ensures.bound.0 in (
      omega (arith, length-append {A = ℕ}, length-take-le l.done l.input l.invariant.0),
      rw (front l.input c.read.new.buf _ l.done c.in_ok-n.n l.invariant.0 fits)
          (Consumes-trans _ _ _ (take l.done l.input) (take c.in_ok-n.n c.read.new.buf) l.invariant.1 c.in_ok-n.ensures.bytes.0),
    )
