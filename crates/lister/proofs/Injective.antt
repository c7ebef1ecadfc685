-- The result of a line determines the code's answer.
use Rattle.std.specs.Prelude.{Err, Ok, Result}
use Prim.Native.Nat.{ℕ}
use mathlib.Core.Path.{◌≡◌, refl, sym, ap, ◌∙◌}
use mathlib.Core.Bool.{cond}
use lib.Dec.{eqb}
use native.Mathlib.Omega.{arith}
use borrow.Author.Tests.{ne_eqb}
use Rattle.packet.specs.declared.Packet.{Packet}
use Rattle.packet.specs.Numbers.{number_of}
use Rattle.packet.proofs.Injective.{refusal_of, refusal_back, number_between}
use Rattle.lister.specs.declared.LineError.{LineError}
use Rattle.lister.specs.declared.LineError.TheVariants.{Refused, Unreadable}
use Rattle.lister.specs.Line.{error_number, line_result}

-- the error that has a number
error_of : ℕ → LineError
error_of n = cond (eqb n 0) Unreadable (Refused (refusal_of n))

answered : Result Packet ℕ → Result Packet LineError
answered (Ok p) = Ok p
answered (Err n) = Err (error_of n)

error_back : (e : LineError) → error_of (error_number e) ≡ e
unfolding error_of
error_back (Refused r) =
    let some = (number_between r).0 in
    rw (ne_eqb (number_of r) 0 (λ z. omega arith), refusal_back r)
error_back Unreadable = refl

answered_back : (l : Result Packet LineError) → answered (line_result l) ≡ l
unfolding answered
answered_back (Ok p) = refl
answered_back (Err e) = ap (λ (x : LineError). Err x) (error_back e)

pub line_result_injective : (a b : Result Packet LineError) → line_result a ≡ line_result b → a ≡ b
line_result_injective a b e = sym (answered_back a) ∙ ap answered e ∙ answered_back b
