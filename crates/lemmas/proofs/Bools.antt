-- Booleans and options: contradictions and equality tests.
use Rattle.std.specs.Prelude.{None, Some}
use mathlib.Core.Path.{◌≡◌, refl, sym}
use mathlib.Core.Bool.{Bool, true, false, cond, ◌||◌, beq, true≢false}
use Rattle.std.proofs.lemmas.Option.{none-some}

pub no_tf : {X : Type 0} → true ≡ false → X
no_tf e = absurd (true≢false e)

pub no_some : {B X : Type 0} {b : B} → None ≡ Some b → X
no_some {b = b} e = absurd (none-some b e)

pub neither : (a b : Bool) → (a || b) ≡ false → (a ≡ false) × (b ≡ false)
neither true b e = no_tf e
neither false b e = (refl, e)

pub beq_eq : (a b : Bool) → beq a b ≡ true → a ≡ b
beq_eq true true e = refl
beq_eq true false e = no_tf (sym e)
beq_eq false true e = no_tf (sym e)
beq_eq false false e = refl

pub beq_same : (a : Bool) → beq a a ≡ true
beq_same true = refl
beq_same false = refl

pub cond_same : {X : Type 0} (b : Bool) (x : X) → cond b x x ≡ x
cond_same true x = refl
cond_same false x = refl
