-- What closes a `return`: the tests that led there say which case of a definition holds.
use mathlib.Core.Path.{◌≡◌, refl, sym, ap, ◌∙◌}
use mathlib.Core.Bool.{Bool, true, false, cond, ◌&&◌, ◌||◌}
use Prim.Native.Nat.{ℕ}
use native.Mathlib.Omega.{arith}
use borrow.Author.Tests.{lt-ltb, le-ltb, le-leb, lt-leb, eq-eqb, ne_eqb}

-- From 0 ≡ 1 anything follows. `cc` derives it from an equation between two different constructors.
pub impossible : {A : Type 0} → ◌≡◌ {A = ℕ} 0 1 → A
impossible e = absurd (omega (arith, e))

pub take_case : {A : Type 0} (t : Bool) (a b x : A) → t ≡ true → x ≡ a → x ≡ cond t a b
take_case t a b x e q = q ∙ sym (ap (λ (u : Bool). cond u a b) e)

pub skip_case : {A : Type 0} (t : Bool) (a b x : A) → t ≡ false → x ≡ b → x ≡ cond t a b
skip_case t a b x e q = q ∙ sym (ap (λ (u : Bool). cond u a b) e)

pub and_next : (t u x : Bool) → t ≡ true → x ≡ u → x ≡ (t && u)
and_next t u x e q = q ∙ sym (ap (λ (s : Bool). s && u) e)

pub and_stop : (t u : Bool) → t ≡ false → false ≡ (t && u)
and_stop t u e = sym (ap (λ (s : Bool). s && u) e)

pub ruleset cases = (take_case, skip_case, and_next, and_stop, lt-ltb, le-ltb, le-leb, lt-leb, eq-eqb, ne_eqb)

-- A test holds or it does not.
pub by_cases : {A : Type 0} (t : Bool) → (t ≡ true → A) → (t ≡ false → A) → A
by_cases true f g = f refl
by_cases false f g = g refl

-- what holds in both cases of a test holds for the case that the test selects
pub either_case : {A : Type 0} (P : A → Type 0) (t : Bool) (a b : A) → (t ≡ true → P a) → (t ≡ false → P b)
    → P (cond t a b)
either_case P true a b f g = f refl
either_case P false a b f g = g refl

pub and_both : (t u : Bool) → (t && u) ≡ true → (t ≡ true) × (u ≡ true)
and_both true u e = (refl, e)
and_both false u e = impossible cc

pub never_both : (t : Bool) → t ≡ true → t ≡ false → ⊥
never_both t e g = impossible cc

pub is_false : (t : Bool) → (t ≡ true → ⊥) → t ≡ false
is_false true h = absurd (h refl)
is_false false h = refl

pub and_true : (t : Bool) → (t && true) ≡ t
and_true true = refl
and_true false = refl

pub and-false : (t : Bool) → (t && false) ≡ false
and-false true = refl
and-false false = refl

pub or-true : (t : Bool) → (t || true) ≡ true
or-true true = refl
or-true false = refl
