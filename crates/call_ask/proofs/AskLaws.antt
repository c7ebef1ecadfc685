-- What can be requested.
use mathlib.Core.Path.{◌≡◌}
use mathlib.Core.Bool.{true}
use Prim.Native.Nat.{ℕ, ◌/◌, ◌≤◌}
use native.Mathlib.Nat.{le_trans}
use lib.Dec.{leb, lit≤}
use borrow.Author.Tests.{leb-true}
use Rattle.lemmas.proofs.Cases.{and_both}
use Rattle.translations.specs.declared.Rcb.{Rcb}
use Rattle.translations.specs.declared.Rcb.TheVariants.{B64, B128}
use Rattle.translations.specs.Fits.{boundary}
use Rattle.call_ask.specs.declared.AskArgs.{AskArgs}
use Rattle.call_ask.specs.Ask.{is_unit_count, is_below_top, is_askable}

-- at most 16 units can be requested
pub few_units : (rcb : Rcb) (stu : ℕ) (a : AskArgs) → is_askable rcb stu a ≡ true → (1 ≤ a.units) × (a.units ≤ 16)
unfolding is_askable
few_units rcb stu a e =
    let few = and_both (leb 1 a.units) (leb a.units (boundary rcb / 8)) (and_both (is_unit_count rcb a.units) (is_below_top stu a.address a.units) e).0 in
    (leb-true 1 a.units few.0, le_trans (leb-true a.units (boundary rcb / 8) few.1) (most rcb))
  where
    most : (rcb : Rcb) → boundary rcb / 8 ≤ 16
    most B64 = lit≤ tt
    most B128 = lit≤ tt
