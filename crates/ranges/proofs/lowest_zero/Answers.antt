use mathlib.Core.Path.{◌≡◌, sym, ◌∙◌}
use native.Mathlib.Omega.{arith}
use borrow.Author.Tests.{eq-eqb, ne_eqb}
use Rattle.ranges.proofs.Laws.{zero_here, zero_step, zero_end}
use borrow.Author.Rules.{rules}
use Rattle.ranges.proofs.lowest_zero.Goals as goal

pub returns-then-x-b-ne1 : goal.returns-then-x-b-ne1
returns-then-x-b-ne1 c = (sym (c.loop-b.invariant ∙ zero_here _ _ (omega arith) (ne_eqb _ _ c.if-x-b-ne1.true)), search rules)

pub loop-b-preserved : goal.loop-b-preserved
loop-b-preserved c = c.loop-b.invariant ∙ zero_step _ _ (omega arith) (eq-eqb _ _ c.if-x-b-ne1.false)

pub returns : goal.returns
returns c =
    let top : c.loop-b.b ≡ 64 = omega arith in
    (sym top ∙ sym (c.loop-b.invariant ∙ zero_end _ _ (omega arith)), search rules)
