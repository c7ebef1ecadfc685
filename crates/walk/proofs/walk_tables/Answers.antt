use mathlib.Core.Path.{◌≡◌, sym, ap, ◌∙◌}
use Prim.Native.Nat.{◌+◌, ◌-◌}
use native.Mathlib.Omega.{arith}
use Rattle.walk.specs.Walk.{is_none}
use Rattle.walk.proofs.Laws.{level_at, level_below, not_lent, grants_none, maps_page, goes_on}
use Rattle.walk.proofs.walk_tables.Goals as goal

pub returns-then-entries-k : goal.returns-then-entries-k
returns-then-entries-k c =
    let l = c.loop-level in
    sym (l.invariant.3 ∙ not_lent l.visited _ _ _ l.k l.granted c.if-entries-k.true)

pub returns-then-is_none : goal.returns-then-is_none
returns-then-is_none c =
    let l = c.loop-level in
    let same = l.invariant.0 in
    let few = l.invariant.1 in
    let index = rw (level_at l.visited) at c.index_at.ensures.0 in
    let none = rw index at (ap is_none (sym c.in_entry-own.ensures) ∙ sym c.is_none.ensures ∙ c.if-is_none.true) in
    sym (l.invariant.3 ∙ grants_none l.visited _ _ _ l.k l.granted c.if-entries-k.false none)

pub returns-then-is_page : goal.returns-then-is_page
returns-then-is_page c =
    let l = c.loop-level in
    let same = l.invariant.0 in
    let few = l.invariant.1 in
    let own = c.in_entry-own.ensures in
    let index = rw (level_at l.visited) at c.index_at.ensures.0 in
    let none = rw index at (ap is_none (sym own) ∙ sym c.is_none.ensures ∙ c.if-is_none.false) in
    let page = rw (level_at l.visited, index) at (sym c.is_page.ensures ∙ c.if-is_page.true) in
    let mapped = rw (level_at l.visited) at c.page_of.ensures in
    rw (mapped, c.and-granted.ensures, own, index) (sym (l.invariant.3 ∙ maps_page l.visited _ _ _ l.k l.granted c.if-entries-k.false none page))

pub loop-level-preserved : goal.loop-level-preserved
loop-level-preserved c =
    let l = c.loop-level in
    let same = l.invariant.0 in
    let few = l.invariant.1 in
    let own = c.in_entry-own.ensures in
    let index = rw (level_at l.visited) at c.index_at.ensures.0 in
    let none = rw index at (ap is_none (sym own) ∙ sym c.is_none.ensures ∙ c.if-is_none.false) in
    let page = rw (level_at l.visited, index) at (sym c.is_page.ensures ∙ c.if-is_page.false) in
    let level : 3 - (l.visited + 1) ≡ 3 - l.visited - 1 = omega arith in
    (omega arith, omega (arith, level_below (3 - l.visited) _ page), c.bits_51_to_12-k.ensures.1, rw (level, c.bits_51_to_12-k.ensures.0, c.and-granted.ensures, own, index) (l.invariant.3 ∙ goes_on l.visited _ _ _ l.k l.granted c.if-entries-k.false none page))
