use mathlib.Core.Path.{◌≡◌, sym}
use Prim.Native.Nat.{◌*◌, ◌≤◌}
use native.Mathlib.Omega.{arith}
use lib.ListN.{length, take}
use lib.Seq.{length-take-le}
use Rattle.std.proofs.lemmas.Result.{on_ok_weaker}
use Rattle.lister.proofs.Calls.{feed_readies}
use Rattle.listing.proofs.Steps.{at_first, one_more, at_last}
use Rattle.listing.proofs.list_all.Goals as goal

pub loop-init : goal.loop-init
loop-init g c = rw c.start-progress.ensures (at_first _ _ _)

pub returns-then-n-eq0 : goal.returns-then-n-eq0
returns-then-n-eq0 g c =
    let got = c.in-Ok.ensures.bytes in
    let none = rw c.if-n-eq0.true at got.0 in
    let w = c.write_last-then-n-eq0 in
    on_ok_weaker w.result (λ put some. at_last _ _ _ _ _ c.loop.progress c.loop.hold c.loop.invariant _ none (got.1 c.if-n-eq0.true (omega arith)) put) w.ensures

pub slice_bounds-write_all-end : goal.slice_bounds-write_all-end
slice_bounds-write_all-end g c =
    let f = c.feed-fed in
    rw f.auto.out (feed_readies c.loop.progress c.loop.hold _ c.loop.out f.result f.new.hold f.new.out f.ensures f.auto.out)

pub slice_bounds-write_all-end-in-loop : goal.slice_bounds-write_all-end-in-loop
slice_bounds-write_all-end-in-loop g c =
    let f = c.feed-fed in
    sym (length-take-le f.result.ready f.new.out (rw f.auto.out (feed_readies c.loop.progress c.loop.hold _ c.loop.out f.result f.new.hold f.new.out f.ensures f.auto.out)))

pub loop-preserved : goal.loop-preserved
loop-preserved g c =
    let f = c.feed-fed in
    let n = c.in-Ok.n in
    let b = take n c.read.new.buf in
    let long : length b ≡ n = sym c.in-Ok.ensures.bound.1 in
    let fits : length b * 64 ≤ length c.loop.out = omega (arith, c.requires, c.in-Ok.ensures.bound, c.read.auto.buf, c.loop.auto.block, c.loop.auto.out) in
    one_more _ _ _ _ _ c.loop.progress c.loop.hold c.loop.invariant c.loop.out _ b f.result f.new.hold f.new.out f.ensures c.in-Ok.ensures.bytes.0 c.in_ok-write_all.ensures.bytes
    (omega arith) fits (omega arith) (omega arith)
