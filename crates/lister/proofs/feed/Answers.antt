use native.Mathlib.Omega.{arith}
use Rattle.lister.proofs.Holds.{start_is, fed_none, fed_some}
use Rattle.lister.proofs.feed.Goals as goal

pub returns-then-hold-lt289 : goal.returns-then-hold-lt289
returns-then-hold-lt289 c =
    let m = c.min in
    let s = c.min-held in
    let same = start_is c.args.from.held c.args.hold.now m.result s.result m.ensures s.ensures in
    fed_none c.args.from c.args.hold.now c.args.block.now c.args.out.now s.result c.if-hold-lt289.true same (omega (arith, s.ensures))

pub returns : goal.returns
returns c =
    let m = c.min in
    let s = c.min-held in
    let t = c.takes-taken in
    let k = c.take_in-ready in
    let same = start_is c.args.from.held c.args.hold.now m.result s.result m.ensures s.ensures in
    fed_some c.args.from c.args.hold.now c.args.block.now c.args.out.now s.result t.result k.result.0.number k.result.0.held k.result.1 k.new.hold k.new.out c.if-hold-lt289.false same t.ensures.0 k.ensures.number_value k.ensures.laid k.ensures.laid_2
