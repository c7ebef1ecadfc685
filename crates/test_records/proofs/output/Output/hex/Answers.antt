use Rattle.std.proofs.Math.Facts.{Fits-lt-pow}
use Rattle.test_records.specs.Written.{hex_text}
use Rattle.test_records.proofs.Writing.{adds_none, hex_more}
use Rattle.test_records.proofs.output.Output.hex.Goals as goal

pub loop-b-init : goal.loop-b-init
unfolding hex_text
loop-b-init c = adds_none c.args.self.now

pub loop-b-preserved : goal.loop-b-preserved
loop-b-preserved c =
    let loop = c.loop-b in
    hex_more c.args.bytes.now loop.b-index c.args.self.now loop.self c.byte.new.self c.byte-in-loop-b.new.self c.from.result c.from-in-loop-b.result
    c.loop-b-test.true (Fits-lt-pow (c.type_inv.bytes loop.b-index)) c.from.ensures c.from-in-loop-b.ensures loop.invariant c.byte.ensures c.byte-in-loop-b.ensures
