use mathlib.Core.Path.{sym}
use lib.Seq.{length-take-le}
use Rattle.lister.proofs.Blocks.{finished_all}
use Rattle.lister.proofs.Calls.{finish_readies}
use Rattle.listing.proofs.write_last.Goals as goal

pub slice_bounds-write_all-end : goal.slice_bounds-write_all-end
slice_bounds-write_all-end g c =
    let f = c.finish-last in
    rw f.auto.out (finish_readies c.args.progress c.args.hold.now c.args.out.now f.result f.new.out f.ensures f.auto.out)

pub slice_bounds-write_all-end-2 : goal.slice_bounds-write_all-end-2
slice_bounds-write_all-end-2 g c =
    let f = c.finish-last in
    sym (length-take-le f.result f.new.out (rw f.auto.out (finish_readies c.args.progress c.args.hold.now c.args.out.now f.result f.new.out f.ensures f.auto.out)))

pub returns : goal.returns
returns g c =
    let f = c.finish-last in
    rw (finished_all c.args.progress c.args.hold.now c.args.out.now f.result f.new.out f.ensures c.requires) at c.write_all.ensures.bytes
