use Rattle.std.proofs.Common.{[], ◌∷◌, take, slice_index_or}
use Rattle.std.proofs.lemmas.List.{take_more}
use Rattle.test_records.proofs.Writing.{adds_none, adds_more}
use Rattle.test_records.proofs.output.Output.text.Goals as goal

pub loop-c-init : goal.loop-c-init
loop-c-init c = adds_none c.args.self.now

pub loop-c-preserved : goal.loop-c-preserved
loop-c-preserved c =
    let cs = c.args.characters.now in
    let i = c.loop-c.c-index in
    let one = slice_index_or cs i 0 ∷ [] in
    rw (take_more cs i 0 c.loop-c-test.true) (adds_more (take i cs) one c.args.self.now c.loop-c.self c.byte.new.self c.loop-c.invariant c.byte.ensures)
