use Rattle.std.proofs.Common.{ap, ◌∙◌, drop}
use Rattle.std.proofs.lemmas.List.{drop-drop, length-set}
use Rattle.test_records.specs.Left.{first_byte}
use Rattle.test_records.proofs.Reading.{read_more}
use Rattle.test_records.proofs.input.Input.bytes.Goals as goal

pub loop-b-preserved : goal.loop-b-preserved
loop-b-preserved g c =
    let loop = c.loop-b in
    let before = c.args.self.now.rest.now in
    let value = c.byte.ensures.first ∙ ap first_byte loop.invariant.0 in (
      c.byte.ensures.rest ∙ ap (drop 1) loop.invariant.0 ∙ drop-drop 1 loop.b-index before,
      rw length-set loop.invariant.1,
      read_more before loop.b-items g.row.N loop.b-index _ c.loop-b-test.true loop.invariant.1 loop.invariant.2 value,
    )
