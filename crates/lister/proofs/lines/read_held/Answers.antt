use mathlib.Core.Path.{sym, ◌∙◌}
use mathlib.Core.List.{◌++◌}
use Rattle.lister.proofs.Cuts.{read_cut}
use Rattle.lister.proofs.Holds.{held_cut}
use Rattle.lister.proofs.lines.read_held.Goals as goal

pub returns : goal.returns
returns c =
    let a = c.keep-a in
    let b = c.keep-n in
    let start = c.args.start.now in
    let cs = c.args.cs.now in
    let whole = held_cut start cs _ a.new.hold b.new.hold a.result b.result c.requires a.ensures.laid b.ensures.laid in
    rw whole at c.read_line.ensures ∙ sym (read_cut (start ++ cs))
