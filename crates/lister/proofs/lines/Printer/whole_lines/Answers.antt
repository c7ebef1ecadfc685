use mathlib.Core.Path.{refl, ◌∙◌}
use mathlib.Core.List.{[], ◌++◌}
use Prim.Native.Nat.{◌+◌, ◌-◌, ◌*◌, ◌≤◌}
use native.Mathlib.Omega.{arith}
use lib.ListN.{length, take, drop, length-drop}
use Rattle.std.proofs.lemmas.List.{take_rest}
use Rattle.lister.specs.Line.{line_text}
use Rattle.lister.specs.Stream.{printed, number_after, start_after}
use Rattle.rows.proofs.Laying.{nothing_laid, then, row_after, laid_length}
use Rattle.lister.proofs.Spelled.{run_of_line}
use Rattle.lister.proofs.Feeds.{hex_no_feed, hex_before, one_more, printed_more, number_end, start_end, printed_end}
use Rattle.lister.proofs.Blocks.{line_short}
use Rattle.lister.proofs.lines.Printer.whole_lines.Goals as goal

pub loop-taken-init : goal.loop-taken-init
unfolding printed number_after start_after
loop-taken-init c = (refl, (omega arith, refl, refl), nothing_laid _ _, omega arith, omega arith, refl, refl)

pub line_end-requires : goal.line_end-requires
line_end-requires c = let r = c.run-spelled.ensures in (r.2, hex_no_feed _ r.3)

pub read_run-line-requires : goal.read_run-line-requires
read_run-line-requires c =
    let cs = c.args.cs.now in
    let l = c.loop-taken in
    let rest = drop l.taken cs in
    let part = take_rest cs l.taken in
    let run = c.run-spelled in
    let ran = rw part at run.ensures in
    let found = rw part at c.in-Some.ensures in
    rw part (run_of_line rest run.new.bytes run.result c.in-Some.end ran (hex_before rest (run.result * 2) c.in-Some.end ran.3 ran.2 found.1 found.0) found.1.0)

pub overflow_add-self : goal.overflow_add-self
unfolding line_text
overflow_add-self c =
    let l = c.loop-taken in
    let p = l.self in
    let rest = drop l.taken c.args.cs.now in
    let part = take_rest c.args.cs.now l.taken in
    let found = rw part at c.in-Some.ensures in
    let size = length-drop l.taken c.args.cs.now in
    let put = c.put_row in
    let text = line_text p.number (take c.in-Some.end rest) in
    let short : length text ≤ 64 = line_short p.number (take c.in-Some.end rest) in
    let said = rw (take_rest p.out.now p.at, c.read_run-line.ensures, part) at put.ensures in
    let laid = row_after p.at text p.out.now put.result put.new.out (omega (arith, c.requires, l.invariant)) said in
    omega (arith, c.requires, laid.0)

pub loop-taken-preserved : goal.loop-taken-preserved
unfolding line_text
loop-taken-preserved c =
    let first = c.args.self.now in
    let cs = c.args.cs.now in
    let l = c.loop-taken in
    let p = l.self in
    let rest = drop l.taken cs in
    let end = c.in-Some.end in
    let part = take_rest cs l.taken in
    let found = rw part at c.in-Some.ensures in
    let size = length-drop l.taken cs in
    let put = c.put_row in
    let text = line_text p.number (take end rest) in
    let short : length text ≤ 64 = line_short p.number (take end rest) in
    let said = rw (take_rest p.out.now p.at, c.read_run-line.ensures, part) at put.ensures in
    let out = take p.at p.out.now ++ (put.new.out ++ drop (length p.out.now - p.at) (drop p.at p.out.now)) in
    let laid = row_after p.at text p.out.now put.result put.new.out (omega (arith, c.requires, l.invariant)) said in (
      l.invariant.0,
      one_more first.number cs l.taken p.number l.invariant.1 end found.1 found.0,
      rw (printed_more first.number cs l.taken p.number l.invariant.1 end found.1 found.0)
          (then first.at (printed first.number [] (take l.taken cs)) text first.out.now p.at p.out.now (p.at + put.result) out (omega (arith, c.requires)) l.invariant.2 laid),
      omega (arith, laid.0),
      omega arith,
      laid_length p.at text p.out.now (p.at + put.result) out (omega (arith, c.requires, l.invariant)) laid ∙ l.invariant.5,
      c.run-spelled.ensures.1,
    )

pub returns-in_default-clause-taken_in_bounds : goal.returns-in_default-clause-taken_in_bounds
returns-in_default-clause-taken_in_bounds c =
    let k = c.args.self.now.number in
    let cs = c.args.cs.now in
    let l = c.loop-taken in
    let none = rw take_rest at (c.in_default.ensures {u = tt}) in
    (l.invariant.1.0, start_end k cs l.taken l.self.number l.invariant.1 none, number_end k cs l.taken l.self.number l.invariant.1 none)

pub returns-in_default-clause-laid : goal.returns-in_default-clause-laid
returns-in_default-clause-laid c =
    let k = c.args.self.now.number in
    let cs = c.args.cs.now in
    let l = c.loop-taken in
    let none = rw take_rest at (c.in_default.ensures {u = tt}) in
    rw (printed_end k cs l.taken l.self.number l.invariant.1 none) at l.invariant.2
