use mathlib.Core.Path.{refl, sym, ◌∙◌}
use mathlib.Core.List.{[], ◌++◌}
use Prim.Native.Nat.{◌+◌, ◌≤◌, zero-le}
use native.Mathlib.Omega.{arith}
use lib.ListN.{length, take, drop, length-drop}
use Rattle.std.proofs.lemmas.List.{take_rest}
use Rattle.lister.specs.Line.{line_text}
use Rattle.lister.specs.Stream.{printed}
use Rattle.lister.specs.Pieces.{no_feed}
use Rattle.rows.proofs.Laying.{nothing_laid, row_start, then}
use Rattle.lister.proofs.Feeds.{number_none, start_none, printed_none, number_parts, start_parts, printed_parts}
use Rattle.lister.proofs.Holds.{kept_cut}
use Rattle.lister.proofs.Blocks.{line_short}
use Rattle.lister.proofs.lines.take_in.Goals as goal

pub line_end-requires : goal.line_end-requires
unfolding no_feed
line_end-requires c = (zero-le, refl)

pub returns-in_default-clause-number_value : goal.returns-in_default-clause-number_value
returns-in_default-clause-number_value c = sym (number_none c.args.from.number c.args.cs.now (c.in_default.ensures {u = tt}))

pub returns-in_default-clause-laid : goal.returns-in_default-clause-laid
returns-in_default-clause-laid c =
    let hold = c.args.hold.now in
    let held = c.args.from.held in
    let keep = c.keep-held in
    rw (start_none (take held hold) c.args.cs.now (c.in_default.ensures {u = tt})) (kept_cut held hold c.args.cs.now keep.result keep.new.hold c.requires.0 (omega arith) keep.ensures.laid)

pub returns-in_default-clause-laid_2 : goal.returns-in_default-clause-laid_2
returns-in_default-clause-laid_2 c =
    rw (printed_none c.args.from.number (take c.args.from.held c.args.hold.now) c.args.cs.now (c.in_default.ensures {u = tt})) (nothing_laid 0 c.args.out.now)

pub whole_lines-start-requires : goal.whole_lines-start-requires
unfolding line_text
whole_lines-start-requires c =
    let k = c.args.from.number in
    let cs = c.args.cs.now in
    let end = c.in-Some.end in
    let found = c.in-Some.ensures in
    let held = take c.args.from.held c.args.hold.now in
    let put = c.put_row-at in
    let room : 64 ≤ length c.args.out.now = omega (arith, c.requires, found.0) in
    let short : length (line_text k (held ++ take end cs)) ≤ 64 = line_short k (held ++ take end cs) in
    let said = rw c.read_held-held.ensures at put.ensures in
    let line = row_start (line_text k (held ++ take end cs)) c.args.out.now put.result put.new.out room said in
    let size = length-drop (end + 1) cs in
    rw (take_rest cs (end + 1)) (omega (arith, c.requires, found.0, line.0, put.auto.out), omega (arith, c.requires, found.0))

pub returns-clause-number_value : goal.returns-clause-number_value
returns-clause-number_value c =
    let cs = c.args.cs.now in
    let end = c.in-Some.end in
    let found = c.in-Some.ensures in
    let lines = rw (take_rest cs (end + 1)) at c.whole_lines-start.ensures.taken_in_bounds in
    lines.2 ∙ sym (number_parts cs end found.1 found.0 c.args.from.number)

pub returns-clause-laid : goal.returns-clause-laid
returns-clause-laid c =
    let cs = c.args.cs.now in
    let end = c.in-Some.end in
    let found = c.in-Some.ensures in
    let rest = drop (end + 1) cs in
    let part = take_rest cs (end + 1) in
    let lines = rw part at c.whole_lines-start.ensures.taken_in_bounds in
    let tail = rw (part, take_rest rest c.whole_lines-start.result, lines.1) at c.keep-held-2.ensures.laid in
    rw (start_parts cs end found.1 found.0 (take c.args.from.held c.args.hold.now)) tail

pub returns-clause-laid_2 : goal.returns-clause-laid_2
unfolding line_text
returns-clause-laid_2 c =
    let k = c.args.from.number in
    let cs = c.args.cs.now in
    let end = c.in-Some.end in
    let found = c.in-Some.ensures in
    let rest = drop (end + 1) cs in
    let held = take c.args.from.held c.args.hold.now in
    let put = c.put_row-at in
    let last = c.whole_lines-start.new.self in
    let room : 64 ≤ length c.args.out.now = omega (arith, c.requires, found.0) in
    let said = rw c.read_held-held.ensures at put.ensures in
    let line = row_start (line_text k (held ++ take end cs)) c.args.out.now put.result put.new.out room said in
    let lines = rw (take_rest cs (end + 1)) at c.whole_lines-start.ensures.laid in
    let all = then 0 (line_text k (held ++ take end cs)) (printed (k + 1) [] rest) c.args.out.now put.result put.new.out last.at last.out.now zero-le line lines in
    rw (printed_parts cs end found.1 found.0 k held) (all.0, grind (arith, all.1))
