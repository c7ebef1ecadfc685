use native.Mathlib.Omega.{arith}
use borrow.Author.Tests.{lt-ltb}
use Rattle.rows.specs.Row.{Puts}
use Rattle.rows.specs.Rows.{row_in, answer_text}
use Rattle.rows.proofs.Laying.{row}
use Rattle.rows.proofs.put_row.Goals.{in-Ok, in-Err}
use Rattle.rows.proofs.put_row.Goals as goal

pub returns-then-out-lt64 : goal.returns-then-out-lt64
unfolding row_in
returns-then-out-lt64 c = rw (lt-ltb _ 64 c.if-out-lt64.true)

pub returns : goal.returns
returns c =
    let k = c.decimal in
    let t = c.byte in
    let a = c.match-answer in
    let l = c.byte-2 in
    let said : Puts (answer_text c.args.answer) t.new.self a.row = elim a.branch [ in-Ok w ↦ rw (w.in-Ok.is, w.row-is) w.packet.ensures.laid | in-Err w ↦ rw (w.in-Err.is, w.row-is) w.bad.ensures.laid ] in
    let line = row c.args.k c.args.answer c.args.out.now k.new.self t.new.self a.row l.new.self c.if-out-lt64.false k.ensures.laid.1 t.ensures said l.ensures in
    grind (arith, line)
