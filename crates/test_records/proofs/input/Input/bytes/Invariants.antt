use Rattle.std.proofs.Common.{◌≡◌, ◌++◌, length, take, drop, replicate}
use Rattle.test_records.proofs.input.Input.bytes.Given as goal

abbrev pub invariant-loop-b : goal.invariant-loop-b
invariant-loop-b g l =
    let before = l.initial.self.rest.now in
    (l.self.rest.now ≡ drop l.b-index before)
    × (length l.b-items ≡ g.row.N)
    × (take l.b-index l.b-items ≡ take l.b-index (before ++ replicate g.row.N 0))
