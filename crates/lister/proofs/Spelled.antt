-- A line of hex digits and the bytes that it encodes.
use Rattle.std.specs.Prelude.{Err}
use mathlib.Core.Path.{◌≡◌, ◌∙◌}
use mathlib.Core.List.{List}
use Prim.Native.Nat.{ℕ, ◌+◌, ◌*◌, ◌%◌, ◌≤◌, ◌<◌}
use native.Mathlib.Omega.{arith}
use lib.ListN.{length, take}
use lib.Seq.{take_all, take-take, get_or-take, length-take-le}
use borrow.Author.Tests.{le-ltb, eq-eqb}
use Rattle.packet.specs.Numbers.{check}
use Rattle.packet.specs.Reading.{reading}
use Rattle.text.specs.Digits.{all_hex, unhex}
use Rattle.lister.specs.Line.{line_read}
use Rattle.lister.specs.Runs.{HexRun}
use Rattle.text.proofs.Pairs.{no_byte}

-- a line of 288 characters or fewer, an even number of them
even_line : (cs : List ℕ) → length cs ≤ 288 → length cs % 2 ≡ 0 → line_read cs ≡ check 0 (all_hex cs) (reading (unhex cs))
unfolding line_read
even_line cs h e = rw (le-ltb 288 (length cs) h, eq-eqb (length cs % 2) 0 e)

module _ (cs bytes : List ℕ) (n : ℕ) (h : length cs ≤ 288) (e : length cs % 2 ≡ 0) (r : HexRun cs n bytes) where
  pub read_bytes : n * 2 ≡ length cs → line_read cs ≡ reading (take n bytes)
  read_bytes w =
      let all : take (n * 2) cs ≡ cs = take_all (n * 2) cs (omega arith) in
      even_line cs h e ∙ rw (rw all at r.3, r.4, all)

  pub read_none : (n * 2 ≡ length cs → ⊥) → line_read cs ≡ Err 0
  read_none w =
      let less : n * 2 < length cs = omega arith in
      even_line cs h e ∙ rw (no_byte cs (n * 2) r.3 (omega arith) (r.5 (omega arith) (omega arith)))

-- the decoded bytes of a line are those of any text that begins with it
pub run_of_line : (cs bytes : List ℕ) (n end : ℕ) → HexRun cs n bytes → n * 2 ≤ end → end ≤ length cs
    → HexRun (take end cs) n bytes
run_of_line cs bytes n end r h l =
    let long : length (take end cs) ≡ end = length-take-le end cs l in
    let same : take (n * 2) (take end cs) ≡ take (n * 2) cs = take-take (n * 2) end cs h in (
      r.0,
      r.1,
      omega arith,
      rw same r.3,
      rw same r.4,
      (λ small more. rw (get_or-take end cs (n * 2) 0 (omega arith), get_or-take end cs (n * 2 + 1) 0 (omega arith)) (r.5 small (omega arith))),
    )
