use lib.ListN.{length-replicate}
use Prim.Native.Nat.{ℕ}
use mathlib.Core.Path.{sym}
use Rattle.test_lines.proofs.large_buffer.Goals as goal

pub returns : goal.returns
returns c = sym (length-replicate {0} {A = ℕ} 1310720 0)
