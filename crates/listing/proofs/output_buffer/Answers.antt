use mathlib.Core.Path.{sym}
use Prim.Native.Nat.{ℕ}
use lib.ListN.{length-replicate}
use Rattle.listing.proofs.output_buffer.Goals as goal

-- by a law of lists: the checker cannot count this many elements one by one
pub returns : goal.returns
returns c = sym (length-replicate {0} {A = ℕ} 1048576 0)
