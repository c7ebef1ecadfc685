-- What a caller needs of a call: it stays within its buffers, and the next call finds what the last one kept.
use Prim.Native.Nat.{ℕ, ◌≤◌}
use mathlib.Core.Path.{◌≡◌, refl, ap}
use mathlib.Core.Bool.{cond}
use mathlib.Core.List.{List, ◌++◌}
use native.Mathlib.Nat.{min-le_left, min-eq_left}
use lib.Dec.{ltb}
use lib.ListN.{length, take, drop, length-take}
use lib.Seq.{take_at}
use Rattle.rows.proofs.Laying.{start_within, row_within}
use Rattle.lister.specs.declared.Progress.{Progress}
use Rattle.lister.specs.declared.Fed.{Fed}
use Rattle.lister.specs.Stream.{printed, last_text, first289}
use Rattle.lister.specs.Pieces.{start_in, takes, fed, finished}

module _ (from : Progress) (hold block out : List ℕ) (r : Fed) (h o : List ℕ) (e : (r, h, o) ≡ fed from hold block out) where
  pub feed_readies : length o ≡ length out → r.ready ≤ length out
  unfolding fed
  feed_readies l =
      start_within (printed from.number (start_in from.held hold) (take (cond (ltb (length hold) 289) 0 (takes from.number (length block) (length out))) block)) out r.ready o
      (ap (λ (x : Fed × List ℕ × List ℕ). (x.0.ready, x.2)) e) l

pub finish_readies : (from : Progress) (hold out : List ℕ) (n : ℕ) (o : List ℕ) → (n, o) ≡ finished from hold out
    → length o ≡ length out → n ≤ length out
unfolding finished
finish_readies from hold out n o e l = row_within (last_text from.number (start_in from.held hold)) out n o e l

-- after a piece, the kept characters are the start of the unfinished line
pub start_kept : (s hold : List ℕ)
    → start_in (length (first289 s)) (first289 s ++ drop (length (first289 s)) hold) ≡ first289 s
start_kept s hold =
    let few : length (first289 s) ≤ 289 = rw length-take (min-le_left 289 (length s)) in
    rw (min-eq_left few) (take_at (first289 s) (drop (length (first289 s)) hold) (length (first289 s)) refl)
