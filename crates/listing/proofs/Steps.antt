-- What was read and written so far, and what one more block or the end of the input adds to it.
use mathlib.Core.Path.{◌≡◌, refl, ◌∙◌}
use mathlib.Core.List.{List, [], ◌++◌, append-nil}
use Prim.Native.Nat.{ℕ, ◌*◌, ◌≤◌, ◌<◌}
use lib.ListN.{length, take}
use Rattle.std.specs.declared.option.Option.{Option}
use Rattle.std.specs.Io.KnownBytes.{Appends, Consumes, IsAtEnd}
use Rattle.std.proofs.KnownBytes.{Appends-nil, Appends-trans, Consumes-nil, Consumes-trans}
use Rattle.lister.specs.declared.Progress.{Progress}
use Rattle.lister.specs.declared.Fed.{Fed}
use Rattle.lister.specs.Stream.{printed, number_after, start_after, last_text, listing, first289}
use Rattle.lister.specs.Pieces.{initial_progress, start_in, fed}
use Rattle.lister.proofs.Cuts.{printed_append, number_after_append, start_after_append, last_text_cut}
use Rattle.lister.proofs.Blocks.{fed_all}
use Rattle.listing.specs.Listed.{Listed}

-- the characters cs were read, the output of the lines that end in them was written, and the rest of them is kept
pub record SoFar (before now held made : Option (List ℕ)) (from : Progress) (hold : List ℕ) : Type 0 where
  pub cs : List ℕ
  pub consumed : Consumes before now cs
  pub appended : Appends held made (printed 1 [] cs)
  pub number : from.number ≡ number_after 1 cs
  pub kept : start_in from.held hold ≡ first289 (start_after [] cs)

pub at_first : (before held : Option (List ℕ)) (hold : List ℕ) → SoFar before before held held initial_progress hold
unfolding printed number_after start_after
at_first before held hold = record { cs = []; consumed = Consumes-nil before; appended = Appends-nil held; number = refl; kept = refl }

module _ (before now next held made : Option (List ℕ)) (from : Progress) (hold : List ℕ) (s : SoFar before now held made from hold) where
  pub one_more : (out : List ℕ) (wrote : Option (List ℕ)) (b : List ℕ) (r : Fed) (h o : List ℕ) → (r, h, o) ≡ fed from hold b out
      → Consumes now next b
      → Appends made wrote (take r.ready o)
      → 289 ≤ length hold
      → length b * 64 ≤ length out
      → length b ≤ r.taken
      → 0 < length b
      → SoFar before next held wrote r.progress h
  one_more out wrote b r h o e took put long room all some =
      let f = fed_all from hold b out (start_after [] s.cs) r h o e long room all some s.kept in
      record {
        cs = s.cs ++ b;
        consumed = Consumes-trans before now next s.cs b s.consumed took;
        appended = rw (printed_append, ← s.number, ← f.0) (Appends-trans held made wrote (printed 1 [] s.cs) (take r.ready o) s.appended put);
        number = f.1 ∙ rw (number_after_append, ← s.number);
        kept = f.2 ∙ rw start_after_append;
      }

  pub at_last : (wrote : Option (List ℕ)) → Consumes now next []
      → IsAtEnd next
      → Appends made wrote (last_text from.number (start_in from.held hold))
      → Listed before next held wrote
  unfolding listing
  at_last wrote took end put =
      let last = rw (s.kept, last_text_cut, s.number) at put in (
        s.cs ++ [],
        Consumes-trans before now next s.cs [] s.consumed took,
        end,
        rw append-nil (Appends-trans held made wrote (printed 1 [] s.cs) (last_text (number_after 1 s.cs) (start_after [] s.cs)) s.appended last),
      )
