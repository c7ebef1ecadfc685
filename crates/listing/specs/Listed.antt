-- The program's output, for an input and an output whose bytes are known. 01, "Listing program".
use Rattle.std.specs.Prelude.{List, ℕ}
use Rattle.std.specs.Io.KnownBytes.{Appends, Consumes, IsAtEnd}
use Rattle.std.specs.declared.option.Option.{Option}
use Rattle.lister.specs.Stream.{listing}

-- an input was read to its end, and the listing of all that was read was written
abbrev pub Listed : Option (List ℕ) → Option (List ℕ) → Option (List ℕ) → Option (List ℕ) → Type 0
Listed before after held made =
    (cs : List ℕ) × Consumes before after cs × IsAtEnd after × Appends held made (listing cs)
