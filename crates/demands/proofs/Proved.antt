-- The three demands are proved, without assumptions.
use Rattle.std.specs.Prelude.{Option, None, Some}
use Rattle.tlp.proofs.Forbidden.{reads_by_phrases, writes_by_phrases}
use Rattle.tlp.proofs.RoundTrips.{written_reads, written_payload, read_written, read_writes}
use native.Mathlib.Omega.{arith}
use lib.ListN.{length}
use Rattle.card.proofs.Refused.{refused_keeps, refused_with_lem, numbers}
use Rattle.card.proofs.Invariant.{fresh_sound, sound_invariant}
use Rattle.card.proofs.call.Met.{met}
use Rattle.demands.specs.Demands.{Demand1, Demand2, Demand3}
use Rattle.demands.proofs.Order.{keeps_order}
use mathlib.Core.Path.{◌≡◌, refl, sym}
use mathlib.Core.Bool.{true, ◌&&◌}
use mathlib.Core.List.{[]}
use Prim.Native.Nat.{ℕ, ◌-◌}
use Rattle.lemmas.proofs.Cases.{and_both}
use Rattle.lemmas.proofs.Bools.{no_tf}
use Rattle.ranges.specs.Range.{region_of, range_from, unit_exponent, is_within}
use Rattle.ranges.proofs.Units.{within_overlaps}
use Rattle.demand3.proofs.Consequence.{Covers, only_new_translations}
use Rattle.demands.specs.Observed.{terms, card}

pub demand_1 : Demand1
demand_1 f c bytes out n e =
    let same = refused_keeps f c bytes out n e in
    record { state = same.0; sent = same.1; buffer = same.2; listed = refused_with_lem f c bytes out n e; among = numbers f c bytes out n e }

pub demand_2 : Demand2
demand_2 =
    record {
      code = met;
      written = λ p payload room n ty e. (written_reads p payload room n ty e, written_payload p payload room n ty e);
      read = λ b p h e. (read_writes b p (length b) h e (omega arith), read_written b p h e);
      forbids = reads_by_phrases;
      forbids_writing = λ p load room ty. writes_by_phrases p ty load room;
      starts = fresh_sound;
      keeps = sound_invariant;
    }

-- an entry that serves an overlapping access overlaps too
covers : Covers terms
covers a e b k o s = go b.address refl
  where
    go : (x : Option ℕ) → b.address ≡ x → terms.entry_in a e ≡ true
    go None n = no_tf (sym (rw n at s))
    go (Some x) n =
        let t : (e.used && _) ≡ true = rw n at s in
        let used = and_both e.used _ t in
        let inside = and_both (is_within (range_from x (b.bytes - 1)) (region_of e.entry.unit (unit_exponent e.stu))) _ used.1 in
        rw used.0 (within_overlaps (range_from x (b.bytes - 1)) (region_of e.entry.unit (unit_exponent e.stu)) a inside.0 (rw n at o))

pub demand_3 : Demand3
demand_3 = record {
  order = keeps_order;
  new_translations = λ s start r i a z. only_new_translations card covers s [] start.beyond r i a z;
}
