-- An Invalidate Request is refused with 9 exactly while its ticket waits.
use Rattle.std.specs.Prelude.{Err, None, Ok, Option, Result, Some}
use mathlib.Core.Path.{◌≡◌, refl, sym}
use mathlib.Core.Logic.{◌↔◌}
use mathlib.Core.Bool.{true, false, not, cond, ◌&&◌}
use mathlib.Core.List.{List}
use Prim.Native.Nat.{ℕ}
use lib.Dec.{eqb}
use borrow.Author.Tests.{eqb-true, eq-eqb, lt-ltb}
use Rattle.lemmas.proofs.Cases.{by_cases, never_both, impossible}
use Rattle.lemmas.proofs.Bools.{no_tf, no_some}
use Rattle.ranges.specs.declared.Range.{Range}
use Rattle.packet.specs.declared.InvalidateRequest.{InvalidateRequest}
use Rattle.packet.specs.declared.Packet.{Packet}
use Rattle.packet.specs.declared.Outcome.{Outcome}
use Rattle.packet.specs.declared.Outcome.TheVariants.{Data, Status}
use Rattle.packet.specs.declared.Body.{Body}
use Rattle.packet.specs.declared.Body.TheVariants.{Tr, Mem, Cpl, Inv, Ic, Prq, Prs}
use Rattle.packet.specs.Reading.{reading, payload_in}
use Rattle.tags.specs.Itags.{bit_index, is_in}
use Rattle.tags.proofs.Laws.{in_bit_index}
use Rattle.state.specs.declared.Function.{Function}
use Rattle.state.specs.Answers.{commit, sends_nothing, done}
use Rattle.on_invalidate.specs.Invalidate.{is_other_agent, invalidated_by, invalidated}
use Rattle.call_receive.specs.Receive.{taken, received}
use Rattle.card.specs.declared.Command.{Command}
use Rattle.card.specs.declared.Command.TheVariants.{Reset, Enable, Disable, Ask as Asks, Access as Accesses, Receive, Drain, PagesOn, PagesOff, PageRequest}
use Rattle.card.specs.Call.{calling, step}
use Rattle.demand3.specs.Seen.{Ticket, Taken, CPL, INV}
use Rattle.demands.specs.Observed.{terms, Noted, is_refused_with, is_listed, outcome_taken, body_taken, packet_taken, call_taken}
use Rattle.demands.proofs.Views.{is_agent, view, Proper}
use Rattle.demands.proofs.Invalidates.{place_lt}

module _ (me : Noted) (f : Function) (o : Proper me f) (out : List ℕ) (from : ℕ) (i : InvalidateRequest) where
  listed : is_listed f.waiting (bit_index i.itag) ≡ is_in f.waiting i.itag
  listed = rw (lt-ltb (bit_index i.itag) 32 (place_lt i.itag)) (in_bit_index f.waiting i.itag)

  nine : (is_refused_with 9 (commit f out (invalidated f from i)).answer ≡ true)
      ↔ ((is_agent f.agent from && is_listed f.waiting (bit_index i.itag)) ≡ true)
  unfolding invalidated
  nine = rw listed (go f.agent refl)
    where
      go : (g : Option ℕ) → f.agent ≡ g
          → (is_refused_with 9 (commit f out (cond (is_other_agent g from) (Err 10) (cond (is_in f.waiting i.itag) (Err 9) (sends_nothing (invalidated_by f from i) done)))).answer ≡ true) ↔ ((is_agent g from && is_in f.waiting i.itag) ≡ true)
      go None e = by_cases (is_in f.waiting i.itag) (λ w. absurd (o.known i.itag w e)) (λ w. rw w (λ h. no_tf (sym h), λ h. no_tf (sym h)))
      go (Some id) e = by_cases (eqb id from) (λ u. ours (eqb-true id from u)) (λ u. rw (u, other u) (λ h. no_tf (sym h), λ h. no_tf (sym h)))
        where
          other : eqb id from ≡ false → eqb from id ≡ false
          other u =
              by_cases (eqb from id) (λ v. absurd (never_both _ (eq-eqb id from (sym (eqb-true from id v))) u)) (λ v. v)

          ours : id ≡ from
              → (is_refused_with 9 (commit f out (cond (not (eqb id from)) (Err 10) (cond (is_in f.waiting i.itag) (Err 9) (sends_nothing (invalidated_by f from i) done)))).answer ≡ true) ↔ ((eqb from id && is_in f.waiting i.itag) ≡ true)
          ours s = rw (s, eq-eqb from from refl) (by_cases (is_in f.waiting i.itag) (λ w. rw w (λ h. refl, λ h. refl)) (λ w. rw w (λ h. no_tf (sym h), λ h. no_tf (sym h))))

-- an Invalidate Request for the Function is refused with 9 exactly while its ticket waits
module _ (me : Noted) (f : Function) (o : Proper me f) (bytes out : List ℕ) (i : Ticket) (a : Range) where
  abbrev Busy : Type 0
  Busy = (is_refused_with 9 (step f Receive bytes out).answer ≡ true) ↔ ((view f).waiting i ≡ true)

  of_body : (p : Packet) → reading bytes ≡ Ok p → (b : Body) → p.body ≡ b
      → body_taken me (payload_in bytes) p.head.sender b ≡ Some (INV i a) → Busy
  unfolding calling received taken
  of_body p r (Tr t) is e = no_some e
  of_body p r (Mem m) is e = no_some e
  of_body p r (Cpl c) is e =
      by_cases (eqb c.requester me.id) (λ u. of_outcome c.outcome (rw u at e)) (λ u. no_some (rw u at e))
    where
      of_outcome : (x : Outcome) → outcome_taken c.tag.0 c.count (payload_in bytes) x ≡ Some (INV i a) → Busy
      of_outcome (Data n) e = impossible cc
      of_outcome (Status n) e = by_cases (eqb n 0) (λ u. no_some (rw u at e)) (λ u. not_this n (rw u at e))
        where
          not_this : (n : ℕ) → ◌≡◌ {A = Option (Taken terms)} (Some (CPL c.tag.0 n None)) (Some (INV i a)) → Busy
          not_this n e = impossible cc
  of_body p r (Inv v) is e =
      by_cases (eqb v.device me.id)
      (λ u. let k = nine me f o out p.head.sender v in
      let same : record { agent = p.head.sender; number = bit_index v.itag } ≡ i = ticket_is (rw u at e) in
      rw (r, is, rw (← o.own) at u, ← same) k)
      (λ u. no_some (rw u at e))
    where
      ticket_is : {x : Ticket} {y : Range} → ◌≡◌ {A = Option (Taken terms)} (Some (INV x y)) (Some (INV i a)) → x ≡ i
      ticket_is e = cc
  of_body p r (Ic c) is e = no_some e
  of_body p r (Prq c) is e = no_some e
  of_body p r (Prs c) is e = no_some e

  of_reading : (x : Result Packet ℕ) → reading bytes ≡ x → packet_taken me (payload_in bytes) x ≡ Some (INV i a) → Busy
  of_reading (Ok p) r e = of_body p r p.body refl e
  of_reading (Err n) r e = no_some e

pub busy_law : (me : Noted) (f : Function) → Proper me f → (x : Command) (bytes out : List ℕ) (i : Ticket) (a : Range)
    → call_taken me x bytes ≡ Some (INV i a)
    → (is_refused_with 9 (step f x bytes out).answer ≡ true) ↔ ((view f).waiting i ≡ true)
busy_law me f o (Reset y) bytes out i a e = no_some e
busy_law me f o Enable bytes out i a e = no_some e
busy_law me f o Disable bytes out i a e = no_some e
busy_law me f o (Asks y) bytes out i a e = no_some e
busy_law me f o (Accesses y) bytes out i a e = no_some e
busy_law me f o Receive bytes out i a e = of_reading me f o bytes out i a (reading bytes) refl e
busy_law me f o Drain bytes out i a e = impossible cc
busy_law me f o (PagesOn n) bytes out i a e = no_some e
busy_law me f o PagesOff bytes out i a e = no_some e
busy_law me f o (PageRequest q) bytes out i a e = no_some e
