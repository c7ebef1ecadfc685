-- The card satisfies demand 3.
use Rattle.std.specs.Prelude.{Err, Ok, Result, None, Some}
use mathlib.Core.Path.{◌≡◌, refl, sym, ap, ◌∙◌}
use mathlib.Core.Bool.{Bool, true, false, not, cond, ◌&&◌}
use mathlib.Core.List.{List, [], ◌++◌}
use Prim.Native.Nat.{ℕ, ◌^◌, ◌<◌}
use lib.Dec.{leb, lit≤}
use lib.ListN.{length, drop, take}
use borrow.Author.Tests.{ltb-true}
use Rattle.lemmas.proofs.Cases.{by_cases, and_both, never_both, impossible}
use Rattle.ranges.specs.declared.Range.{Range}
use Rattle.packet.specs.Reading.{reading}
use Rattle.tlp.proofs.Laws.{nothing_reads}
use Rattle.atc.specs.Cache.{entry_at, blank}
use Rattle.atc.proofs.Laws.{laws}
use Rattle.tags.specs.declared.TagState.{TagState}
use Rattle.tags.specs.declared.TagState.TheVariants.{Free, Translate}
use Rattle.tags.specs.Itags.{is_in}
use Rattle.tags.specs.Tags.{delayed_by}
use Rattle.tags.proofs.Laws.{in_none, free_tag_state}
use Rattle.translations.specs.declared.Rcb.{Rcb}
use Rattle.state.specs.declared.Function.{Function}
use Rattle.state.specs.State.{fresh, is_rcb, rcb_of}
use Rattle.state.specs.Answers.{Success, Observed, commit}
use Rattle.state.specs.Switches.{resetting}
use Rattle.state.proofs.Laws.{Does, does_refusal}
use Rattle.card.specs.declared.Command.{Command}
use Rattle.card.specs.declared.Command.TheVariants.{Reset, Enable, Disable, Ask as Asks, Access as Accesses, Receive, Drain, PagesOn, PagesOff, PageRequest}
use Rattle.card.specs.Call.{calling, step}
use Rattle.lemmas.proofs.Bools.{no_tf, no_some}
use Rattle.demand3.specs.Seen.{Ticket}
use Rattle.demand3.specs.History.{accepts}
use Rattle.demand3.specs.Runs.{Bench, resets}
use Rattle.demand3.specs.Order.{Order}
use Rattle.demand3.proofs.Laws.{Step}
use Rattle.demand3.proofs.Theorem.{Blank, Lawful, order}
use Rattle.tlp.specs.Bytes.{are_bytes}
use Rattle.demands.specs.Observed.{is_typed, Call, is_refused, is_reset, Noted, noted_after, call_taken, packet_sent, is_packet, card}
use Rattle.demands.proofs.Views.{tag, pending_of, view, Proper, Good, good_plain, quiet, no_entry_lem}
use Rattle.demands.proofs.Sends.{same_ok, good_enable, good_ask, good_read, good_write, good_page}
use Rattle.demands.proofs.Drains.{good_idle, good_drain}
use Rattle.demands.proofs.Taken.{taken_law}
use Rattle.demands.proofs.Nine.{busy_law}
use Rattle.demands.proofs.Receives.{good_ends, good_goes_on, good_fails, good_aborts, good_switches, good_off, good_first, good_first_dead, good_last, good_last_dead, good_invalidate, good_response}
use Rattle.pages.specs.Pages.{switched_on, switched_off}
use Rattle.card.proofs.Cases.{Cases, cases}

-- ---- one call

module _ (me : Noted) (f : Function) (o : Proper me f) where
  module _ (bytes out : List ℕ) (are : are_bytes bytes ≡ true) where
    -- a call that is not an accepted reset preserves the invariant, and changes the views as the observer sees
    abbrev Keeps : Command → Result Success ℕ → Type 0
    Keeps x s =
        (ty : is_typed x ≡ true) → (not (is_refused (commit f out s).answer) && is_reset x) ≡ false
        → Does (Good me f (record { command = x; bytes = bytes; out = out; typed = ty; octets = are })) s

    each : Cases f bytes out Keeps
    each =
        record {
          refused = λ x n l ty u. does_refusal _ n;
          refused_kind = λ p r n l ty u. does_refusal _ n;
          reset = λ a s b ty u. no_tf u;
          enabled = λ ty u. good_plain me f _ _ _ o (quiet (view f));
          enable = λ ty u. good_enable me f o bytes out are ty;
          disable = λ ty u. good_plain me f _ _ _ (same_ok me f o false f.pages) (quiet (view f));
          pages_on = λ n g ty u. good_plain me f _ _ _ (same_ok me f o f.enabled (switched_on n)) (quiet (view f));
          pages_off = λ ty u. good_plain me f _ _ _ (same_ok me f o f.enabled switched_off) (quiet (view f));
          pages_not_on = λ ty u. good_plain me f _ _ _ o (quiet (view f));
          ask = λ a t few e ty u. good_ask me f o a bytes out ty are t few e;
          read = λ a at t w l e ty u. good_read me f o a bytes out ty are at t w l e;
          write = λ a at w l ty u. good_write me f o a bytes out ty are at w l;
          drains_none = λ z ty u. good_idle me f o bytes out ty are z;
          drains = λ z ty u. good_drain me f o bytes out ty are z;
          page = λ q e s ty u. good_page me f o q bytes out ty are;
          read_ends = λ x r n a h d c z ty u. good_ends me f o bytes out ty are x a r h n d c z;
          read_goes_on = λ x r n a h d c l z ty u. good_goes_on me f o bytes out ty are x a r h n d c l z;
          read_fails = λ x r s a h d z ty u. good_fails me f o bytes out ty are x a r h s d z;
          aborts = λ x q s a h d z ty u. good_aborts me f o bytes out ty are x a q h s d z;
          switches_off = λ x q s a h d z ty u. good_switches me f o bytes out ty are x a q h s d z;
          off_boundary = λ x q n a h d j ty u. good_off me f o bytes out ty are x a q h n d j;
          first_discarded = λ x q n a h d j ty u. good_first_dead me f o bytes out ty are x a q h n d j;
          last_discarded = λ x q n a h d j ty u. good_last_dead me f o bytes out ty are x a q h n d j;
          first_fills = λ x q n a h d j l ty u. good_first me f o bytes out ty are x a q h n d j l;
          last_fills = λ x q n a h d j l ty u. good_last me f o bytes out ty are x a q h n d j l;
          invalidates = λ i a e w ty u. good_invalidate me f o bytes out ty are i a e w;
          answers_group = λ s a ty u. good_response me f o bytes out ty are s a _;
          stops_pages = λ s a ty u. good_response me f o bytes out ty are s a _;
        }

  good : (x : Command) (bytes out : List ℕ) (ty : is_typed x ≡ true) (are : are_bytes bytes ≡ true)
      → (not (is_refused (step f x bytes out).answer) && is_reset x) ≡ false
      → Does (Good me f (record { command = x; bytes = bytes; out = out; typed = ty; octets = are })) (calling f x bytes out)
  good x bytes out ty are u = cases f bytes out _ (each bytes out are) x ty u

  -- the state after a call, and what the observer sees; a refused call changes nothing, and the observer sees nothing
  pub record Done (c : Call) (r : Observed) : Type 0 where
    pub ok : Proper me r.state
    pub step : Step 32 (view f) (view r.state)
        (record {
          took = cond (is_refused r.answer) None (call_taken me c.command c.bytes);
          sent = packet_sent me.stu c.command (reading (take r.sent r.buffer));
        })
    pub legible : is_packet me (take r.sent r.buffer) ≡ true
    pub written : r.buffer ≡ take r.sent r.buffer ++ drop (length (take r.sent r.buffer)) c.out
    pub apart : (i : Ticket) (a : Range)
        → accepts i (cond (is_refused r.answer) None (call_taken me c.command c.bytes)) ≡ Some a
        → take r.sent r.buffer ≡ []

  done : (c : Call) (s : Result Success ℕ) → Does (Good me f c) s → Done c (commit f c.out s)
  done c (Ok d) h =
      let g = h.success d refl in record { ok = g.ok; step = g.step; legible = g.legible; written = g.written; apart = g.apart }
  done c (Err n) h =
      record { ok = o; step = rw nothing_reads (quiet (view f)); legible = refl; written = refl; apart = λ i a e. refl }

-- ---- a Function after a reset, or new

pub fresh_ok : (id stu : ℕ) (rcb : Rcb) → id < 65536 → Proper (record { id = id; stu = stu }) (fresh id stu rcb)
fresh_ok id stu rcb h =
    record {
      unit = refl;
      own = refl;
      id = h;
      agent = lit≤ tt;
      cache = laws.new_sound;
      reached = λ j e h. no_some (sym (laws.new_entry j) ∙ h);
      tags = refl;
      begun = λ t q e. let z : Free ≡ Translate q = sym (free_tag_state t) ∙ e in impossible cc;
      vector = lit≤ tt;
      noted = λ t i e. absurd (never_both _ (sym (ap (λ (x : TagState). is_in (delayed_by x) i) (free_tag_state t)) ∙ e) (in_none i));
      known = λ i e. absurd (never_both _ e (in_none i));
    }

fresh_blank : (id stu : ℕ) (rcb : Rcb) → Blank (view (fresh id stu rcb))
fresh_blank id stu rcb = record { held = λ j. no_entry_lem stu (entry_at blank j) (laws.new_entry j); opens = λ t. ap pending_of (free_tag_state (tag t)); waiting = λ i. refl }

-- ---- every run

-- only an accepted reset changes the notes
same_notes : (r : Bool) (x : Command) (me : Noted) → (not r && is_reset x) ≡ false → cond r me (noted_after me x) ≡ me
same_notes true x me e = refl
same_notes false (Reset a) me e = no_tf e
same_notes false Enable me e = refl
same_notes false Disable me e = refl
same_notes false (Asks a) me e = refl
same_notes false (Accesses a) me e = refl
same_notes false Receive me e = refl
same_notes false Drain me e = refl
same_notes false (PagesOn n) me e = refl
same_notes false PagesOff me e = refl
same_notes false (PageRequest q) me e = refl

after_call : (s : Bench card) (c : Call) → resets card s c ≡ false → (o : Proper s.notes s.fn)
    → Done s.notes s.fn o c (step s.fn c.command c.bytes c.out)
after_call s c u o = done s.notes s.fn o c (calling s.fn c.command c.bytes c.out) (good s.notes s.fn o c.command c.bytes c.out c.typed c.octets u)

-- an accepted reset leaves a fresh Function, and sends nothing
pub record Afresh (me : Noted) (out : List ℕ) (r : Observed) : Type 0 where
  pub ok : Proper me r.state
  pub blank : Blank (view r.state)
  pub silent : take r.sent r.buffer ≡ []
  pub unwritten : r.buffer ≡ out

after_reset : (f : Function) (me : Noted) (x : Command) (bytes out : List ℕ) → is_typed x ≡ true
    → not (is_refused (step f x bytes out).answer) ≡ true → is_reset x ≡ true
    → Afresh (cond (is_refused (step f x bytes out).answer) me (noted_after me x)) out (step f x bytes out)
unfolding calling resetting
after_reset f me (Reset a) bytes out ty e r = by_cases (leb a.stu 31)
    (λ g. by_cases (is_rcb a.rcb)
    (λ h. rw (g, h) (record { ok = fresh_ok a.id a.stu (rcb_of a.rcb) (ltb-true a.id (2 ^ 16) ty); blank = fresh_blank a.id a.stu (rcb_of a.rcb); silent = refl; unwritten = refl }))
    (λ h. no_tf (sym (rw (g, h) at e))))
    (λ g. no_tf (sym (rw g at e)))
after_reset f me Enable bytes out ty e r = no_tf (sym r)
after_reset f me Disable bytes out ty e r = no_tf (sym r)
after_reset f me (Asks a) bytes out ty e r = no_tf (sym r)
after_reset f me (Accesses a) bytes out ty e r = no_tf (sym r)
after_reset f me Receive bytes out ty e r = no_tf (sym r)
after_reset f me Drain bytes out ty e r = no_tf (sym r)
after_reset f me (PagesOn n) bytes out ty e r = no_tf (sym r)
after_reset f me PagesOff bytes out ty e r = no_tf (sym r)
after_reset f me (PageRequest q) bytes out ty e r = no_tf (sym r)

afresh : (s : Bench card) (c : Call) → resets card s c ≡ true
    → Afresh (cond (is_refused (step s.fn c.command c.bytes c.out).answer) s.notes (noted_after s.notes c.command)) c.out (step s.fn c.command c.bytes c.out)
afresh s c e =
    let b = and_both (not (is_refused (step s.fn c.command c.bytes c.out).answer)) (is_reset c.command) e in
    after_reset s.fn s.notes c.command c.bytes c.out c.typed b.0 b.1

pub lawful : Lawful card
lawful =
    record {
      view = λ s. view s.fn;
      held = λ s j. refl;
      Proper = λ s. Proper s.notes s.fn;
      keeps = λ s c u o. rw (same_notes (is_refused (step s.fn c.command c.bytes c.out).answer) c.command s.notes u) (after_call s c u o).ok;
      law = λ s c u o. (after_call s c u o).step;
      legible = λ s c u o. (after_call s c u o).legible;
      apart = λ s c u o. (after_call s c u o).apart;
      taken = λ s c u o r. taken_law s.notes s.fn o c.command c.bytes c.out r;
      busy = λ s c o i a e. busy_law s.notes s.fn o c.command c.bytes c.out i a e;
      written = λ s c u o. (after_call s c u o).written;
      silent = λ s c e. ((afresh s c e).silent, (afresh s c e).unwritten);
      reset = λ s c e. ((afresh s c e).ok, (afresh s c e).blank);
      new = (fresh_ok 0 0 (rcb_of 64) (lit≤ tt), fresh_blank 0 0 (rcb_of 64));
    }

-- from any state, once a reset is accepted, and from a new Function
pub keeps_order : Order card
keeps_order = order card lawful
