-- The calls that change no tag and no entry, and those that send: each preserves the invariant, and changes
-- the views as the observer sees.
use Rattle.std.specs.Prelude.{None, Ok, Option, Some}
use mathlib.Core.Path.{◌≡◌, refl, sym, ap, ◌∙◌}
use mathlib.Core.Logic.{inl, inr}
use mathlib.Core.Bool.{Bool, true, false, cond}
use mathlib.Core.List.{List, []}
use Prim.Native.Nat.{ℕ, ◌-◌, ◌*◌, ◌/◌, ◌^◌, ◌<◌, ◌≤◌, ◌%◌}
use native.Mathlib.Omega.{arith}
use lib.Dec.{eqb, leb}
use lib.ListN.{length}
use borrow.Author.Tests.{eqb-true, ltb-true, leb-true, eq-eqb, ne_eqb}
use Rattle.lemmas.proofs.Cases.{by_cases, and_both, never_both, impossible}
use Rattle.ranges.specs.declared.Range.{Range}
use Rattle.ranges.specs.Range.{units_from, unit_exponent, relocated, range_from, is_within, region_of}
use Rattle.ranges.proofs.Units.{relocated_lt, units_from_low_bits, region_again, page_in_region}
use Rattle.packet.specs.declared.ITag.{ITag}
use Rattle.packet.specs.declared.Tag.{Tag}
use Rattle.packet.specs.declared.Access.TheVariants.{Read as Fetches, Write}
use Rattle.packet.specs.declared.PageRequest.{PageRequest}
use Rattle.packet.proofs.Laws.{check_passed}
use Rattle.packet.specs.Forms.{dword_count}
use Rattle.tlp.proofs.Fields.{typed_request, typed_access, typed_page}
use Rattle.atc.specs.declared.Entry.{Entry}
use Rattle.atc.specs.Cache.{entry_at, found, emptied}
use Rattle.atc.proofs.Laws.{laws}
use Rattle.tags.specs.declared.TagState.{TagState}
use Rattle.tags.specs.declared.TagState.TheVariants.{Free, Translate, Read}
use Rattle.tags.specs.declared.PendingTranslation.{PendingTranslation}
use Rattle.tags.specs.Itags.{is_in}
use Rattle.tags.specs.Tags.{new_translation, new_read, free_tag, tag_state, is_tag, delayed_by, stale_state}
use Rattle.tags.proofs.Laws.{in_none, all_stale_long, tag_state_all_stale, free_tag_lem, translation_range_units}
use Rattle.pages.specs.declared.Pages.{Pages}
use Rattle.state.specs.declared.Function.{Function}
use Rattle.state.specs.State.{with_pages, with_tag, with_enable, head_of}
use Rattle.state.proofs.Laws.{Does}
use Rattle.call_ask.specs.Ask.{is_askable, translation_request_packet}
use Rattle.call_ask.proofs.AskLaws.{few_units}
use Rattle.call_access.specs.declared.Direction.{Direction}
use Rattle.call_access.specs.declared.Direction.TheVariants.{Read as ToRead, Write as ToWrite}
use Rattle.call_access.specs.declared.Target.{Target}
use Rattle.call_access.specs.Access.{memory_request_packet, unit_at, is_allowed, through_found, target_of, is_in_page, looking_up}
use Rattle.call_page.specs.PageRequests.{page_request_packet, with_request}
use Rattle.call_ask.specs.declared.AskArgs.{AskArgs}
use Rattle.call_access.specs.declared.AccessArgs.{AccessArgs}
use Rattle.card.specs.declared.Command.{Command}
use Rattle.card.specs.declared.Command.TheVariants.{Enable, Ask as Asks, Access as Accesses, PageRequest as PageRequests}
use Rattle.lemmas.proofs.Bools.{no_tf, no_some}
use Rattle.demand3.specs.Seen.{Ticket, Sent, TR, READ}
use Rattle.demand3.specs.History.{Pending, translation, on_sent, uses, reaches, completes, goes_direct}
use Rattle.demand3.proofs.Laws.{Step, Through}
use Rattle.tlp.specs.Bytes.{are_bytes}
use Rattle.demands.specs.Observed.{Wanted, terms, is_typed, Call, Noted, address_for, itag}
use Rattle.demands.proofs.Views.{own_packet, no_entry_lem, tag, pending_of, live_of, view, Proper, Good, good_plain, good_send, quiet, writes}
use Rattle.demands.proofs.Tags.{at_own, at_other, left_ok}
use Rattle.demands.proofs.Marks.{stale_pending, stale_live, stale_delayed}
use Rattle.state.specs.State.{with_cache, with_tags}
use Rattle.state.specs.Answers.{sends_nothing, sends, done}
use Rattle.call_ask.specs.Ask.{ask_with_tag}
use Rattle.call_access.specs.Access.{read_from, write_to}
use Rattle.tags.specs.Tags.{all_stale}

-- ---- changes of E and the page interface only

module _ (me : Noted) (f : Function) (o : Proper me f) where
  -- the rest of the state is unchanged
  pub same_ok : (enabled : Bool) (p : Pages) → Proper me (with_pages (with_enable f enabled) p)
  same_ok enabled p =
      record {
        unit = o.unit;
        own = o.own;
        id = o.id;
        agent = o.agent;
        cache = o.cache;
        reached = o.reached;
        tags = o.tags;
        begun = o.begun;
        vector = o.vector;
        noted = o.noted;
        known = o.known;
      }

module _ (me : Noted) (f : Function) (o : Proper me f) (bytes out : List ℕ) (octets : are_bytes bytes ≡ true) where
  abbrev simple : (c : Command) → is_typed c ≡ true → Call
  simple c ty = record { command = c; bytes = bytes; out = out; typed = ty; octets = octets }

  -- ---- setting E
  pub good_enable : (ty : is_typed Enable ≡ true)
      → Does (Good me f (simple Enable ty)) (sends_nothing (with_enable (with_cache (with_tags f (all_stale f.tags)) (emptied f.cache)) true) done)
  good_enable ty =
      good_plain me f (simple Enable ty) _ _
      (record {
        unit = o.unit;
        own = o.own;
        id = o.id;
        agent = o.agent;
        cache = laws.empty_sound f.cache;
        reached = λ j e h. no_some (sym (laws.empty_entry f.cache j) ∙ h);
        tags = all_stale_long f.tags ∙ o.tags;
        begun = λ t q h. old t q (tag_state f.tags t) refl (sym (tag_state_all_stale f.tags t) ∙ h);
        vector = o.vector;
        noted = λ t i h. o.noted t i (sym (ap (λ (n : ℕ). is_in n i) (ap delayed_by (tag_state_all_stale f.tags t) ∙ stale_delayed (tag_state f.tags t))) ∙ h);
        known = o.known;
      })
      (record {
        opens = λ t. ap pending_of (tag_state_all_stale f.tags (tag t)) ∙ stale_pending (tag_state f.tags (tag t));
        unused = λ t e. no_tf (sym e);
        live = λ t l. inl (stale_live (tag_state f.tags (tag t)) (sym (ap live_of (tag_state_all_stale f.tags (tag t))) ∙ l));
        through = λ b k e. no_some e;
        direct = λ b k e. no_some e;
        entries = λ j x h. no_some (sym (no_entry_lem f.stu (entry_at (emptied f.cache) j) (laws.empty_entry f.cache j)) ∙ h);
        waiting = λ i. refl;
        waits_for = λ i t e. ap (λ (n : ℕ). is_in n (itag i.number)) (ap delayed_by (tag_state_all_stale f.tags (tag t)) ∙ stale_delayed (tag_state f.tags (tag t)));
        carried = λ i. refl;
        first = λ i a p. no_some p;
        lasts = λ g e. e;
        not_yet = λ i a p. no_some p;
        dropped = λ i a p. no_some p;
        stale = λ i a p. no_some p;
      })
    where
      old : (t : Tag) (q : PendingTranslation) (x : TagState) → tag_state f.tags t ≡ x → stale_state x ≡ Translate q
          → (q.stu ≡ f.stu) × (q.due ≡ 0 → q.whole ≡ 0)
      old t q Free h e = impossible cc
      old t q (Translate p) h e =
          let w : p.whole ≡ q.whole = cc in
          let v : p.due ≡ q.due = cc in
          let unit : p.stu ≡ q.stu = cc in
          (sym unit ∙ (o.begun t p h).0, λ d. sym w ∙ (o.begun t p h).1 (v ∙ d))
      old t q (Read r) h e = impossible cc

-- ---- a new request

module _ (me : Noted) (f : Function) (o : Proper me f) (t : Tag) (own : is_tag t ≡ true) (b : TagState) where
  opened_ok : ((q : PendingTranslation) → b ≡ Translate q → (q.stu ≡ f.stu) × (q.due ≡ 0 → q.whole ≡ 0))
      → ((i : ITag) → is_in (delayed_by b) i ≡ false) → Proper me (with_tag f t b)
  opened_ok begins notes = left_ok me f o t own b f.enabled f.cache o.cache o.reached begins (λ i e. absurd (never_both _ e (notes i)))

  -- a request is sent with a free tag
  pub open_step : tag_state f.tags t ≡ Free → (x : Sent terms) → ((u : ℕ) → uses u (Some x) ≡ eqb u t.0)
      → ((u : ℕ) (p : Option (Pending terms)) → on_sent u (Some x) p ≡ cond (eqb u t.0) (pending_of b) p)
      → ((i : Ticket) → completes i (Some x) ≡ false) → ((i : ITag) → is_in (delayed_by b) i ≡ false)
      → ((w : Wanted) (k : ℕ) → reaches (Some x) ≡ Some (w, k) → Through (view f) w k)
      → ((w : Wanted) (k : ℕ) → goes_direct (Some x) ≡ Some (w, k) → terms.asked w k ≡ true)
      → Step 32 (view f) (view (with_tag f t b)) (record { took = None; sent = Some x })
  open_step free x used opened carries unnoted served plain =
      record {
        opens = λ u. by_cases (eqb u t.0) (λ e. ap pending_of (at_own me f o t own b (tag u) e) ∙ sym (opened u (pending_of (tag_state f.tags (tag u))) ∙ rw e refl))
            (λ e. ap pending_of (at_other me f o t own b (tag u) e) ∙ sym (opened u (pending_of (tag_state f.tags (tag u))) ∙ rw e refl));
        unused = λ u e. let same = eqb-true u t.0 (sym (used u) ∙ e) in rw same (ltb-true t.0 32 own, ap pending_of free);
        live = λ u l. by_cases (eqb u t.0) (λ e. inr (used u ∙ e)) (λ e. inl (sym (ap live_of (at_other me f o t own b (tag u) e)) ∙ l));
        entries = λ j e h. inl (j, h);
        through = served;
        direct = plain;
        waiting = λ i. rw (carries i) refl;
        waits_for = λ i u w. by_cases (eqb u t.0)
            (λ e. let same = eqb-true u t.0 e in ap (λ (z : TagState). is_in (delayed_by z) (itag i.number)) (at_own me f o t own b (tag u) e) ∙ rw (same, free) (unnoted (itag i.number) ∙ sym (in_none (itag i.number))))
            (λ e. ap (λ (z : TagState). is_in (delayed_by z) (itag i.number)) (at_other me f o t own b (tag u) e));
        carried = λ i. carries i;
        first = λ i a p. no_some p;
        lasts = λ g e. e;
        not_yet = λ i a p. no_some p;
        dropped = λ i a p. no_some p;
        stale = λ i a p. no_some p;
      }

-- ---- ask

module _ (me : Noted) (f : Function) (o : Proper me f) (a : AskArgs) (bytes out : List ℕ) (ty : is_typed (Asks a) ≡ true) (octets : are_bytes bytes ≡ true) where
  abbrev ask_call : Call
  ask_call = record { command = Asks a; bytes = bytes; out = out; typed = ty; octets = octets }

  abbrev new_request_lem : PendingTranslation
  new_request_lem =
      record { address = a.address; further = a.units - 1; stu = f.stu; stale = false; size = 0; whole = 0; due = 0 }

  asks_units : (units : ℕ) → 1 ≤ units → dword_count (2 * units) / 2 - 1 ≡ units - 1
  asks_units units h = rw (ne_eqb (2 * units) 0 (omega arith)) (omega arith)

  pub good_ask : (t : Tag) → is_askable f.rcb f.stu a ≡ true → free_tag f.tags ≡ Some t
      → Does (Good me f ask_call) (ask_with_tag f t a out)
  good_ask t few e =
      let b = new_translation a.address (a.units - 1) f.stu in
      let n = few_units f.rcb f.stu a few in
      let free = free_tag_lem f.tags t o.tags e in
      let own = free.0 in
      good_send me f ask_call _ _ (translation_request_packet f.id t a) []
      (typed_request (head_of f.id) o.id _ (omega (arith, ltb-true t.0 32 own)) (omega (arith, ltb-true a.address (2 ^ 64) ty))) (own_packet me (translation_request_packet f.id t a) (ap head_of o.own) refl)
      (opened_ok me f o t own b (λ q e. (let unit : f.stu ≡ q.stu = cc in sym unit, λ d. let z : 0 ≡ q.whole = cc in sym z)) in_none) (λ i. refl)
      (rw (asks_units a.units n.0, units_from_low_bits a.address (a.units - 1) me.stu, ← o.unit)
      (open_step me f o t own b free.1 (TR t.0 (record { stu = f.stu; range = units_from a.address (a.units - 1) f.stu })) (λ u. refl)
      (λ u p. ap (λ (r : Range). cond {A = Option (Pending terms)} (eqb u t.0) (Some (translation (record { stu = f.stu; range = r }) 0)) p) (sym (translation_range_units new_request_lem))) (λ i. refl) in_none (λ w k e. no_some e) (λ w k e. no_some e)))

-- ---- access

-- the target of an access, that it has at least one DWORD, and the entry that it uses
pub record Goes (f : Function) (address dwords : ℕ) (at : Target) : Type 0 where
  pub least : 1 ≤ dwords
  pub inside : at.address < 2 ^ 64
  pub by : at.translated ≡ true
      → Through (view f) (record { address = Some address; bytes = 4 * dwords }) at.address
  pub direct : at.translated ≡ false → at.address ≡ address

module _ (me : Noted) (f : Function) (o : Proper me f) (a : AccessArgs) (bytes out : List ℕ) (ty : is_typed (Accesses a) ≡ true) (octets : are_bytes bytes ≡ true) where
  abbrev access_call : Call
  access_call = record { command = Accesses a; bytes = bytes; out = out; typed = ty; octets = octets }

  goes : (at : Target) → looking_up f a (length bytes) ≡ Ok at → Goes f a.address a.dwords at
  unfolding looking_up
  goes at e =
      let on = check_passed f.enabled 6 _ e in
      let page = check_passed (is_in_page a.address a.dwords) 12 _ on.1 in
      let load = check_passed (eqb (length bytes) _) 12 _ page.1 in
      record {
        least = leb-true 1 a.dwords (and_both (leb 1 a.dwords) _ page.0).0;
        inside = (entered (found f.cache (unit_at f.stu a.address)) refl load.1).0;
        by = (entered (found f.cache (unit_at f.stu a.address)) refl load.1).1.0;
        direct = (entered (found f.cache (unit_at f.stu a.address)) refl load.1).1.1;
      }
    where
      -- all bytes of the access lie in the unit of the entry
      in_unit : (x : Entry) → x.unit ≡ unit_at f.stu a.address
          → is_within (range_from a.address (4 * a.dwords - 1)) (region_of x.unit (unit_exponent f.stu)) ≡ true
      in_unit x is =
          let on = check_passed f.enabled 6 _ e in
          let page = (check_passed (is_in_page a.address a.dwords) 12 _ on.1).0 in
          let Some = and_both (leb 1 a.dwords) _ page in
          let few = and_both (leb a.dwords 32) _ Some.1 in
          let dword = and_both (eqb (a.address % 4) 0) _ few.1 in
          rw (is, region_again a.address (unit_exponent f.stu))
          (page_in_region a.address (4 * a.dwords) (unit_exponent f.stu) (omega arith) (omega (arith, leb-true 1 a.dwords Some.0)) (leb-true _ 4096 dword.1))

      entered : (x : Option Entry) → found f.cache (unit_at f.stu a.address) ≡ x
          → through_found a.direction f.stu a.address x ≡ Ok at
          → (at.address < 2 ^ 64)
          × ((at.translated ≡ true → Through (view f) (record { address = Some a.address; bytes = 4 * a.dwords }) at.address)
          × (at.translated ≡ false → at.address ≡ a.address))
      entered None h q = impossible cc
      entered (Some x) h q =
          let s = laws.found_is f.cache o.cache (unit_at f.stu a.address) x h in
          let there : entry_at f.cache s.1.0 ≡ Some x = s.1.1 in
          let to : x.to < 2 ^ 64 = o.reached s.1.0 x there in
          let g = (check_passed (is_allowed a.direction x) 14 _ q).1 in
          let same : target_of f.stu a.address x ≡ at = cc in
          rw (← same) (by_cases x.u
          (λ u. rw u (ltb-true a.address (2 ^ 64) ty, (λ e. no_tf (sym e), λ e. refl)))
          (λ u. rw u (
            relocated_lt x.to a.address (unit_exponent f.stu) to,
            (
              λ e. record {
                entry = record { used = true; stu = f.stu; entry = x };
                held = (s.1.0, rw there refl);
                serves = rw (in_unit x s.0, u, eq-eqb (relocated x.to a.address (unit_exponent f.stu)) _ refl);
              },
              λ e. no_tf e,
            ),
          )))

  -- a translated access uses the entry
  served : (direction : Direction) → a.direction ≡ direction → (at : Target) → Goes f a.address a.dwords at
      → (bytes : ℕ) → bytes ≡ 4 * a.dwords → (w : Wanted) (k : ℕ)
      → cond {A = Option (Wanted × ℕ)} at.translated (Some (record { address = address_for direction (Accesses a); bytes = bytes }, at.address)) None ≡ Some (w, k)
      → Through (view f) w k
  served direction is at g bytes many w k e =
      by_cases at.translated (λ t. go t (rw (t, same_way direction is) at e)) (λ t. no_some (rw t at e))
    where
      same_way : (direction : Direction) → a.direction ≡ direction
          → address_for direction (Accesses a) ≡ Some a.address
      same_way ToRead h = rw h
      same_way ToWrite h = rw h

      go : at.translated ≡ true
          → ◌≡◌ {A = Option (Wanted × ℕ)} (Some (record { address = Some a.address; bytes = bytes }, at.address)) (Some (w, k))
          → Through (view f) w k
      go t q =
          let both : ◌≡◌ {A = Wanted × ℕ} (record { address = Some a.address; bytes = bytes }, at.address) (w, k) = cc in
          let one : record { address = Some a.address; bytes = bytes } ≡ w = ap (λ (z : Wanted × ℕ). z.0) both in
          let two : at.address ≡ k = ap (λ (z : Wanted × ℕ). z.1) both in
          rw (one, two) at (rw (sym many) at (g.by t))

  -- an untranslated access goes to the address that was asked for
  asked_for : (direction : Direction) → a.direction ≡ direction → (at : Target) → Goes f a.address a.dwords at
      → (bytes : ℕ) (w : Wanted) (k : ℕ)
      → cond {A = Option (Wanted × ℕ)} at.translated None (Some (record { address = address_for direction (Accesses a); bytes = bytes }, at.address)) ≡ Some (w, k)
      → terms.asked w k ≡ true
  asked_for direction is at g bytes w k e =
      by_cases at.translated (λ t. no_some (rw t at e)) (λ t. go t (rw (t, same_way direction is) at e))
    where
      same_way : (direction : Direction) → a.direction ≡ direction
          → address_for direction (Accesses a) ≡ Some a.address
      same_way ToRead h = rw h
      same_way ToWrite h = rw h

      go : at.translated ≡ false
          → ◌≡◌ {A = Option (Wanted × ℕ)} (Some (record { address = Some a.address; bytes = bytes }, at.address)) (Some (w, k))
          → terms.asked w k ≡ true
      go t q =
          let both : ◌≡◌ {A = Wanted × ℕ} (record { address = Some a.address; bytes = bytes }, at.address) (w, k) = cc in
          let one : record { address = Some a.address; bytes = bytes } ≡ w = ap (λ (z : Wanted × ℕ). z.0) both in
          let two : at.address ≡ k = ap (λ (z : Wanted × ℕ). z.1) both in
          rw (← one, ← two, g.direct t) (eq-eqb a.address a.address refl)

  pub good_write : (at : Target) → a.direction ≡ ToWrite → looking_up f a (length bytes) ≡ Ok at
      → Does (Good me f access_call) (write_to f at a.dwords bytes out)
  good_write at is up =
      let g = goes at up in
      good_send me f access_call _ _ (memory_request_packet f.id Write a.dwords at) bytes (typed_access (head_of f.id) o.id _ tt g.inside) (own_packet me (memory_request_packet f.id Write a.dwords at) (ap head_of o.own) refl) o (λ i. refl)
      (writes (view f) at.translated _ at.address (served ToWrite is at g _ (rw (ne_eqb a.dwords 0 (omega (arith, g.least))))) (asked_for ToWrite is at g _))

  pub good_read : (at : Target) (t : Tag) → a.direction ≡ ToRead → looking_up f a (length bytes) ≡ Ok at
      → free_tag f.tags ≡ Some t → Does (Good me f access_call) (read_from f t at a bytes out)
  good_read at t is up e =
      let g = goes at up in
      let free = free_tag_lem f.tags t o.tags e in
      let own = free.0 in
      let b = new_read a.address (4 * a.dwords) at.translated in
      good_send me f access_call _ _ (memory_request_packet f.id (Fetches t) a.dwords at) bytes
      (typed_access (head_of f.id) o.id _ (omega (arith, ltb-true t.0 32 own)) g.inside) (own_packet me (memory_request_packet f.id (Fetches t) a.dwords at) (ap head_of o.own) refl)
      (opened_ok me f o t own b (λ q e. impossible cc) in_none) (λ i. refl)
      (rw (is, ne_eqb a.dwords 0 (omega (arith, g.least)))
      (open_step me f o t own b free.1 (READ t.0 at.translated (record { address = Some a.address; bytes = 4 * a.dwords }) at.address) (λ u. refl) (λ u p. refl) (λ i. refl) in_none
      (λ w k e. served ToRead is at g (4 * a.dwords) refl w k (rw is e)) (λ w k e. asked_for ToRead is at g (4 * a.dwords) w k (rw is e))))

-- ---- page requests

module _ (me : Noted) (f : Function) (o : Proper me f) (q : PageRequest) (bytes out : List ℕ) (ty : is_typed (PageRequests q) ≡ true) (octets : are_bytes bytes ≡ true) where
  abbrev page_call : Call
  page_call = record { command = PageRequests q; bytes = bytes; out = out; typed = ty; octets = octets }

  pub good_page : Does (Good me f page_call) (sends (with_pages f (with_request f.pages q)) done (page_request_packet f.id q) [] out)
  good_page =
      good_send me f page_call _ _ (page_request_packet f.id q) [] (typed_page (head_of f.id) o.id q (ltb-true q.page (2 ^ 64) ty)) (own_packet me (page_request_packet f.id q) (ap head_of o.own) refl) (same_ok me f o f.enabled (with_request f.pages q)) (λ i. refl) (quiet (view f))
