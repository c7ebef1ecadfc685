-- Every way in which a call can end, with what is known there. What holds in each case holds for every call.
use Rattle.std.specs.Prelude.{Err, None, Ok, Option, Result, Some}
use mathlib.Core.Path.{◌≡◌, refl}
use mathlib.Core.Bool.{Bool, true, false}
use mathlib.Core.List.{List, [], ◌∷◌}
use Prim.Native.Nat.{ℕ, ◌-◌}
use lib.Dec.{eqb, leb}
use lib.ListN.{length}
use Rattle.lemmas.proofs.Cases.{either_case}
use Rattle.packet.specs.declared.Tag.{Tag}
use Rattle.packet.specs.declared.Packet.{Packet}
use Rattle.packet.specs.declared.Body.{Body}
use Rattle.packet.specs.declared.Body.TheVariants.{Tr, Mem, Cpl, Inv, Ic, Prq, Prs}
use Rattle.packet.specs.declared.Completion.{Completion}
use Rattle.packet.specs.declared.Outcome.{Outcome}
use Rattle.packet.specs.declared.Outcome.TheVariants.{Data, Status}
use Rattle.packet.specs.declared.InvalidateRequest.{InvalidateRequest}
use Rattle.packet.specs.declared.PageRequest.{PageRequest}
use Rattle.packet.specs.declared.PrgResponse.{PrgResponse}
use Rattle.packet.specs.Numbers.{check, refuse}
use Rattle.packet.specs.Among.{is_among}
use Rattle.packet.proofs.Among.{Among, every_one_lem, reading_numbers}
use Rattle.packet.specs.Reading.{reading, payload_in}
use Rattle.atc.specs.Cache.{emptied}
use Rattle.tags.specs.declared.TagState.{TagState}
use Rattle.tags.specs.declared.TagState.TheVariants.{Free, Translate, Read}
use Rattle.tags.specs.declared.PendingTranslation.{PendingTranslation}
use Rattle.tags.specs.declared.PendingRead.{PendingRead}
use Rattle.tags.specs.Itags.{is_in, without}
use Rattle.tags.specs.Tags.{free_tag, tag_state, all_stale}
use Rattle.pages.specs.declared.Interface.{Interface}
use Rattle.pages.specs.declared.Interface.TheVariants.{Off, On, Stopped}
use Rattle.pages.specs.Pages.{is_waiting, is_spent, switched_on, switched_off, stopped}
use Rattle.translations.specs.declared.Part.{Part}
use Rattle.translations.specs.declared.Part.TheVariants.{Misfit, OffBoundary, First, Last}
use Rattle.translations.specs.Fits.{classified}
use Rattle.translations.specs.Fills.{applied, after_first}
use Rattle.state.specs.declared.Function.{Function}
use Rattle.state.specs.declared.ResetArgs.{ResetArgs}
use Rattle.state.specs.State.{is_rcb, rcb_of, fresh, with_enable, with_waiting, with_cache, with_tags, with_pages, with_tag}
use Rattle.state.specs.Answers.{Success, done, discarded, more, filled, aborted, switched_off as switchedOffBy, payload_more, payload_last, read_failed, carries, sends_nothing, sends}
use Rattle.state.specs.Switches.{resetting, enabling, disabling, is_allocation, switching_on, switching_off}
use Rattle.call_ask.specs.declared.AskArgs.{AskArgs}
use Rattle.call_ask.specs.Ask.{is_askable, ask_with_tag, ask_on, asking}
use Rattle.call_access.specs.declared.AccessArgs.{AccessArgs}
use Rattle.call_access.specs.declared.Direction.{Direction}
use Rattle.call_access.specs.declared.Direction.TheVariants.{Read as ToRead, Write as ToWrite}
use Rattle.call_access.specs.declared.Target.{Target}
use Rattle.call_access.specs.Access.{looking_up, read_from, read_on, write_to, sends_access, sends_access_if, accessing}
use Rattle.call_access.proofs.Laws.{looking_up_numbers}
use Rattle.call_send.specs.Drain.{invalidate_completion_packet, ready_of, sends_vector, draining}
use Rattle.call_page.specs.PageRequests.{is_valid_request, page_request_packet, with_request, requesting_on, requesting}
use Rattle.on_completion.specs.Reads.{with_due, on_read_data, on_read_status}
use Rattle.on_completion.specs.Translations.{on_translation_status, is_live, applied_if_live, on_translation_part, on_translation_data}
use Rattle.on_completion.specs.Completions.{completed_for, completed}
use Rattle.on_invalidate.specs.Invalidate.{is_other_agent, invalidated_by, invalidated}
use Rattle.call_receive.specs.Responses.{group_answered, responded_on, responded}
use Rattle.call_receive.specs.Receive.{taken, taken_if, received}
use Rattle.card.specs.declared.Command.{Command}
use Rattle.card.specs.declared.Command.TheVariants.{Reset, Enable, Disable, Ask as Asks, Access, Receive, Drain, PagesOn, PagesOff, PageRequest as PageRequests}
use Rattle.card.specs.Numbers.{numbers_of}
use Rattle.card.specs.Call.{calling}
use lib.Count.{ones}

-- the numbers with which a packet of each kind can be refused after it was read
abbrev pub numbers_of_kind : Body → List ℕ
numbers_of_kind (Tr t) = 2 ∷ []
numbers_of_kind (Mem m) = 2 ∷ []
numbers_of_kind (Cpl c) = 5 ∷ 7 ∷ 8 ∷ []
numbers_of_kind (Inv i) = 5 ∷ 10 ∷ 9 ∷ []
numbers_of_kind (Ic i) = 2 ∷ []
numbers_of_kind (Prq q) = 2 ∷ []
numbers_of_kind (Prs s) = 5 ∷ 7 ∷ []

-- a packet for this Function is received
pub record Arrives (f : Function) (bytes : List ℕ) (body : Body) (to : ℕ) : Type 0 where
  pub packet : Packet
  pub reads : reading bytes ≡ Ok packet
  pub is : packet.body ≡ body
  pub ours : eqb to f.id ≡ true

abbrev pub Completes : Function → List ℕ → Completion → Type 0
Completes f bytes x = Arrives f bytes (Cpl x) x.requester

-- the class of a completion for the Translation Request of its tag
abbrev pub class_of : Function → List ℕ → Completion → PendingTranslation → Part
class_of f bytes x q = classified q f.rcb x.count x.lower (payload_in bytes)

module _ (f : Function) (bytes out : List ℕ) where
  abbrev load : List ℕ
  load = payload_in bytes

  pub record Cases (P : Command → Result Success ℕ → Type 0) : Type 0 where
    pub refused : (c : Command) (n : ℕ) → is_among n (numbers_of c) ≡ true → P c (Err n)
    pub refused_kind : (p : Packet) → reading bytes ≡ Ok p → (n : ℕ) → is_among n (numbers_of_kind p.body) ≡ true
        → P Receive (Err n)
    -- calls that neither send nor receive
    pub reset : (a : ResetArgs) → leb a.stu 31 ≡ true → is_rcb a.rcb ≡ true
        → P (Reset a) (sends_nothing (fresh a.id a.stu (rcb_of a.rcb)) done)
    pub enabled : P Enable (sends_nothing f done)
    pub enable : P Enable (sends_nothing (with_enable (with_cache (with_tags f (all_stale f.tags)) (emptied f.cache)) true) done)
    pub disable : P Disable (sends_nothing (with_enable f false) done)
    pub pages_on : (allocation : ℕ) → is_allocation allocation ≡ true
        → P (PagesOn allocation) (sends_nothing (with_pages f (switched_on allocation)) done)
    pub pages_off : P PagesOff (sends_nothing (with_pages f switched_off) done)
    pub pages_not_on : P PagesOff (sends_nothing f done)
    -- calls that send, if there is room
    pub ask : (a : AskArgs) (t : Tag) → is_askable f.rcb f.stu a ≡ true → free_tag f.tags ≡ Some t
        → P (Asks a) (ask_with_tag f t a out)
    pub read : (a : AccessArgs) (at : Target) (t : Tag) → a.direction ≡ ToRead → looking_up f a (length bytes) ≡ Ok at
        → free_tag f.tags ≡ Some t → P (Access a) (read_from f t at a bytes out)
    pub write : (a : AccessArgs) (at : Target) → a.direction ≡ ToWrite → looking_up f a (length bytes) ≡ Ok at
        → P (Access a) (write_to f at a.dwords bytes out)
    pub drains_none : eqb (ready_of f) 0 ≡ true → P Drain (sends_nothing f (carries 0))
    pub drains : eqb (ready_of f) 0 ≡ false
        → P Drain (sends (with_waiting f (without f.waiting (ready_of f))) (carries (ones (ready_of f))) (invalidate_completion_packet f.id f.agent (ready_of f)) [] out)
    pub page : (q : PageRequest) → is_valid_request q ≡ true → is_spent f.pages.groups f.pages.allocation ≡ false
        → P (PageRequests q) (sends (with_pages f (with_request f.pages q)) done (page_request_packet f.id q) [] out)
    -- a completion for a read is received: the last bytes, some of them, none
    pub read_ends : (x : Completion) (r : PendingRead) (n : ℕ) → Completes f bytes x
        → tag_state f.tags x.tag ≡ Read r → x.outcome ≡ Data n → eqb x.count r.due ≡ true
        → eqb (length load) r.due ≡ true
        → P Receive (sends_nothing (with_tag f x.tag Free) payload_last)
    pub read_goes_on : (x : Completion) (r : PendingRead) (n : ℕ) → Completes f bytes x
        → tag_state f.tags x.tag ≡ Read r → x.outcome ≡ Data n → eqb x.count r.due ≡ true
        → leb (length load) r.due ≡ true → eqb (length load) r.due ≡ false
        → P Receive (sends_nothing (with_tag f x.tag (Read (with_due r (r.due - length load)))) payload_more)
    pub read_fails : (x : Completion) (r : PendingRead) (status : ℕ) → Completes f bytes x
        → tag_state f.tags x.tag ≡ Read r → x.outcome ≡ Status status → eqb status 0 ≡ false
        → P Receive (sends_nothing (with_tag f x.tag Free) read_failed)
    -- and for a Translation Request: no data, data that are discarded, data that fill the cache
    pub aborts : (x : Completion) (q : PendingTranslation) (status : ℕ) → Completes f bytes x
        → tag_state f.tags x.tag ≡ Translate q → x.outcome ≡ Status status → eqb status 0 ≡ false
        → P Receive (sends_nothing (with_tag f x.tag Free) aborted)
    pub switches_off : (x : Completion) (q : PendingTranslation) (status : ℕ) → Completes f bytes x
        → tag_state f.tags x.tag ≡ Translate q → x.outcome ≡ Status status → eqb status 0 ≡ false
        → P Receive (sends_nothing (with_enable (with_tag f x.tag Free) false) switchedOffBy)
    pub off_boundary : (x : Completion) (q : PendingTranslation) (n : ℕ) → Completes f bytes x
        → tag_state f.tags x.tag ≡ Translate q → x.outcome ≡ Data n → class_of f bytes x q ≡ OffBoundary
        → P Receive (sends_nothing (with_tag f x.tag Free) discarded)
    pub first_discarded : (x : Completion) (q : PendingTranslation) (n : ℕ) → Completes f bytes x
        → tag_state f.tags x.tag ≡ Translate q → x.outcome ≡ Data n → class_of f bytes x q ≡ First
        → P Receive (sends_nothing (with_tag f x.tag (Translate (after_first q x.count load))) discarded)
    pub last_discarded : (x : Completion) (q : PendingTranslation) (n : ℕ) → Completes f bytes x
        → tag_state f.tags x.tag ≡ Translate q → x.outcome ≡ Data n → class_of f bytes x q ≡ Last
        → P Receive (sends_nothing (with_tag f x.tag Free) discarded)
    pub first_fills : (x : Completion) (q : PendingTranslation) (n : ℕ) → Completes f bytes x
        → tag_state f.tags x.tag ≡ Translate q → x.outcome ≡ Data n → class_of f bytes x q ≡ First
        → is_live f q ≡ true
        → P Receive (sends_nothing (with_tag (with_cache f (applied q load f.cache)) x.tag (Translate (after_first q x.count load))) more)
    pub last_fills : (x : Completion) (q : PendingTranslation) (n : ℕ) → Completes f bytes x
        → tag_state f.tags x.tag ≡ Translate q → x.outcome ≡ Data n → class_of f bytes x q ≡ Last
        → is_live f q ≡ true
        → P Receive (sends_nothing (with_tag (with_cache f (applied q load f.cache)) x.tag Free) filled)
    -- an Invalidate Request is received, and a PRG Response
    pub invalidates : (i : InvalidateRequest) (a : Arrives f bytes (Inv i) i.device)
        → is_other_agent f.agent a.packet.head.sender ≡ false → is_in f.waiting i.itag ≡ false
        → P Receive (sends_nothing (invalidated_by f a.packet.head.sender i) done)
    pub answers_group : (s : PrgResponse) → Arrives f bytes (Prs s) s.device
        → P Receive (sends_nothing (with_pages f (group_answered f.pages s.index)) done)
    pub stops_pages : (s : PrgResponse) → Arrives f bytes (Prs s) s.device
        → P Receive (sends_nothing (with_pages f stopped) done)

module _ (f : Function) (bytes out : List ℕ) (P : Command → Result Success ℕ → Type 0) (k : Cases f bytes out P) where
  -- a test before further ones: it refuses if it fails, or if it holds
  needs : (c : Command) (n : ℕ) → is_among n (numbers_of c) ≡ true → (t : Bool) (s : Result Success ℕ) → (t ≡ true → P c s)
      → P c (check n t s)
  needs c n l t s h = either_case (P c) t s (Err n) h (λ e. k.refused c n l)

  unless : (c : Command) (n : ℕ) → is_among n (numbers_of c) ≡ true → (t : Bool) (s : Result Success ℕ)
      → (t ≡ false → P c s) → P c (refuse n t s)
  unless c n l t s h = either_case (P c) t (Err n) s (λ e. k.refused c n l) h

  resets : (a : ResetArgs) → P (Reset a) (resetting a)
  unfolding resetting
  resets a =
      needs (Reset a) 12 refl (leb a.stu 31) _ (λ s. needs (Reset a) 12 refl (is_rcb a.rcb) _ (k.reset a s))

  enables : P Enable (enabling f)
  unfolding enabling
  enables = either_case (P Enable) f.enabled _ _ (λ e. k.enabled) (λ e. k.enable)

  disables : P Disable (disabling f)
  unfolding disabling
  disables = k.disable

  switches_on : (allocation : ℕ) (i : Interface) → P (PagesOn allocation) (switching_on f allocation i)
  unfolding switching_on
  switches_on allocation Off = needs (PagesOn allocation) 12 refl (is_allocation allocation) _ (k.pages_on allocation)
  switches_on allocation On = k.refused (PagesOn allocation) 12 refl
  switches_on allocation Stopped = k.refused (PagesOn allocation) 15 refl

  switches_off_lem : (i : Interface) → P PagesOff (switching_off f i)
  unfolding switching_off
  switches_off_lem Off = k.pages_not_on
  switches_off_lem On = k.pages_off
  switches_off_lem Stopped = k.pages_not_on

  asks : (a : AskArgs) → P (Asks a) (asking f a out)
  unfolding asking
  asks a = needs (Asks a) 6 refl f.enabled _ (λ e. needs (Asks a) 12 refl (is_askable f.rcb f.stu a) _ (λ few. on few (free_tag f.tags) refl))
    where
      on : is_askable f.rcb f.stu a ≡ true → (x : Option Tag) → free_tag f.tags ≡ x → P (Asks a) (ask_on f x a out)
      on few (Some t) e = k.ask a t few e
      on few None e = k.refused (Asks a) 11 refl

  accesses : (a : AccessArgs) → P (Access a) (accessing f a bytes out)
  unfolding accessing
  accesses a = go (looking_up f a (length bytes)) refl (looking_up_numbers f a (length bytes))
    where
      on : (at : Target) → a.direction ≡ ToRead → looking_up f a (length bytes) ≡ Ok at → (x : Option Tag)
          → free_tag f.tags ≡ x → P (Access a) (read_on f x at a bytes out)
      on at w e (Some t) free = k.read a at t w e free
      on at w e None free = k.refused (Access a) 11 refl

      goes : (at : Target) → looking_up f a (length bytes) ≡ Ok at → (direction : Direction) → a.direction ≡ direction
          → P (Access a) (sends_access f direction at a bytes out)
      goes at e ToRead w = on at w e (free_tag f.tags) refl
      goes at e ToWrite w = k.write a at w e

      go : (s : Result Target ℕ) → looking_up f a (length bytes) ≡ s → Among (6 ∷ 12 ∷ 13 ∷ 14 ∷ []) s
          → P (Access a) (sends_access_if f a bytes out s)
      go (Ok at) e h = goes at e a.direction refl
      go (Err n) e h = k.refused (Access a) n (every_one_lem (λ m. is_among m (numbers_of (Access a))) (6 ∷ 12 ∷ 13 ∷ 14 ∷ []) n refl (h.one n refl))

  draining_by : P Drain (draining f out)
  unfolding sends_vector
  draining_by = either_case (P Drain) (eqb (ready_of f) 0) _ _ k.drains_none k.drains

  requests : (q : PageRequest) (i : Interface) → P (PageRequests q) (requesting f q out i)
  unfolding requesting_on
  requests q Off = k.refused (PageRequests q) 15 refl
  requests q On =
      needs (PageRequests q) 12 refl (is_valid_request q) _
      (λ e. unless (PageRequests q) 16 refl (is_waiting f.pages.groups q.index) _
      (λ w. unless (PageRequests q) 16 refl (is_spent f.pages.groups f.pages.allocation) _ (k.page q e)))
  requests q Stopped = k.refused (PageRequests q) 15 refl

  -- ---- a packet that was read

  module _ (p : Packet) (e : reading bytes ≡ Ok p) where
    kind : (n : ℕ) (b : Body) → p.body ≡ b → is_among n (numbers_of_kind b) ≡ true → P Receive (Err n)
    kind n b is l = k.refused_kind p e n (rw is l)

    module _ (x : Completion) (is : p.body ≡ Cpl x) (ours : eqb x.requester f.id ≡ true) where
      comes : Completes f bytes x
      comes = record { packet = p; reads = e; is = is; ours = ours }

      translates : (q : PendingTranslation) (n : ℕ) → tag_state f.tags x.tag ≡ Translate q → x.outcome ≡ Data n
          → (y : Part) → class_of f bytes x q ≡ y
          → P Receive (on_translation_part f x.tag q x.count (payload_in bytes) y)
      unfolding applied_if_live
      translates q n h d Misfit j = kind 8 (Cpl x) is refl
      translates q n h d OffBoundary j = k.off_boundary x q n comes h d j
      translates q n h d First j = either_case (P Receive) (is_live f q) _ _ (k.first_fills x q n comes h d j) (λ dead. k.first_discarded x q n comes h d j)
      translates q n h d Last j = either_case (P Receive) (is_live f q) _ _ (k.last_fills x q n comes h d j) (λ dead. k.last_discarded x q n comes h d j)

      completes_for : (y : Outcome) → x.outcome ≡ y → (o : TagState) → tag_state f.tags x.tag ≡ o
          → P Receive (completed_for f x (payload_in bytes) y o)
      unfolding on_translation_data on_translation_status on_read_data on_read_status
      completes_for y d Free h = kind 7 (Cpl x) is refl
      completes_for (Data n) d (Translate q) h = translates q n h d (class_of f bytes x q) refl
      completes_for (Status s) d (Translate q) h =
          either_case (P Receive) (eqb s 0) _ _ (λ z. kind 8 (Cpl x) is refl)
          (λ z. either_case (P Receive) (eqb s 4) _ _ (λ y. k.aborts x q s comes h d z) (λ y. k.switches_off x q s comes h d z))
      completes_for (Data n) d (Read r) h =
          either_case (P Receive) (eqb x.count r.due) _ _
          (λ c. either_case (P Receive) (leb (length (payload_in bytes)) r.due) _ _
          (λ l. either_case (P Receive) (eqb (length (payload_in bytes)) r.due) _ _ (k.read_ends x r n comes h d c) (k.read_goes_on x r n comes h d c l))
          (λ l. kind 8 (Cpl x) is refl))
          (λ c. kind 8 (Cpl x) is refl)
      completes_for (Status s) d (Read r) h =
          either_case (P Receive) (eqb s 0) _ _ (λ z. kind 8 (Cpl x) is refl) (k.read_fails x r s comes h d)

      completes : P Receive (completed f x (payload_in bytes))
      unfolding completed
      completes = completes_for x.outcome refl (tag_state f.tags x.tag) refl

    invalidating : (i : InvalidateRequest) → p.body ≡ Inv i → eqb i.device f.id ≡ true
        → P Receive (invalidated f p.head.sender i)
    unfolding invalidated
    invalidating i is ours =
        either_case (P Receive) (is_other_agent f.agent p.head.sender) _ _ (λ t. kind 10 (Inv i) is refl)
        (λ own. either_case (P Receive) (is_in f.waiting i.itag) _ _ (λ t. kind 9 (Inv i) is refl)
        (k.invalidates i (record { packet = p; reads = e; is = is; ours = ours }) own))

    responds : (s : PrgResponse) → p.body ≡ Prs s → eqb s.device f.id ≡ true → (i : Interface)
        → P Receive (responded f s.code s.index i)
    unfolding responded_on
    responds s is ours Off = kind 7 (Prs s) is refl
    responds s is ours On =
        let here : Arrives f bytes (Prs s) s.device = record { packet = p; reads = e; is = is; ours = ours } in
        either_case (P Receive) (leb s.code 1) _ _
        (λ c. either_case (P Receive) (is_waiting f.pages.groups s.index) _ _ (λ w. k.answers_group s here) (λ w. kind 7 (Prs s) is refl))
        (λ c. k.stops_pages s here)
    responds s is ours Stopped = kind 7 (Prs s) is refl

    takes : (b : Body) → p.body ≡ b → P Receive (taken f p.head.sender (payload_in bytes) b)
    unfolding taken
    takes (Tr t) is = kind 2 (Tr t) is refl
    takes (Mem m) is = kind 2 (Mem m) is refl
    takes (Cpl x) is =
        either_case (P Receive) (eqb x.requester f.id) _ _ (completes x is) (λ n. kind 5 (Cpl x) is refl)
    takes (Inv i) is =
        either_case (P Receive) (eqb i.device f.id) _ _ (invalidating i is) (λ n. kind 5 (Inv i) is refl)
    takes (Ic i) is = kind 2 (Ic i) is refl
    takes (Prq q) is = kind 2 (Prq q) is refl
    takes (Prs s) is = either_case (P Receive) (eqb s.device f.id) _ _ (λ ours. responds s is ours f.pages.interface) (λ n. kind 5 (Prs s) is refl)

  receives : P Receive (received f bytes)
  unfolding received
  receives = go (reading bytes) refl (reading_numbers bytes)
    where
      go : (s : Result Packet ℕ) → reading bytes ≡ s → Among (1 ∷ 2 ∷ 3 ∷ 4 ∷ []) s
          → P Receive (taken_if f (payload_in bytes) s)
      go (Ok p) e h = takes p e p.body refl
      go (Err n) e h = k.refused Receive n (every_one_lem (λ m. is_among m (numbers_of Receive)) (1 ∷ 2 ∷ 3 ∷ 4 ∷ []) n refl (h.one n refl))

  pub cases : (c : Command) → P c (calling f c bytes out)
  unfolding calling
  cases (Reset a) = resets a
  cases Enable = enables
  cases Disable = disables
  cases (Asks a) = asks a
  cases (Access a) = accesses a
  cases Receive = receives
  cases Drain = draining_by
  cases (PagesOn allocation) = switches_on allocation f.pages.interface
  cases PagesOff = switches_off_lem f.pages.interface
  cases (PageRequests q) = requests q f.pages.interface
