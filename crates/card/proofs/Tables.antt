-- What a call can do to the tables.
use Rattle.std.specs.Prelude.{Ok}
use mathlib.Core.Path.{◌≡◌, refl}
use mathlib.Core.Bool.{true, false}
use mathlib.Core.List.{List}
use Prim.Native.Nat.{ℕ}
use Rattle.ranges.specs.declared.Range.{Range}
use Rattle.packet.specs.declared.Tag.{Tag}
use Rattle.packet.specs.declared.ITag.{ITag}
use Rattle.packet.specs.declared.PageRequest.{PageRequest}
use Rattle.packet.specs.declared.PrgIndex.{PrgIndex}
use Rattle.packet.specs.declared.Packet.{Packet}
use Rattle.packet.specs.declared.Body.TheVariants.{Cpl}
use Rattle.packet.specs.declared.Completion.{Completion}
use Rattle.packet.specs.Reading.{reading, payload_in}
use Rattle.atc.specs.declared.Cache.{Cache}
use Rattle.atc.specs.Cache.{blank, emptied, range_dropped}
use Rattle.tags.specs.declared.TagState.{TagState}
use Rattle.tags.specs.declared.TagState.TheVariants.{Translate}
use Rattle.tags.specs.declared.PendingTranslation.{PendingTranslation}
use Rattle.tags.specs.Tags.{all_free, tag_state, set_tag, invalidated_tags, all_stale}
use Rattle.pages.specs.declared.Pages.{Pages}
use Rattle.pages.specs.Pages.{switched_off, switched_on, stopped, is_spent}
use Rattle.translations.specs.Fills.{applied}
use Rattle.state.specs.declared.Function.{Function}
use Rattle.state.specs.Answers.{Success}
use Rattle.state.specs.Switches.{is_allocation}
use Rattle.state.proofs.Laws.{Does, does_nothing, does_refusal, does_send, commit_in}
use Rattle.call_page.specs.PageRequests.{with_request}
use Rattle.on_completion.specs.Translations.{is_live}
use Rattle.call_receive.specs.Responses.{group_answered}
use Rattle.card.specs.declared.Command.{Command}
use Rattle.card.specs.declared.Command.TheVariants.{Receive}
use Rattle.card.specs.Call.{calling, step}
use Rattle.card.proofs.Cases.{Completes, Cases, cases}

-- the call receives a completion
pub record Completing (c : Command) (bytes : List ℕ) (x : Completion) : Type 0 where
  pub receives : c ≡ Receive
  pub packet : Packet
  pub reads : reading bytes ≡ Ok packet
  pub body : packet.body ≡ Cpl x

-- P holds for the tables as they are, and after each change that the call can make to them;
-- bytes is the received packet.
pub record Stable (f : Function) (c : Command) (bytes : List ℕ) (P : Cache → List TagState → Pages → Type 0) : Type 0 where
  pub same : P f.cache f.tags f.pages
  pub reset : P blank all_free switched_off
  -- E set
  pub enable : P (emptied f.cache) (all_stale f.tags) f.pages
  -- a tag taken, freed, or with fewer bytes due
  pub tag : (t : Tag) (o : TagState) → P f.cache (set_tag f.tags t o) f.pages
  -- a completion for a live Translation Request
  pub fill : (x : Completion) (q : PendingTranslation) (o : TagState) → Completing c bytes x
      → tag_state f.tags x.tag ≡ Translate q → is_live f q ≡ true
      → P (applied q (payload_in bytes) f.cache) (set_tag f.tags x.tag o) f.pages
  -- an Invalidate Request
  pub invalidate : (range : Range) (i : ITag)
      → P (range_dropped f.stu range f.cache) (invalidated_tags range i f.tags) f.pages
  -- the page interface switched on, off or stopped, one more request, and a closed group
  pub switch_on : (allocation : ℕ) → is_allocation allocation ≡ true → P f.cache f.tags (switched_on allocation)
  pub switch_off : P f.cache f.tags switched_off
  pub stop : P f.cache f.tags stopped
  pub request : (q : PageRequest) → is_spent f.pages.groups f.pages.allocation ≡ false
      → P f.cache f.tags (with_request f.pages q)
  pub answer : (k : PrgIndex) → P f.cache f.tags (group_answered f.pages k)

module _ (f : Function) (c : Command) (bytes : List ℕ) (P : Cache → List TagState → Pages → Type 0) (k : Stable f c bytes P) where
  abbrev Over : Success → Type 0
  Over d = P d.state.cache d.state.tags d.state.pages

  completing : (x : Completion) → Completes f bytes x → c ≡ Receive → Completing c bytes x
  completing x a e = record { receives = e; packet = a.packet; reads = a.reads; body = a.is }

  each : (out : List ℕ) → Cases f bytes out (λ x s. c ≡ x → Does Over s)
  each out =
      record {
        refused = λ x n l e. does_refusal Over n;
        refused_kind = λ p r n l e. does_refusal Over n;
        reset = λ a s b e. does_nothing Over _ _ k.reset;
        enabled = λ e. does_nothing Over _ _ k.same;
        enable = λ e. does_nothing Over _ _ k.enable;
        disable = λ e. does_nothing Over _ _ k.same;
        pages_on = λ n g e. does_nothing Over _ _ (k.switch_on n g);
        pages_off = λ e. does_nothing Over _ _ k.switch_off;
        pages_not_on = λ e. does_nothing Over _ _ k.same;
        ask = λ a t few free e. does_send Over _ _ _ _ _ (λ n. k.tag t _);
        read = λ a at t w l free e. does_send Over _ _ _ _ _ (λ n. k.tag t _);
        write = λ a at w l e. does_send Over _ _ _ _ _ (λ n. k.same);
        drains_none = λ z e. does_nothing Over _ _ k.same;
        drains = λ z e. does_send Over _ _ _ _ _ (λ n. k.same);
        page = λ q a s e. does_send Over _ _ _ _ _ (λ n. k.request q s);
        read_ends = λ x r n a h d y z e. does_nothing Over _ _ (k.tag x.tag _);
        read_goes_on = λ x r n a h d y z m e. does_nothing Over _ _ (k.tag x.tag _);
        read_fails = λ x r s a h d z e. does_nothing Over _ _ (k.tag x.tag _);
        aborts = λ x q s a h d z e. does_nothing Over _ _ (k.tag x.tag _);
        switches_off = λ x q s a h d z e. does_nothing Over _ _ (k.tag x.tag _);
        off_boundary = λ x q n a h d j e. does_nothing Over _ _ (k.tag x.tag _);
        first_discarded = λ x q n a h d j e. does_nothing Over _ _ (k.tag x.tag _);
        last_discarded = λ x q n a h d j e. does_nothing Over _ _ (k.tag x.tag _);
        first_fills = λ x q n a h d j l e. does_nothing Over _ _ (k.fill x q _ (completing x a e) h l);
        last_fills = λ x q n a h d j l e. does_nothing Over _ _ (k.fill x q _ (completing x a e) h l);
        invalidates = λ i a o w e. does_nothing Over _ _ (k.invalidate _ i.itag);
        answers_group = λ s a e. does_nothing Over _ _ (k.answer s.index);
        stops_pages = λ s a e. does_nothing Over _ _ k.stop;
      }

  -- then P holds after the call
  pub step_keeps : (out : List ℕ)
      → P (step f c bytes out).state.cache (step f c bytes out).state.tags (step f c bytes out).state.pages
  step_keeps out = commit_in (λ g. P g.cache g.tags g.pages) f out (calling f c bytes out) k.same (cases f bytes out _ (each out) c refl)
