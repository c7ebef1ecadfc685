-- Host and card agree: what the Function does with the host's reply to its own request. 02, "b".
use Rattle.std.specs.Prelude.{◌≡◌, Bool, true, false, cond, List, ℕ, ◌+◌, ◌-◌, ◌*◌, ◌/◌, ◌%◌, ◌^◌, ◌<◌, eqb, length, Ok, Some}
use Rattle.lemmas.specs.Iterate.{iterate}
use Rattle.packet.specs.declared.Body.TheVariants.{Tr}
use Rattle.packet.specs.declared.Packet.{Packet}
use Rattle.packet.specs.declared.Tag.{Tag}
use Rattle.packet.specs.declared.TranslationRequest.{TranslationRequest}
use Rattle.atc.specs.declared.Cache.{Cache}
use Rattle.atc.specs.declared.Entry.{Entry}
use Rattle.atc.specs.Cache.{found, filled_with, unit_dropped, SoundCache}
use Rattle.tags.specs.declared.TagState.TheVariants.{Free}
use Rattle.tags.specs.Tags.{tag_state, new_translation}
use Rattle.state.specs.declared.Function.{Function}
use Rattle.state.specs.State.{with_cache, with_tag}
use Rattle.state.specs.Answers.{Unrefused, Success, filled, aborted, sends_nothing}
use Rattle.call_ask.specs.declared.AskArgs.{AskArgs}
use Rattle.call_ask.specs.Ask.{translation_request_packet, asking}
use Rattle.call_receive.specs.Receive.{received}
use Rattle.walk.specs.declared.End.{End}
use Rattle.walk.specs.declared.End.TheVariants.{Mapped, Unmapped, NotLent}
use Rattle.walk.specs.declared.Mapping.{Mapping}
use Rattle.walk.specs.declared.Rights.{Rights}
use Rattle.walk.specs.Walk.{is_none}
use Rattle.translator.specs.declared.Report.{Report}
use Rattle.translator.specs.Translator.{final_rights, translating}
use Rattle.translator.specs.Replies.{ValidRequest, walk_for, sent_for}

-- E is set, and the Function's request is outstanding as an ask with STU 0 leaves it: not stale, and no reply to it taken.
-- The ask was for some address in the request's page.
pub record Outstanding (f : Function) (p : Packet) (t : TranslationRequest) : Type 0 where
  pub enabled : f.enabled ≡ true
  pub sender : p.head.sender ≡ f.id
  pub request : p.body ≡ Tr t
  pub address : ℕ
  pub page : address / 4096 * 4096 ≡ t.address
  pub pending : tag_state f.tags t.tag ≡ new_translation address (t.dwords / 2 - 1) 0

-- ---- the cache after the reply

-- unit j of the request; it has one for each two DWORDs of its Length
abbrev pub request_unit : TranslationRequest → ℕ → ℕ
request_unit t j = t.address + j * 4096

abbrev pub request_units : TranslationRequest → ℕ
request_units t = t.dwords / 2

-- the unit lies in the page that holds the address of the request
abbrev pub lies_in_page : TranslationRequest → Mapping → ℕ → Bool
lies_in_page t m j = eqb (request_unit t j / 2 ^ m.exponent) (t.address / 2 ^ m.exponent)

-- the rights that are left after No Write
abbrev pub rights_left : TranslationRequest → Mapping → Rights
rights_left t m = final_rights t.nowrite m.rights

-- the cache entry of a unit in the page: the base of the page plus the unit's offset there, with the rights that are left
abbrev pub page_entry : TranslationRequest → Mapping → ℕ → Entry
page_entry t m unit =
    record {
      r = (rights_left t m).r;
      w = (rights_left t m).w;
      n = false;
      u = false;
      unit = unit;
      to = m.base + unit % 2 ^ m.exponent;
    }

abbrev pub unit_filled : TranslationRequest → Mapping → ℕ → Cache → Cache
unit_filled t m j c = cond (lies_in_page t m j) (filled_with (page_entry t m (request_unit t j)) c) c

-- the first n units of the request, in ascending order
abbrev pub units_filled : TranslationRequest → Mapping → ℕ → Cache → Cache
units_filled t m n c = iterate (unit_filled t m) n c

-- if neither right is left, only the entry of the first unit is deleted
abbrev pub cache_after : TranslationRequest → End → Cache → Cache
cache_after t (Mapped m) c = cond (is_none (rights_left t m)) (unit_dropped t.address c) (units_filled t m (request_units t) c)
cache_after t Unmapped c = unit_dropped t.address c
cache_after t NotLent c = c

-- that cache, the tag free, and nothing else changed
abbrev pub state_after : Function → TranslationRequest → End → Function
state_after f t e = with_tag (with_cache f (cache_after t e f.cache)) t.tag Free

abbrev pub answer_to : End → Unrefused
answer_to (Mapped m) = filled
answer_to Unmapped = filled
answer_to NotLent = aborted

-- ---- the statements

-- The Function receives the reply. A page fills its units, a null translation deletes the first unit's entry, and status 100
-- only frees the tag.
abbrev pub Takes : Function → List ℕ → TranslationRequest → End → Type 0
Takes f reply t e = received f reply ≡ sends_nothing (state_after f t e) (answer_to e)

-- no fill of these units uses the hand
abbrev pub HandUnused : TranslationRequest → Mapping → Cache → Type 0
HandUnused t m c = (j : ℕ) → j < request_units t → (units_filled t m (j + 1) c).hand ≡ (units_filled t m j c).hand

-- unit j is found after the reply, with its entry
abbrev pub FoundAfter : TranslationRequest → Mapping → Cache → ℕ → Type 0
FoundAfter t m c j =
    found (cache_after t (Mapped m) c) (request_unit t j) ≡ Some (page_entry t m (request_unit t j))

-- the request of an ask
abbrev pub request_of : Tag → AskArgs → TranslationRequest
request_of tag a = record { tag = tag; dwords = 2 * a.units; address = a.address / 4096 * 4096; nowrite = a.nowrite }

-- an ask with STU 0 that is not refused; the Function has 32 tags, as every reachable one has
pub record Asked (f : Function) (a : AskArgs) (out : List ℕ) (d : Success) : Type 0 where
  pub done : asking f a out ≡ Ok d
  pub unit : f.stu ≡ 0
  pub id : f.id < 65536
  pub address : a.address < 2 ^ 64
  pub tags : length f.tags ≡ 32

pub record HostAndCardAgree : Type 0 where
  -- The RCB of the Function may be 64 or 128.
  pub reply : (host : ℕ) (b entries out : List ℕ) (p : Packet) (t : TranslationRequest) (r : Report) (f : Function)
      → ValidRequest host b p t → (translating host b entries out).answer ≡ Ok r → Outstanding f p t
      → Takes f (sent_for host b entries out r) t (walk_for entries t).end
  -- Every ask with STU 0 leaves such a request,
  pub every_ask : (host : ℕ) (f : Function) (a : AskArgs) (out : List ℕ) (d : Success) → host < 65536 → Asked f a out d
      → (tag : Tag) × (ValidRequest host d.bytes (translation_request_packet f.id tag a) (request_of tag a)
      × Outstanding d.state (translation_request_packet f.id tag a) (request_of tag a))
  -- so that ask, reply and receipt go together.
  pub round_trip : (host : ℕ) (entries room : List ℕ) (r : Report) (f : Function) (a : AskArgs) (out : List ℕ) (d : Success)
      → host < 65536 → Asked f a out d → (translating host d.bytes entries room).answer ≡ Ok r
      → (tag : Tag) × Takes d.state (sent_for host d.bytes entries room r) (request_of tag a) (walk_for entries (request_of tag a)).end
  -- The last unit filled is found afterwards, and every one of them if no fill uses the hand.
  pub last_found : (t : TranslationRequest) (m : Mapping) (c : Cache) (j : ℕ) → SoundCache c → is_none (rights_left t m) ≡ false
      → j < request_units t → lies_in_page t m j ≡ true → ((k : ℕ) → j < k → k < request_units t → lies_in_page t m k ≡ false)
      → FoundAfter t m c j
  pub all_found : (t : TranslationRequest) (m : Mapping) (c : Cache) (j : ℕ) → SoundCache c → is_none (rights_left t m) ≡ false
      → HandUnused t m c → j < request_units t → lies_in_page t m j ≡ true → FoundAfter t m c j
