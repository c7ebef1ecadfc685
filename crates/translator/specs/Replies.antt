-- What a reply is when it is read again, and what it depends on. 02, "b".
use Rattle.std.specs.Prelude.{◌≡◌, true, false, List, [], ◌∷◌, ℕ, ◌+◌, ◌<◌, ◌≤◌, length, take, drop, Err, Ok}
use Rattle.packet.specs.declared.Body.TheVariants.{Tr}
use Rattle.packet.specs.declared.Packet.{Packet}
use Rattle.packet.specs.declared.TranslationRequest.{TranslationRequest}
use Rattle.packet.specs.Among.{is_among}
use Rattle.packet.specs.Reading.{reading, payload_in}
use Rattle.packet.specs.Writing.{check_room}
use Rattle.tlp.specs.Fields.{Typed}
use Rattle.tlp.specs.Translations.{translation_at}
use Rattle.walk.specs.declared.End.{End}
use Rattle.walk.specs.declared.End.TheVariants.{Mapped, Unmapped, NotLent}
use Rattle.walk.specs.Walk.{Walked, walked}
use Rattle.walk.specs.Visits.{SameAt}
use Rattle.translator.specs.declared.Report.{Report}
use Rattle.translator.specs.Translator.{translation_to, null_translation, Prepared, reply_to, replied_if, translating}

-- the bytes are a Translation Request, with fields of their types
pub record ValidRequest (host : ℕ) (b : List ℕ) (p : Packet) (t : TranslationRequest) : Type 0 where
  pub id : host < 65536
  pub typed : Typed p
  pub read : reading b ≡ Ok p
  pub request : p.body ≡ Tr t

-- the walk for the request, and the reply that it gives
abbrev pub walk_for : List ℕ → TranslationRequest → Walked
walk_for entries t = walked entries t.address

abbrev pub due_reply : ℕ → List ℕ → Packet → TranslationRequest → Prepared
due_reply host entries p t = reply_to host p.head t (walk_for entries t).end

-- the bytes sent
abbrev pub sent_for : ℕ → List ℕ → List ℕ → List ℕ → Report → List ℕ
sent_for host b entries out r = take r.length (translating host b entries out).buffer

-- what a payload holds: the translation to the walk's page, the null translation, or nothing
abbrev pub Holds : TranslationRequest → End → List ℕ → Type 0
Holds t (Mapped m) payload = translation_at payload 0 ≡ translation_to t.nowrite m
Holds t Unmapped payload = translation_at payload 0 ≡ null_translation
Holds t NotLent payload = length payload ≡ 0

-- What was sent reads as the reply that is due. With No Write, W is clear. The rest of the buffer is unchanged. The report counts
-- the walk's visits, at most 4.
pub record ReadsBack (host : ℕ) (b entries out : List ℕ) (p : Packet) (t : TranslationRequest) (r : Report) : Type 0 where
  pub packet : reading (sent_for host b entries out r) ≡ Ok (due_reply host entries p t).packet
  pub payload : payload_in (sent_for host b entries out r) ≡ (due_reply host entries p t).payload
  pub holds : Holds t (walk_for entries t).end (payload_in (sent_for host b entries out r))
  pub no_write : t.nowrite ≡ true → (translation_at (payload_in (sent_for host b entries out r)) 0).w ≡ false
  pub rest : drop r.length (translating host b entries out).buffer ≡ drop r.length out
  pub visited : (r.visited ≡ length (walk_for entries t).visits) × (r.visited ≤ 4)

-- 1 to 4 from reading, 2 also for another kind, and 17
abbrev pub host_numbers : List ℕ
host_numbers = 1 ∷ 2 ∷ 3 ∷ 4 ∷ 17 ∷ []

pub record HostReplies : Type 0 where
  -- A request is answered, unless the buffer has no room for the 12 bytes of a header and the payload.
  pub answer : (host : ℕ) (b entries out : List ℕ) (p : Packet) (t : TranslationRequest) → reading b ≡ Ok p → p.body ≡ Tr t
      → (translating host b entries out).answer ≡ replied_if (due_reply host entries p t).reply (length (walk_for entries t).visits) (check_room (12 + length (due_reply host entries p t).payload) (length out))
  pub reads : (host : ℕ) (b entries out : List ℕ) (p : Packet) (t : TranslationRequest) (r : Report) → ValidRequest host b p t
      → (translating host b entries out).answer ≡ Ok r → ReadsBack host b entries out p t r
  -- Entries that the walk does not read do not matter. Of those that it reads, only R, W, bits 51:12 and, at levels 2 and 3,
  -- bit 7 do.
  pub tables : (host : ℕ) (b entries others out : List ℕ) (p : Packet) (t : TranslationRequest) → reading b ≡ Ok p → p.body ≡ Tr t
      → length entries ≡ length others → SameAt 3 (walk_for entries t).visits entries others
      → translating host b entries out ≡ translating host b others out
  -- A refusal is one of these numbers, and leaves the buffer unchanged.
  pub refused : (host : ℕ) (b entries out : List ℕ) (n : ℕ) → (translating host b entries out).answer ≡ Err n
      → (is_among n host_numbers ≡ true) × ((translating host b entries out).buffer ≡ out)
