-- The host's translator: the reply to a Translation Request, by a page walk. 02, "b".
use Rattle.std.specs.Prelude.{Bool, false, cond, not, ◌&&◌, List, [], ℕ, ◌*◌, length, Err, Ok, Result, Some}
use Rattle.ranges.specs.declared.Translation.{Translation}
use Rattle.ranges.specs.Size.{word_of}
use Rattle.packet.specs.declared.Body.{Body}
use Rattle.packet.specs.declared.Body.TheVariants.{Tr, Mem, Cpl, Inv, Ic, Prq, Prs}
use Rattle.packet.specs.declared.Head.{Head}
use Rattle.packet.specs.declared.Outcome.{Outcome}
use Rattle.packet.specs.declared.Outcome.TheVariants.{Data, Status}
use Rattle.packet.specs.declared.Packet.{Packet}
use Rattle.packet.specs.declared.Tag.{Tag}
use Rattle.packet.specs.declared.TranslationRequest.{TranslationRequest}
use Rattle.packet.specs.Numbers.{numbered}
use Rattle.packet.specs.Frames.{eight_bytes}
use Rattle.packet.specs.Kinds.{attr_zero}
use Rattle.packet.specs.Reading.{reading}
use Rattle.packet.specs.Writing.{bytes_of, writing, buffer_after}
use Rattle.walk.specs.declared.End.{End}
use Rattle.walk.specs.declared.End.TheVariants.{Mapped, Unmapped, NotLent}
use Rattle.walk.specs.declared.Mapping.{Mapping}
use Rattle.walk.specs.declared.Rights.{Rights}
use Rattle.walk.specs.Walk.{is_none, Walked, walked}
use Rattle.translator.specs.declared.Reply.{Reply}
use Rattle.translator.specs.declared.Reply.TheVariants.{Successful, CompleterAbort}
use Rattle.translator.specs.declared.Report.{Report}
use Rattle.packet.specs.declared.Refusal.{Refusal}

-- ---- the translation that a walk gives

-- No Write clears W
abbrev pub final_rights : Bool → Rights → Rights
final_rights nowrite g = record { r = g.r; w = g.w && not nowrite }

-- 2 ^ e bytes at a base, with these rights; N and U are clear
abbrev pub translation_with : ℕ → ℕ → Rights → Translation
translation_with base e g = record { base = base; size = Some e; n = false; u = false; w = g.w; r = g.r }

-- 4096 bytes at address 0, with R and W clear
abbrev pub null_translation : Translation
null_translation = translation_with 0 12 (record { r = false; w = false })

-- null if no right is left
abbrev pub translation_to : Bool → Mapping → Translation
translation_to nowrite m =
    cond (is_none (final_rights nowrite m.rights)) null_translation
    (translation_with m.base m.exponent (final_rights nowrite m.rights))

-- ---- the reply: a completion from the host, in the Traffic Class of the request, for its sender and tag

-- the completion status of each reply: 000, and 100 (Completer Abort)
abbrev pub status_of : Reply → ℕ
status_of Successful = 0
status_of CompleterAbort = 4

-- h is the head of the request; `count` is Byte Count, `lower` is Lower Address
abbrev pub reply_packet : ℕ → Head → Tag → Outcome → ℕ → ℕ → Packet
reply_packet host h t outcome count lower =
    record {
      head = record { tc = h.tc; attr = attr_zero; sender = host };
      body = Cpl (record { outcome = outcome; count = count; requester = h.sender; tag = t; lower = lower });
    }

-- a reply before it is written: what it is, its fields, and its payload
pub record Prepared : Type 0 where
  pub reply : Reply
  pub packet : Packet
  pub payload : List ℕ

-- one translation: Length 2 and Byte Count 8; Lower Address 120 is 128 - 8, for the host's RCB of 128
abbrev pub translation_reply : ℕ → Head → Tag → Translation → Prepared
translation_reply host h t x =
    record { reply = Successful; packet = reply_packet host h t (Data 2) 8 120; payload = eight_bytes (word_of x) }

-- status 100; Byte Count is 4 × the Length of the request
abbrev pub status_reply : ℕ → Head → Tag → ℕ → Prepared
status_reply host h t dwords =
    record { reply = CompleterAbort; packet = reply_packet host h t (Status (status_of CompleterAbort)) (4 * dwords) 0; payload = [] }

abbrev pub reply_to : ℕ → Head → TranslationRequest → End → Prepared
reply_to host h t (Mapped m) = translation_reply host h t.tag (translation_to t.nowrite m)
reply_to host h t Unmapped = translation_reply host h t.tag null_translation
reply_to host h t NotLent = status_reply host h t.tag t.dwords

-- ---- the call: its answer, and the buffer after it

pub record Observation : Type 0 where
  pub answer : Result Report ℕ
  pub buffer : List ℕ

-- a refused call leaves the buffer unchanged
abbrev pub refused_with : ℕ → List ℕ → Observation
refused_with n out = record { answer = Err n; buffer = out }

abbrev pub replied_if : Reply → ℕ → Result ℕ ℕ → Result Report ℕ
replied_if reply visited (Ok n) = Ok (record { reply = reply; length = n; visited = visited })
replied_if reply visited (Err n) = Err n

-- the reply is written if there is room, otherwise refused with 17; `visited` entries were read
abbrev pub replying : Prepared → ℕ → List ℕ → Observation
replying x visited out =
    record {
      answer = replied_if x.reply visited (writing x.packet (length x.payload) (length out));
      buffer = buffer_after (writing x.packet (length x.payload) (length out)) (bytes_of x.packet x.payload) out;
    }

-- only the first unit of a request is translated
abbrev pub answering : ℕ → Head → TranslationRequest → Walked → List ℕ → Observation
answering host h t w out = replying (reply_to host h t w.end) (length w.visits) out

-- every other kind is refused with 2
unfoldable pub translating_body : ℕ → List ℕ → List ℕ → Head → Body → Observation
translating_body host entries out h (Tr t) = answering host h t (walked entries t.address) out
translating_body host entries out h (Mem m) = refused_with 2 out
translating_body host entries out h (Cpl c) = refused_with 2 out
translating_body host entries out h (Inv i) = refused_with 2 out
translating_body host entries out h (Ic i) = refused_with 2 out
translating_body host entries out h (Prq q) = refused_with 2 out
translating_body host entries out h (Prs s) = refused_with 2 out

-- the refusals of reading come first
abbrev pub translating_if : ℕ → List ℕ → List ℕ → Result Packet ℕ → Observation
translating_if host entries out (Ok p) = translating_body host entries out p.head p.body
translating_if host entries out (Err n) = refused_with n out

unfoldable pub translating : ℕ → List ℕ → List ℕ → List ℕ → Observation
translating host b entries out = translating_if host entries out (reading b)

abbrev pub observation : Result Report Refusal → List ℕ → Observation
observation a out = record { answer = numbered a; buffer = out }
