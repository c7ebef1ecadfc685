-- Host and card agree.
use Rattle.std.specs.Prelude.{Ok, Some}
use mathlib.Core.Path.{◌≡◌, refl, ap, ◌∙◌}
use mathlib.Core.List.{List}
use Prim.Native.Nat.{ℕ, ◌-◌, ◌*◌, ◌/◌, ◌^◌, ◌<◌, ◌≤◌}
use native.Mathlib.Omega.{arith}
use lib.ListN.{length}
use borrow.Author.Tests.{eq-eqb}
use Rattle.lemmas.proofs.Cases.{by_cases}
use Rattle.ranges.specs.declared.Translation.{Translation}
use Rattle.packet.specs.declared.Outcome.TheVariants.{Data, Status}
use Rattle.packet.specs.declared.Packet.{Packet}
use Rattle.packet.specs.declared.TranslationRequest.{TranslationRequest}
use Rattle.packet.specs.Reading.{reading, payload_in}
use Rattle.tlp.specs.Translations.{translation_at}
use Rattle.tlp.specs.Fields.{TypedBody}
use Rattle.atc.specs.declared.Cache.{Cache}
use Rattle.tags.specs.declared.PendingTranslation.{PendingTranslation}
use Rattle.tags.specs.declared.TagState.TheVariants.{Free}
use Rattle.translations.specs.Fills.{applied}
use Rattle.state.specs.declared.Function.{Function}
use Rattle.state.specs.State.{with_cache, with_tag}
use Rattle.state.specs.Answers.{filled, aborted, sends_nothing}
use Rattle.on_completion.specs.Translations.{on_translation_data, on_translation_status, applied_if_live}
use Rattle.on_completion.specs.Completions.{completed}
use Rattle.call_ask.specs.Ask.{translation_request_packet}
use Rattle.call_receive.specs.Receive.{taken, received}
use Rattle.walk.specs.declared.End.{End}
use Rattle.walk.specs.declared.End.TheVariants.{Mapped, Unmapped, NotLent}
use Rattle.walk.specs.declared.Mapping.{Mapping}
use Rattle.walk.specs.Walk.{is_none}
use Rattle.walk.proofs.Laws.{SoundEnd, walk_sound, LowEnd, walk_low}
use Rattle.translator.specs.declared.Report.{Report}
use Rattle.translator.specs.Translator.{null_translation, translation_with, translation_to, reply_packet, reply_to, translating}
use Rattle.translator.specs.Replies.{ValidRequest, walk_for, Holds, sent_for}
use Rattle.translator.proofs.Laws.{request_dwords}
use Rattle.translator.proofs.Replies.{typed_request, host_replies}
use Rattle.agreement.specs.Agreement.{Outstanding, request_units, rights_left, state_after, answer_to, Takes, request_of, HostAndCardAgree}
use Rattle.agreement.proofs.Fits.{new_request, only_packet}
use Rattle.agreement.proofs.Fills.{null_applied, page_applied}
use Rattle.agreement.proofs.Found.{last_found, all_found}
use Rattle.agreement.proofs.Asked.{every_ask_lem}

module _ (host : ℕ) (b : List ℕ) (p : Packet) (t : TranslationRequest) (f : Function) (v : ValidRequest host b p t) (o : Outstanding f p t) where
  abbrev q : PendingTranslation
  q = new_request o.address (request_units t - 1)

  some : 1 ≤ request_units t
  some = omega (arith, (request_dwords b p v.read t v.request).0)

  few : request_units t ≤ 16
  few = omega (arith, (request_dwords b p v.read t v.request).1)

  fits : o.address / 4096 * 4096 < 2 ^ 64
  unfolding TypedBody
  fits = rw o.page (typed_request host b p t v).1

  -- a reply with a translation, which makes the cache d
  data_received : (s : List ℕ) (x : Translation) (e : ℕ) (d : Cache)
      → reading s ≡ Ok (reply_packet host p.head t.tag (Data 2) 8 120)
      → length (payload_in s) ≡ 8 → translation_at (payload_in s) 0 ≡ x → x.size ≡ Some e → 12 ≤ e
      → applied q (payload_in s) f.cache ≡ d
      → received f s ≡ sends_nothing (with_tag (with_cache f d) t.tag Free) filled
  unfolding received taken completed on_translation_data applied_if_live
  data_received s x e d reads eight given sized low becomes =
      rw (reads, eq-eqb _ _ o.sender, o.pending, only_packet o.address (request_units t - 1) (payload_in s) e fits eight (ap (λ (y : Translation). y.size) given ∙ sized) low f.rcb, o.enabled, becomes)

  -- the null translation
  null_received : (s : List ℕ) → reading s ≡ Ok (reply_packet host p.head t.tag (Data 2) 8 120)
      → length (payload_in s) ≡ 8 → translation_at (payload_in s) 0 ≡ null_translation
      → received f s ≡ sends_nothing (state_after f t Unmapped) filled
  null_received s reads eight given =
      data_received s null_translation 12 _ reads eight given refl (omega arith)
      (null_applied o.address (request_units t) (payload_in s) some few fits eight given f.cache ∙ rw o.page)

  -- a page
  page_received : (m : Mapping) (s : List ℕ) → SoundEnd (Mapped m) → t.address < 2 ^ 48
      → reading s ≡ Ok (reply_packet host p.head t.tag (Data 2) 8 120)
      → length (payload_in s) ≡ 8 → translation_at (payload_in s) 0 ≡ translation_to t.nowrite m
      → received f s ≡ sends_nothing (state_after f t (Mapped m)) filled
  page_received m s sound low reads eight given =
      by_cases (is_none (rights_left t m))
      (λ none. rw none (null_received s reads eight (rw none at given)))
      (λ right. rw right (data_received s (translation_with m.base m.exponent (rights_left t m)) m.exponent _ reads eight (rw right at given) refl sound.0
      (page_applied t m o.address (payload_in s) some few o.page low eight (rw right at given) sound.0 sound.1 sound.2 right f.cache)))

  -- status 100
  status_received : (s : List ℕ) → reading s ≡ Ok (reply_packet host p.head t.tag (Status 4) (4 * t.dwords) 0)
      → received f s ≡ sends_nothing (state_after f t NotLent) aborted
  unfolding received taken completed on_translation_status
  status_received s reads = rw (reads, eq-eqb _ _ o.sender, o.pending)

  -- whatever the walk's end
  end_received : (e : End) (s : List ℕ) → SoundEnd e → LowEnd t.address e
      → reading s ≡ Ok (reply_to host p.head t e).packet → payload_in s ≡ (reply_to host p.head t e).payload → Holds t e (payload_in s)
      → received f s ≡ sends_nothing (state_after f t e) (answer_to e)
  end_received (Mapped m) s sound low reads payload holds = page_received m s sound low reads (ap length payload) holds
  end_received Unmapped s sound low reads payload holds = null_received s reads (ap length payload) holds
  end_received NotLent s sound low reads payload holds = status_received s reads

  replied : (entries out : List ℕ) (r : Report) → (translating host b entries out).answer ≡ Ok r
      → Takes f (sent_for host b entries out r) t (walk_for entries t).end
  replied entries out r e =
      let back = host_replies.reads host b entries out p t r v e in
      end_received (walk_for entries t).end (sent_for host b entries out r) (walk_sound entries t.address) (walk_low entries t.address) back.packet back.payload back.holds

pub host_and_card_agree : HostAndCardAgree
host_and_card_agree =
    record {
      reply = λ host b entries out p t r f v e o. replied host b p t f v o entries out r e;
      every_ask = λ host f a out d h e. every_ask_lem host f a out d h e;
      round_trip = λ host entries room r f a out d h e done.
          let left = every_ask_lem host f a out d h e in
          (left.0, replied host d.bytes (translation_request_packet f.id left.0 a) (request_of left.0 a) d.state left.1.0 left.1.1 entries room r done);
      last_found = λ t m c j sound right l inside outside. last_found t m c sound j inside right l outside;
      all_found = λ t m c j sound right rests l inside. all_found t m c sound j inside right rests l;
    }
