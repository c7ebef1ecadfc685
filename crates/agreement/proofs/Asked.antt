-- An ask with STU 0 leaves a request that the host can answer.
use Rattle.std.specs.Prelude.{None, Option, Some}
use mathlib.Core.Path.{◌≡◌, refl, ◌∙◌}
use mathlib.Core.Bool.{true}
use mathlib.Core.List.{List, []}
use Prim.Native.Nat.{ℕ, ◌-◌, ◌*◌, ◌/◌, ◌<◌, ◌^◌}
use native.Mathlib.Omega.{arith}
use lib.ListN.{length}
use borrow.Author.Tests.{ltb-true}
use Rattle.packet.specs.declared.Tag.{Tag}
use Rattle.tlp.specs.Fields.{TypedBody, Typed}
use Rattle.tlp.proofs.RoundTrips.{written_reads}
use Rattle.tags.specs.Tags.{free_tag}
use Rattle.tags.proofs.Laws.{set_tag_own, free_tag_lem}
use Rattle.state.specs.declared.Function.{Function}
use Rattle.state.specs.Answers.{Success}
use Rattle.state.proofs.Laws.{Does, does_refusal, does_case, does_write}
use Rattle.call_ask.specs.declared.AskArgs.{AskArgs}
use Rattle.call_ask.specs.Ask.{is_askable, translation_request_packet, ask_on, asking}
use Rattle.translator.specs.Replies.{ValidRequest}
use Rattle.agreement.specs.Agreement.{Outstanding, request_of, Asked}

module _ (host : ℕ) (h : host < 65536) (f : Function) (a : AskArgs) (out : List ℕ) (unit : f.stu ≡ 0) (id : f.id < 65536) (address : a.address < 2 ^ 64) (tags : length f.tags ≡ 32) where
  abbrev Leaves : Success → Type 0
  Leaves d =
      (tag : Tag) × (ValidRequest host d.bytes (translation_request_packet f.id tag a) (request_of tag a)
      × Outstanding d.state (translation_request_packet f.id tag a) (request_of tag a))

  on_tag : f.enabled ≡ true → is_askable f.rcb f.stu a ≡ true → (x : Option Tag) → free_tag f.tags ≡ x
      → Does Leaves (ask_on f x a out)
  unfolding TypedBody
  on_tag on askable None e = does_refusal Leaves 11
  on_tag on askable (Some tag) e =
      let free = free_tag_lem f.tags tag tags e in
      let p = translation_request_packet f.id tag a in
      let number : tag.0 < 32 = ltb-true tag.0 32 free.0 in
      let typed : Typed p = record { sender = id; body = (omega arith, omega arith) } in
      let further : a.units - 1 ≡ 2 * a.units / 2 - 1 = omega arith in
      does_write Leaves _ _ p [] out
      (λ n w. (
        tag,
        (
          record { id = h; typed = typed; read = written_reads p [] (length out) n typed w; request = refl },
          record {
            enabled = on;
            sender = refl;
            request = refl;
            address = a.address;
            page = refl;
            pending = set_tag_own f.tags tag _ tags free.0 ∙ rw (unit, further);
          },
        ),
      ))

  leaves : Does Leaves (asking f a out)
  unfolding asking
  leaves =
      does_case Leaves f.enabled _ _
      (λ on. does_case Leaves (is_askable f.rcb f.stu a) _ _ (λ askable. on_tag on askable (free_tag f.tags) refl) (λ no. does_refusal Leaves 12))
      (λ off. does_refusal Leaves 6)

pub every_ask_lem : (host : ℕ) (f : Function) (a : AskArgs) (out : List ℕ) (d : Success) → host < 65536 → Asked f a out d
    → (tag : Tag) × (ValidRequest host d.bytes (translation_request_packet f.id tag a) (request_of tag a)
    × Outstanding d.state (translation_request_packet f.id tag a) (request_of tag a))
every_ask_lem host f a out d h e = (leaves host h f a out e.unit e.id e.address e.tags).success d e.done
