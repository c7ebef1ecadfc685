-- If the answer to a received packet is payload, the returned payload is the packet from byte 12 on.
use Rattle.std.specs.Prelude.{Err, Ok, Result}
use mathlib.Core.Path.{◌≡◌, refl}
use mathlib.Core.Bool.{true, false}
use mathlib.Core.List.{List, []}
use Prim.Native.Nat.{ℕ}
use lib.Dec.{eqb}
use lib.ListN.{drop}
use Rattle.lemmas.proofs.Cases.{never_both}
use Rattle.packet.specs.declared.Packet.{Packet}
use Rattle.packet.specs.declared.Body.{Body}
use Rattle.packet.specs.declared.Body.TheVariants.{Tr, Mem, Cpl, Inv, Ic, Prq, Prs}
use Rattle.packet.specs.declared.InvalidateRequest.{InvalidateRequest}
use Rattle.packet.specs.declared.PrgIndex.{PrgIndex}
use Rattle.packet.specs.Reading.{reading, payload_in}
use Rattle.tlp.specs.Bytes.{Bytes}
use Rattle.tlp.proofs.Laws.{completion_payload}
use Rattle.pages.specs.declared.Interface.{Interface}
use Rattle.pages.specs.declared.Interface.TheVariants.{Off, On, Stopped}
use Rattle.state.specs.declared.Function.{Function}
use Rattle.state.specs.Answers.{Success, commit}
use Rattle.state.proofs.Laws.{Does, does, does_refusal, does_case}
use Rattle.on_invalidate.specs.Invalidate.{invalidated}
use Rattle.call_receive.specs.Responses.{responded_on, responded}
use Rattle.call_receive.specs.Receive.{taken, taken_if, received, is_payload, payload_for}

-- a call that does not answer payload
abbrev Bare : Success → Type 0
Bare d = is_payload (Ok d.answer) ≡ false

bare_says : (f : Function) (out : List ℕ) (s : Result Success ℕ) → Does Bare s
    → is_payload (commit f out s).answer ≡ false
bare_says f out (Ok d) h = h.success d refl
bare_says f out (Err n) h = refl

bare_invalidated : (f : Function) (from : ℕ) (i : InvalidateRequest) → Does Bare (invalidated f from i)
unfolding invalidated
bare_invalidated f from i = search does depth 8

bare_responded : (f : Function) (code : ℕ) (k : PrgIndex) (i : Interface) → Does Bare (responded f code k i)
unfolding responded_on
bare_responded f code k Off = does_refusal Bare 7
bare_responded f code k On = search does depth 8
bare_responded f code k Stopped = does_refusal Bare 7

module _ (f : Function) (b : List ℕ) (h : Bytes b) where
  from_body : (p : Packet) → reading b ≡ Ok p → (body : Body) → p.body ≡ body
      → is_payload (commit f [] (taken f p.head.sender (payload_in b) body)).answer ≡ true → payload_in b ≡ drop 12 b
  unfolding taken
  from_body p e (Tr t) q a = absurd (never_both _ a refl)
  from_body p e (Mem m) q a = absurd (never_both _ a refl)
  from_body p e (Cpl c) q a = completion_payload b p h e c q
  from_body p e (Inv i) q a = absurd (never_both _ a (bare_says f [] _ (does_case Bare (eqb i.device f.id) _ _ (λ t. bare_invalidated f p.head.sender i) (λ t. does_refusal Bare 5))))
  from_body p e (Ic i) q a = absurd (never_both _ a refl)
  from_body p e (Prq r) q a = absurd (never_both _ a refl)
  from_body p e (Prs s) q a = absurd (never_both _ a (bare_says f [] _ (does_case Bare (eqb s.device f.id) _ _ (λ t. bare_responded f s.code s.index f.pages.interface) (λ t. does_refusal Bare 5))))

  from_reading : (s : Result Packet ℕ) → reading b ≡ s
      → is_payload (commit f [] (taken_if f (payload_in b) s)).answer ≡ true → payload_in b ≡ drop 12 b
  from_reading (Ok p) e a = from_body p e p.body refl a
  from_reading (Err n) e a = absurd (never_both _ a refl)

  pub handed_from_12 : is_payload (commit f [] (received f b)).answer ≡ true
      → payload_for (commit f [] (received f b)).answer b ≡ drop 12 b
  unfolding received payload_for
  handed_from_12 a = rw a (from_reading (reading b) refl a)
