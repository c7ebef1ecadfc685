-- A received packet has the same effect whatever its Attr is.
use Rattle.std.specs.Prelude.{Err, Ok, Result}
use mathlib.Core.Path.{◌≡◌, refl, sym, ap₂, ◌∙◌}
use mathlib.Core.List.{List}
use Prim.Native.Nat.{ℕ}
use Rattle.packet.specs.declared.Packet.{Packet}
use Rattle.packet.specs.Reading.{reading, payload_in}
use Rattle.packet.specs.SameButAttr.{SameButAttr}
use Rattle.packet.proofs.SameButAttr.{attr_cleared, same_reading, same_payload}
use Rattle.state.specs.declared.Function.{Function}
use Rattle.state.specs.Answers.{Unrefused}
use Rattle.call_receive.specs.Receive.{taken_if, received, payload_for}

-- no definition looks at Attr
taken_cleared : (f : Function) (load : List ℕ) (r : Result Packet ℕ) → taken_if f load r ≡ taken_if f load (attr_cleared r)
taken_cleared f load (Ok p) = refl
taken_cleared f load (Err n) = refl

module _ (b c : List ℕ) (e : SameButAttr b c) where
  pub same_received : (f : Function) → received f b ≡ received f c
  unfolding received
  same_received f =
      taken_cleared f (payload_in b) (reading b)
      ∙ ap₂ (taken_if f) (same_payload b c e) (same_reading b c e)
      ∙ sym (taken_cleared f (payload_in c) (reading c))

  pub same_handed_back : (a : Result Unrefused ℕ) → payload_for a b ≡ payload_for a c
  unfolding payload_for
  same_handed_back a = rw (same_payload b c e)
