-- What the contract says of a call determines its answer.
use Rattle.std.specs.Prelude.{Err, Ok, Result}
use mathlib.Core.Path.{◌≡◌, refl, sym, ap, ◌∙◌}
use mathlib.Core.List.{List}
use Prim.Native.Nat.{ℕ}
use Rattle.packet.proofs.Injective.{refusal_of, refusal_back}
use Rattle.translator.specs.declared.Report.{Report}
use Rattle.translator.specs.Translator.{Observation, observation}
use Rattle.packet.specs.Numbers.{numbered}
use Rattle.packet.specs.declared.Refusal.{Refusal}

translating_of : Result Report ℕ → Result Report Refusal
translating_of (Ok r) = Ok r
translating_of (Err n) = Err (refusal_of n)

translating_back : (r : Result Report Refusal) → translating_of (numbered r) ≡ r
unfolding translating_of
translating_back (Ok r) = refl
translating_back (Err r) = ap Err (refusal_back r)

-- two outcomes with equal observations are equal
pub observation_injective : (r s : Result Report Refusal) (a b : List ℕ) → observation r a ≡ observation s b → (r ≡ s) × (a ≡ b)
observation_injective r s a b e =
    (sym (translating_back r) ∙ ap (λ (x : Observation). translating_of x.answer) e ∙ translating_back s, ap (λ (x : Observation). x.buffer) e)
