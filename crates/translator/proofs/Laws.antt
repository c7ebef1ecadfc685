-- Laws of the translator.
use mathlib.Core.Path.{◌≡◌, refl}
use mathlib.Core.Bool.{true}
use mathlib.Core.List.{List, [], ◌∷◌}
use Prim.Native.Nat.{ℕ, zero, suc, ◌≤◌, ◌/◌, ◌%◌, ◌^◌}
use Rattle.std.specs.Int.{w64, to_be_bytes}
use Rattle.std.specs.Prelude.{Ok}
use Rattle.packet.specs.Frames.{eight_bytes}
use native.Mathlib.Omega.{arith}
use lib.Dec.{eqb, leb}
use borrow.Author.Tests.{leb-true, eqb-true, eqb-false}
use Rattle.lemmas.proofs.Cases.{by_cases, and_both}
use Rattle.packet.specs.declared.Body.{Body}
use Rattle.packet.specs.declared.Body.TheVariants.{Tr, Mem, Cpl, Inv, Ic, Prq, Prs}
use Rattle.packet.specs.declared.Packet.{Packet}
use Rattle.packet.specs.declared.TranslationRequest.{TranslationRequest}
use Rattle.packet.specs.Kinds.{short_enough, allowed_body}
use Rattle.packet.specs.Reading.{reading}
use Rattle.tlp.proofs.RoundTrips.{taken}
use Rattle.walk.specs.Walk.{walked}
use Rattle.translator.specs.Translator.{refused_with, answering, translating_body, translating}

-- a QWORD in bytes, in the words of the library
pub same_bytes : (n : ℕ) → to_be_bytes w64 n ≡ eight_bytes n
same_bytes n =
    let h : n / 256 ^ 7 % 256 ≡ n / 2 ^ 32 / 16777216 % 256 = omega arith in
    let g : n / 256 ^ 6 % 256 ≡ n / 2 ^ 32 / 65536 % 256 = omega arith in
    let f : n / 256 ^ 5 % 256 ≡ n / 2 ^ 32 / 256 % 256 = omega arith in
    let e : n / 256 ^ 4 % 256 ≡ n / 2 ^ 32 % 256 = omega arith in
    let d : n / 256 ^ 3 % 256 ≡ n % 2 ^ 32 / 16777216 % 256 = omega arith in
    let c : n / 256 ^ 2 % 256 ≡ n % 2 ^ 32 / 65536 % 256 = omega arith in
    let b : n / 256 ^ 1 % 256 ≡ n % 2 ^ 32 / 256 % 256 = omega arith in
    let a : n % 256 ≡ n % 2 ^ 32 % 256 = omega arith in
    λ i. h i ∷ g i ∷ f i ∷ e i ∷ d i ∷ c i ∷ b i ∷ a i ∷ []

-- the Length of a request that may be read is 2 to 32
pub few_dwords : (tc : ℕ) (t : TranslationRequest) → allowed_body tc (Tr t) ≡ true → (2 ≤ t.dwords) × (t.dwords ≤ 32)
unfolding allowed_body
few_dwords tc t e =
    by_cases (eqb t.dwords 0) (λ z. absurd (never (rw z at short))) (λ z. (two (eqb-false t.dwords 0 z), leb-true t.dwords 32 (rw z at short)))
  where
    both : (eqb (t.dwords % 2) 0 ≡ true) × (short_enough t.dwords ≡ true)
    both = and_both (eqb (t.dwords % 2) 0) (short_enough t.dwords) e

    short : short_enough t.dwords ≡ true
    short = both.1

    never : leb 1024 32 ≡ true → ⊥
    never q = omega (arith, leb-true 1024 32 q)

    two : (t.dwords ≡ 0 → ⊥) → 2 ≤ t.dwords
    two n = go t.dwords n (eqb-true (t.dwords % 2) 0 both.0)
      where
        go : (d : ℕ) → (d ≡ 0 → ⊥) → d % 2 ≡ 0 → 2 ≤ d
        go zero m h = absurd (m refl)
        go (suc zero) m h = absurd (omega (arith, h))
        go (suc (suc d)) m h = omega arith

-- ---- what the call does with a packet that was read

module _ (b : List ℕ) (p : Packet) (read : reading b ≡ Ok p) where
  -- every other kind is refused,
  pub other_kind : (host : ℕ) (entries out : List ℕ) → ((t : TranslationRequest) → p.body ≡ Tr t → ⊥)
      → translating host b entries out ≡ refused_with 2 out
  unfolding translating translating_body
  other_kind host entries out other = rw read (go p.body other)
    where
      go : (y : Body) → ((t : TranslationRequest) → y ≡ Tr t → ⊥) → translating_body host entries out p.head y ≡ refused_with 2 out
      go (Tr t) n = absurd (n t refl)
      go (Mem m) n = refl
      go (Cpl c) n = refl
      go (Inv i) n = refl
      go (Ic i) n = refl
      go (Prq q) n = refl
      go (Prs s) n = refl

  module _ (t : TranslationRequest) (request : p.body ≡ Tr t) where
    -- a request is short,
    pub request_dwords : (2 ≤ t.dwords) × (t.dwords ≤ 32)
    request_dwords = few_dwords p.head.tc t (rw request at (taken b p read).allows)

    -- and answered
    pub answered : (host : ℕ) (entries out : List ℕ) → translating host b entries out ≡ answering host p.head t (walked entries t.address) out
    unfolding translating translating_body
    answered host entries out = rw (read, request)
