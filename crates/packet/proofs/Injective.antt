-- The result of an answer determines the answer.
use Rattle.std.specs.Prelude.{Err, Ok, Result}
use mathlib.Core.Path.{◌≡◌, refl, sym, ap, ◌∙◌}
use mathlib.Core.Bool.{cond}
use Prim.Native.Nat.{ℕ, ◌≤◌}
use lib.Dec.{eqb, lit≤}
use Rattle.packet.specs.declared.Packet.{Packet}
use Rattle.packet.specs.declared.Refusal.{Refusal}
use Rattle.packet.specs.declared.Refusal.TheVariants.{BadLength, UnsupportedKind, PoisonedOrDigest, ForbiddenValue, OtherFunction, Disabled, NothingPending, BadCompletion, ITagInUse, OtherAgent, NoFreeTag, BadArgument, NoEntry, NoPermission, PagesNotOn, NoCreditOrGroupWaits, BufferTooShort}
use Rattle.packet.specs.Numbers.{number_of, numbered}

-- the refusal with a number
unfoldable pub refusal_of : ℕ → Refusal
refusal_of n =
    cond (eqb n 1) BadLength
    (cond (eqb n 2) UnsupportedKind
    (cond (eqb n 3) PoisonedOrDigest
    (cond (eqb n 4) ForbiddenValue
    (cond (eqb n 5) OtherFunction
    (cond (eqb n 6) Disabled
    (cond (eqb n 7) NothingPending
    (cond (eqb n 8) BadCompletion
    (cond (eqb n 9) ITagInUse
    (cond (eqb n 10) OtherAgent
    (cond (eqb n 11) NoFreeTag
    (cond (eqb n 12) BadArgument
    (cond (eqb n 13) NoEntry
    (cond (eqb n 14) NoPermission
    (cond (eqb n 15) PagesNotOn
    (cond (eqb n 16) NoCreditOrGroupWaits
    BufferTooShort)))))))))))))))

pub refusal_back : (r : Refusal) → refusal_of (number_of r) ≡ r
unfolding refusal_of
refusal_back BadLength = refl
refusal_back UnsupportedKind = refl
refusal_back PoisonedOrDigest = refl
refusal_back ForbiddenValue = refl
refusal_back OtherFunction = refl
refusal_back Disabled = refl
refusal_back NothingPending = refl
refusal_back BadCompletion = refl
refusal_back ITagInUse = refl
refusal_back OtherAgent = refl
refusal_back NoFreeTag = refl
refusal_back BadArgument = refl
refusal_back NoEntry = refl
refusal_back NoPermission = refl
refusal_back PagesNotOn = refl
refusal_back NoCreditOrGroupWaits = refl
refusal_back BufferTooShort = refl

-- two refusals have different numbers,
pub number_of_injective : (r s : Refusal) → number_of r ≡ number_of s → r ≡ s
number_of_injective r s e = sym (refusal_back r) ∙ ap refusal_of e ∙ refusal_back s

-- and each number is one of the seventeen
pub number_between : (r : Refusal) → (1 ≤ number_of r) × (number_of r ≤ 17)
number_between BadLength = (lit≤ tt, lit≤ tt)
number_between UnsupportedKind = (lit≤ tt, lit≤ tt)
number_between PoisonedOrDigest = (lit≤ tt, lit≤ tt)
number_between ForbiddenValue = (lit≤ tt, lit≤ tt)
number_between OtherFunction = (lit≤ tt, lit≤ tt)
number_between Disabled = (lit≤ tt, lit≤ tt)
number_between NothingPending = (lit≤ tt, lit≤ tt)
number_between BadCompletion = (lit≤ tt, lit≤ tt)
number_between ITagInUse = (lit≤ tt, lit≤ tt)
number_between OtherAgent = (lit≤ tt, lit≤ tt)
number_between NoFreeTag = (lit≤ tt, lit≤ tt)
number_between BadArgument = (lit≤ tt, lit≤ tt)
number_between NoEntry = (lit≤ tt, lit≤ tt)
number_between NoPermission = (lit≤ tt, lit≤ tt)
number_between PagesNotOn = (lit≤ tt, lit≤ tt)
number_between NoCreditOrGroupWaits = (lit≤ tt, lit≤ tt)
number_between BufferTooShort = (lit≤ tt, lit≤ tt)

-- the answers that have these results

read_of : Result Packet ℕ → Result Packet Refusal
read_of (Ok p) = Ok p
read_of (Err n) = Err (refusal_of n)

read_back : (r : Result Packet Refusal) → read_of (numbered r) ≡ r
unfolding read_of
read_back (Ok p) = refl
read_back (Err r) = ap Err (refusal_back r)

pub read_result_injective : (r s : Result Packet Refusal) → numbered r ≡ numbered s → r ≡ s
read_result_injective r s e = sym (read_back r) ∙ ap read_of e ∙ read_back s

written_of : Result ℕ ℕ → Result ℕ Refusal
written_of (Ok n) = Ok n
written_of (Err n) = Err (refusal_of n)

written_back : (r : Result ℕ Refusal) → written_of (numbered r) ≡ r
unfolding written_of
written_back (Ok n) = refl
written_back (Err r) = ap Err (refusal_back r)

pub write_result_injective : (r s : Result ℕ Refusal) → numbered r ≡ numbered s → r ≡ s
write_result_injective r s e = sym (written_back r) ∙ ap written_of e ∙ written_back s
