-- The seventeen numbers, and the result of a call. 01, "The seventeen numbers".
use Rattle.std.specs.Prelude.{ℕ, Bool, cond, Result, Ok, Err}
use Rattle.packet.specs.declared.Refusal.{Refusal}
use Rattle.packet.specs.declared.Refusal.TheVariants.{BadLength, UnsupportedKind, PoisonedOrDigest, ForbiddenValue, OtherFunction, Disabled, NothingPending, BadCompletion, ITagInUse, OtherAgent, NoFreeTag, BadArgument, NoEntry, NoPermission, PagesNotOn, NoCreditOrGroupWaits, BufferTooShort}

abbrev pub number_of : Refusal → ℕ
number_of BadLength = 1
number_of UnsupportedKind = 2
number_of PoisonedOrDigest = 3
number_of ForbiddenValue = 4
number_of OtherFunction = 5
number_of Disabled = 6
number_of NothingPending = 7
number_of BadCompletion = 8
number_of ITagInUse = 9
number_of OtherAgent = 10
number_of NoFreeTag = 11
number_of BadArgument = 12
number_of NoEntry = 13
number_of NoPermission = 14
number_of PagesNotOn = 15
number_of NoCreditOrGroupWaits = 16
number_of BufferTooShort = 17

-- the result of a call, with the number of a refusal in place of its name
abbrev pub numbered : {A : Type 0} → Result A Refusal → Result A ℕ
numbered (Ok a) = Ok a
numbered (Err r) = Err (number_of r)

-- refused with n if the test holds, otherwise `next`
abbrev pub refuse : {A : Type 0} → ℕ → Bool → Result A ℕ → Result A ℕ
refuse n t next = cond t (Err n) next

-- `next` if the test holds, otherwise refused with n
abbrev pub check : {A : Type 0} → ℕ → Bool → Result A ℕ → Result A ℕ
check n t next = cond t next (Err n)
