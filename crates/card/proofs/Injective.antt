-- The definitions' results are injective: they determine the answer of the code, and the target of an access.
use Rattle.std.specs.Prelude.{Err, Ok, Result}
use mathlib.Core.Path.{◌≡◌, refl, sym, ap, ◌∙◌}
use mathlib.Core.List.{List}
use Prim.Native.Nat.{ℕ}
use Rattle.packet.proofs.Injective.{refusal_of, refusal_back}
use Rattle.packet.specs.declared.Refusal.{Refusal}
use Rattle.packet.specs.Numbers.{numbered}
use Rattle.state.specs.declared.Answer.{Answer}
use Rattle.state.specs.declared.Answer.TheVariants.{Done, Opened, Carried, Discarded, More, Filled, Aborted, SwitchedOff, PayloadMore, PayloadLast, ReadFailed}
use Rattle.state.specs.declared.Effect.{Effect}
use Rattle.state.specs.declared.Function.{Function}
use Rattle.state.specs.Answers.{Unrefused, done, tag, carries, discarded, more, filled, aborted, switched_off, payload_more, payload_last, read_failed, unrefused, Observed, observed}
use Rattle.call_access.specs.declared.Target.{Target}

answer_of : Unrefused → Answer
answer_of done = Done
answer_of (tag t) = Opened (record { 0 = t })
answer_of (carries n) = Carried n
answer_of discarded = Discarded
answer_of more = More
answer_of filled = Filled
answer_of aborted = Aborted
answer_of switched_off = SwitchedOff
answer_of payload_more = PayloadMore
answer_of payload_last = PayloadLast
answer_of read_failed = ReadFailed

answer_back : (a : Answer) → answer_of (unrefused a) ≡ a
unfolding answer_of
answer_back Done = refl
answer_back (Opened t) = refl
answer_back (Carried n) = refl
answer_back Discarded = refl
answer_back More = refl
answer_back Filled = refl
answer_back Aborted = refl
answer_back SwitchedOff = refl
answer_back PayloadMore = refl
answer_back PayloadLast = refl
answer_back ReadFailed = refl

result_of : Result Unrefused ℕ → ℕ → Result Effect Refusal
result_of (Ok w) sent = Ok (record { answer = answer_of w; sent = sent })
result_of (Err n) sent = Err (refusal_of n)

result_in : Observed → Result Effect Refusal
result_in x = result_of x.answer x.sent

result_back : (f : Function) (r : Result Effect Refusal) (out : List ℕ) → result_in (observed f r out) ≡ r
unfolding result_of result_in
result_back f (Ok e) out = rw (answer_back e.answer)
result_back f (Err r) out = ap Err (refusal_back r)

state_back : (f : Function) (r : Result Effect Refusal) (out : List ℕ) → (observed f r out).state ≡ f
state_back f (Ok e) out = refl
state_back f (Err r) out = refl

buffer_back : (f : Function) (r : Result Effect Refusal) (out : List ℕ) → (observed f r out).buffer ≡ out
buffer_back f (Ok e) out = refl
buffer_back f (Err r) out = refl

-- two outcomes with equal observations are equal: the states, the results and the buffers
pub observed_injective : (f g : Function) (r q : Result Effect Refusal) (a b : List ℕ)
    → observed f r a ≡ observed g q b → (f ≡ g) × (r ≡ q) × (a ≡ b)
observed_injective f g r q a b e = (
  sym (state_back f r a) ∙ ap (λ (x : Observed). x.state) e ∙ state_back g q b,
  sym (result_back f r a) ∙ ap result_in e ∙ result_back g q b,
  sym (buffer_back f r a) ∙ ap (λ (x : Observed). x.buffer) e ∙ buffer_back g q b,
)

goes_of : Result Target ℕ → Result Target Refusal
goes_of (Ok t) = Ok t
goes_of (Err n) = Err (refusal_of n)

goes_back : (g : Result Target Refusal) → goes_of (numbered g) ≡ g
unfolding goes_of
goes_back (Ok t) = refl
goes_back (Err r) = ap Err (refusal_back r)

pub look_up_result_injective : (g h : Result Target Refusal) → numbered g ≡ numbered h → g ≡ h
look_up_result_injective g h e = sym (goes_back g) ∙ ap goes_of e ∙ goes_back h
