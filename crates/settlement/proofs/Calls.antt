-- The Function: two outcomes that the contract of a call allows are equal.
use mathlib.Core.Path.{◌≡◌, sym, ◌∙◌}
use mathlib.Core.List.{[]}
use contract.Lifetimes.{Lfts}
use Rattle.std.specs.Prelude.{Result}
use Rattle.packet.specs.declared.Refusal.{Refusal}
use Rattle.state.specs.declared.Effect.{Effect}
use Rattle.state.specs.declared.Function.{Function}
use Rattle.state.specs.Answers.{observed}
use Rattle.card.proofs.Injective.{observed_injective, look_up_result_injective}
use Rattle.state.proofs.new.Reads as new
use Rattle.state.proofs.reset.Reads as reset
use Rattle.state.proofs.enable.Reads as enable
use Rattle.state.proofs.disable.Reads as disable
use Rattle.call_ask.proofs.ask.Reads as ask
use Rattle.call_access.proofs.look_up.Reads as look_up
use Rattle.call_access.proofs.access.Reads as access
use Rattle.call_receive.proofs.receive.Reads as receive
use Rattle.call_receive.proofs.payload_of.Reads as payload_of
use Rattle.call_send.proofs.ready.Reads as ready
use Rattle.call_send.proofs.drain.Reads as drain
use Rattle.state.proofs.pages_on.Reads as pages_on
use Rattle.state.proofs.pages_off.Reads as pages_off
use Rattle.call_page.proofs.page_request.Reads as page_request
use Rattle.card.proofs.call.Reads as call

-- of a call without a buffer
unbuffered : (f g : Function) (r q : Result Effect Refusal) → observed f r [] ≡ observed g q [] → (f ≡ g) × (r ≡ q)
unbuffered f g r q e = let same = observed_injective f g r q [] [] e in (same.0, same.1)

pub new_settled : (κs : Lfts 0) (args : _) (x y : _) (e g : _) → new.Learnt κs args x e → new.Learnt κs args y g → x ≡ y
new_settled κs args x y e g p q = p ∙ sym q

pub reset_settled : (κs : Lfts 1) (args : _) (x y : _) (e g : _) → reset.Learnt κs args x e
    → reset.Learnt κs args y g → (e.0.now ≡ g.0.now) × (x ≡ y)
reset_settled κs args x y e g p q = unbuffered e.0.now g.0.now x y (p ∙ sym q)

pub enable_settled : (κs : Lfts 1) (args : _) (x y : _) (e g : _) → enable.Learnt κs args x e
    → enable.Learnt κs args y g → (e.0.now ≡ g.0.now) × (x ≡ y)
enable_settled κs args x y e g p q = unbuffered e.0.now g.0.now x y (p ∙ sym q)

pub disable_settled : (κs : Lfts 1) (args : _) (x y : _) (e g : _) → disable.Learnt κs args x e
    → disable.Learnt κs args y g → (e.0.now ≡ g.0.now) × (x ≡ y)
disable_settled κs args x y e g p q = unbuffered e.0.now g.0.now x y (p ∙ sym q)

pub ask_settled : (κs : Lfts 2) (args : _) (x y : _) (e g : _) → ask.Learnt κs args x e
    → ask.Learnt κs args y g → (e.0.now ≡ g.0.now) × (x ≡ y) × (e.1.1.0.now ≡ g.1.1.0.now)
ask_settled κs args x y e g p q = observed_injective e.0.now g.0.now x y e.1.1.0.now g.1.1.0.now (p ∙ sym q)

pub look_up_settled : (κs : Lfts 1) (args : _) (x y : _) (e g : _) → look_up.Learnt κs args x e
    → look_up.Learnt κs args y g → x ≡ y
look_up_settled κs args x y e g p q = look_up_result_injective x y (p ∙ sym q)

pub access_settled : (κs : Lfts 3) (args : _) (x y : _) (e g : _) → access.Learnt κs args x e
    → access.Learnt κs args y g → (e.0.now ≡ g.0.now) × (x ≡ y) × (e.1.1.1.0.now ≡ g.1.1.1.0.now)
access_settled κs args x y e g p q = observed_injective e.0.now g.0.now x y e.1.1.1.0.now g.1.1.1.0.now (p ∙ sym q)

pub receive_settled : (κs : Lfts 2) (args : _) (x y : _) (e g : _) → receive.Learnt κs args x e
    → receive.Learnt κs args y g → (e.0.now ≡ g.0.now) × (x ≡ y)
receive_settled κs args x y e g p q = unbuffered e.0.now g.0.now x y (p ∙ sym q)

pub payload_of_settled : (κs : Lfts 1) (args : _) (x y : _) (e g : _) → payload_of.Learnt κs args x e
    → payload_of.Learnt κs args y g → x.now ≡ y.now
payload_of_settled κs args x y e g p q = p ∙ sym q

pub ready_settled : (κs : Lfts 1) (args : _) (x y : _) (e g : _) → ready.Learnt κs args x e → ready.Learnt κs args y g
    → x ≡ y
ready_settled κs args x y e g p q = p ∙ sym q

pub drain_settled : (κs : Lfts 2) (args : _) (x y : _) (e g : _) → drain.Learnt κs args x e
    → drain.Learnt κs args y g → (e.0.now ≡ g.0.now) × (x ≡ y) × (e.1.0.now ≡ g.1.0.now)
drain_settled κs args x y e g p q = observed_injective e.0.now g.0.now x y e.1.0.now g.1.0.now (p ∙ sym q)

pub pages_on_settled : (κs : Lfts 1) (args : _) (x y : _) (e g : _) → pages_on.Learnt κs args x e
    → pages_on.Learnt κs args y g → (e.0.now ≡ g.0.now) × (x ≡ y)
pages_on_settled κs args x y e g p q = unbuffered e.0.now g.0.now x y (p ∙ sym q)

pub pages_off_settled : (κs : Lfts 1) (args : _) (x y : _) (e g : _) → pages_off.Learnt κs args x e
    → pages_off.Learnt κs args y g → (e.0.now ≡ g.0.now) × (x ≡ y)
pages_off_settled κs args x y e g p q = unbuffered e.0.now g.0.now x y (p ∙ sym q)

pub page_request_settled : (κs : Lfts 2) (args : _) (x y : _) (e g : _) → page_request.Learnt κs args x e
    → page_request.Learnt κs args y g → (e.0.now ≡ g.0.now) × (x ≡ y) × (e.1.1.0.now ≡ g.1.1.0.now)
page_request_settled κs args x y e g p q = observed_injective e.0.now g.0.now x y e.1.1.0.now g.1.1.0.now (p ∙ sym q)

pub call_settled : (κs : Lfts 3) (args : _) (x y : _) (e g : _) → call.Learnt κs args x e
    → call.Learnt κs args y g → (e.0.now ≡ g.0.now) × (x ≡ y) × (e.1.1.1.0.now ≡ g.1.1.1.0.now)
call_settled κs args x y e g p q = observed_injective e.0.now g.0.now x y e.1.1.1.0.now g.1.1.1.0.now (p ∙ sym q)
