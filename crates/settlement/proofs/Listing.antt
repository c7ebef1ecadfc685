-- The listing: two outcomes that the contract of an operation allows are equal.
use mathlib.Core.Path.{◌≡◌, sym, ap, ◌∙◌}
use contract.Lifetimes.{Lfts}
use Rattle.lister.proofs.Injective.{line_result_injective}
use Rattle.lister.proofs.read_line.Reads as read_line
use Rattle.lister.proofs.list_line.Reads as list_line
use Rattle.lister.proofs.start.Reads as start
use Rattle.lister.proofs.feed.Reads as feed
use Rattle.lister.proofs.finish.Reads as finish

pub read_line_settled : (κs : Lfts 1) (args : _) (x y : _) (e g : _) → read_line.Learnt κs args x e
    → read_line.Learnt κs args y g → x ≡ y
read_line_settled κs args x y e g p q = line_result_injective x y (p ∙ sym q)

pub list_line_settled : (κs : Lfts 2) (args : _) (x y : _) (e g : _) → list_line.Learnt κs args x e
    → list_line.Learnt κs args y g → (x ≡ y) × (e.1.1.0.now ≡ g.1.1.0.now)
list_line_settled κs args x y e g p q = (ap (λ o. o.0) (p ∙ sym q), ap (λ o. o.1) (p ∙ sym q))

pub start_settled : (κs : Lfts 0) (args : _) (x y : _) (e g : _) → start.Learnt κs args x e → start.Learnt κs args y g
    → x ≡ y
start_settled κs args x y e g p q = p ∙ sym q

pub feed_settled : (κs : Lfts 3) (args : _) (x y : _) (e g : _) → feed.Learnt κs args x e → feed.Learnt κs args y g
    → (x ≡ y) × (e.1.0.now ≡ g.1.0.now) × (e.1.1.1.0.now ≡ g.1.1.1.0.now)
feed_settled κs args x y e g p q = (ap (λ o. o.0) (p ∙ sym q), ap (λ o. o.1) (p ∙ sym q), ap (λ o. o.2) (p ∙ sym q))

pub finish_settled : (κs : Lfts 2) (args : _) (x y : _) (e g : _) → finish.Learnt κs args x e
    → finish.Learnt κs args y g → (x ≡ y) × (e.1.1.0.now ≡ g.1.1.0.now)
finish_settled κs args x y e g p q = (ap (λ o. o.0) (p ∙ sym q), ap (λ o. o.1) (p ∙ sym q))
