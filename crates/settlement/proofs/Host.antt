-- The host: two outcomes that the contract of an operation allows are equal.
use mathlib.Core.Path.{◌≡◌, sym, ◌∙◌}
use contract.Lifetimes.{Lfts}
use Rattle.translator.proofs.Injective.{observation_injective}
use Rattle.walk.proofs.walk_tables.Reads as walk_tables
use Rattle.translator.proofs.translate.Reads as translate

pub walk_tables_settled : (κs : Lfts 1) (args : _) (x y : _) (e g : _) → walk_tables.Learnt κs args x e
    → walk_tables.Learnt κs args y g → x ≡ y
walk_tables_settled κs args x y e g p q = p ∙ sym q

pub translate_settled : (κs : Lfts 3) (args : _) (x y : _) (e g : _) → translate.Learnt κs args x e
    → translate.Learnt κs args y g → (x ≡ y) × (e.1.1.1.0.now ≡ g.1.1.1.0.now)
translate_settled κs args x y e g p q =
    observation_injective x y e.1.1.1.0.now g.1.1.1.0.now (p ∙ sym q)
