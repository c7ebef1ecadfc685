-- A card that moves its entries to other slots does nothing wrong, and demand 3 does not refuse it.
use Rattle.std.specs.Prelude.{None, Option, Some}
use mathlib.Core.Path.{◌≡◌, refl}
use Prim.Native.Nat.{ℕ, zero, suc}
use Rattle.demand3.specs.Runs.{Machine}
use Rattle.demand3.specs.Order.{Order}
use Rattle.demand3.proofs.Theorem.{order}
use Rattle.demand3.proofs.Renumbered.{renumbered, renumbered_lawful}
use Rattle.demands.specs.Observed.{observer, card}
use Rattle.demands.proofs.Order.{lawful}

-- slots 0 and 1 exchanged
abbrev swapped : ℕ → ℕ
swapped zero = 1
swapped (suc zero) = 0
swapped (suc (suc j)) = suc (suc j)

-- once an agent is known
abbrev turn : Option ℕ → ℕ → ℕ
turn None j = j
turn (Some id) j = swapped j

pub turn_twice : (g : Option ℕ) (j : ℕ) → turn g (turn g j) ≡ j
turn_twice None j = refl
turn_twice (Some id) zero = refl
turn_twice (Some id) (suc zero) = refl
turn_twice (Some id) (suc (suc j)) = refl

abbrev pub compactor : Machine observer
compactor = renumbered card (λ f. turn f.agent) (λ f. turn_twice f.agent)

pub compactor_is_right : Order compactor
compactor_is_right = order compactor (renumbered_lawful card (λ f. turn f.agent) (λ f. turn_twice f.agent) lawful)
