-- The numbers that each call can be refused with. 01, "The seventeen numbers", "Order".
use Rattle.std.specs.Prelude.{List, [], ◌∷◌, ℕ}
use Rattle.card.specs.declared.Command.{Command}
use Rattle.card.specs.declared.Command.TheVariants.{Reset, Enable, Disable, Ask, Access, Receive, Drain, PagesOn, PagesOff, PageRequest}

-- It is proved that a call is refused with no other number. The order of the tests is given
-- by the definition of the call.
abbrev pub numbers_of : Command → List ℕ
numbers_of (Reset a) = 12 ∷ []
numbers_of Enable = []
numbers_of Disable = []
numbers_of (Ask a) = 6 ∷ 12 ∷ 11 ∷ 17 ∷ []
numbers_of (Access a) = 6 ∷ 12 ∷ 13 ∷ 14 ∷ 11 ∷ 17 ∷ []
numbers_of Receive = 1 ∷ 2 ∷ 3 ∷ 4 ∷ 5 ∷ 7 ∷ 8 ∷ 10 ∷ 9 ∷ []
numbers_of Drain = 17 ∷ []
numbers_of (PagesOn allocation) = 15 ∷ 12 ∷ []
numbers_of PagesOff = []
numbers_of (PageRequest q) = 15 ∷ 12 ∷ 16 ∷ 17 ∷ []
