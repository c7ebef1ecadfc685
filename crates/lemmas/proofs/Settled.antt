-- A contract that makes the result a function of the arguments allows only one result.
use mathlib.Core.Path.{◌≡◌, sym, ◌∙◌}

pub settled : {A : Type 0} {d r q : A} → r ≡ d → q ≡ d → r ≡ q
settled e g = e ∙ sym g
