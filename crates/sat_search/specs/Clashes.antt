use Rattle.std.specs.Prelude.{ℕ, List, Contains}
use Rattle.sat_lits.specs.Literals.{negation}

-- some literal stands beside its negation
abbrev pub HasClash : List ℕ → Type 0
HasClash lits = (literal : ℕ) × Contains lits literal × Contains lits (negation literal)
