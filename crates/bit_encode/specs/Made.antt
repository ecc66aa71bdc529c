-- Words of literals whose variables are made.
use Rattle.std.specs.Prelude.{ℕ, ◌≤◌, List, All}
use Rattle.gate_build.specs.Circuits.{Circuit, IsMade}
use Rattle.bit_encode.specs.declared.pairwise.PairGate.{PairGate}
use Rattle.bit_encode.specs.declared.pairwise.PairGate.TheVariants.{And, Same, Choose}

-- the variables of the literals are made, and so is variable 1, that of the constants
pub record AreMade (circuit : Circuit) (word : List ℕ) : Type 0 where
  pub constants : 1 ≤ circuit.vars
  pub each : All (IsMade circuit) word

-- the literal by which a gate chooses is made
abbrev pub IsMadeGate : Circuit → PairGate → Type 0
IsMadeGate circuit And = Unit {0}
IsMadeGate circuit Same = Unit {0}
IsMadeGate circuit (Choose c) = IsMade circuit c
