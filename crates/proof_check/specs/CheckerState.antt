use Rattle.std.specs.Prelude.{ℕ, List, Option}
use Rattle.sat_lits.specs.Steps.{LinesFollow}
use Rattle.proof_check.specs.Marks.{HasRoom}

-- what the fields of a checker keep
pub record KeepsTogether (axioms : List (List ℕ)) (lines : List (Option (List ℕ))) (literal_set : ℕ) : Type 0 where
  pub follow : LinesFollow axioms lines
  pub room : HasRoom axioms lines literal_set
