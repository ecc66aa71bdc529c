use Rattle.std.specs.Prelude.{◌≡◌, ℕ, ◌<◌, ◌^◌, List}
use Rattle.gate_build.specs.Circuits.{Gate, clauses_of, IsSound}

-- what the fields of gates keep
pub record KeepsTogether (vars : ℕ) (clauses : List (List ℕ)) (gates : List Gate) : Type 0 where
  pub listed : clauses ≡ clauses_of (record { vars = vars; gates = gates })
  pub sound : IsSound (record { vars = vars; gates = gates })
  pub small : vars < 2 ^ 30
