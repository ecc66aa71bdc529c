use Rattle.std.specs.Prelude.{ℕ, ◌<◌, ◌^◌, List, length}
use Rattle.sat_lits.specs.Table.{Indexes}
use Rattle.proof_log.specs.declared.log.Line.{Line}
use Rattle.proof_log.specs.Logged.{live_lines}
use Rattle.proof_log.specs.IsSound.{IsSound}

-- what the fields of a log keep
pub record KeepsTogether (axioms : List (List ℕ)) (lines : List Line) (numbers : List (List ℕ × ℕ)) : Type 0 where
  pub sound : IsSound (record { axioms = axioms; lines = lines })
  pub index : Indexes numbers (live_lines lines)
  pub axioms_small : length axioms < 2 ^ 32
  pub lines_small : length lines < 2 ^ 32
