-- Clauses whose literals stand one after the other in one list.
use Rattle.std.specs.Prelude.{ℕ, ◌≤◌, List, length, map, All}
use Rattle.std.specs.List.{between, AllPairs}
use Rattle.sat_lits.specs.Clauses.{HasRisingVariables}
use Rattle.sat_arena.specs.declared.clause_list.Header.{Header}
use Rattle.sat_arena.specs.Stored.{Stored}

-- the clause whose literals stand where the header says
abbrev pub stored_in : List ℕ → Header → Stored
stored_in lits header = record { clause = between header.start header.stop lits; id = header.id }

-- all clauses
abbrev pub all_stored_in : List ℕ → List Header → List Stored
all_stored_in lits headers = map (stored_in lits) headers

-- the literals of a clause are there, and their variables rise
pub record IsHeader (lits : List ℕ) (header : Header) : Type 0 where
  pub before : header.start ≤ header.stop
  pub within : header.stop ≤ length lits
  pub rising : HasRisingVariables (between header.start header.stop lits)

-- each header is one, and each clause stands before the next
pub record AreHeaders (lits : List ℕ) (headers : List Header) : Type 0 where
  pub each : All (IsHeader lits) headers
  pub apart : AllPairs (λ h k. h.stop ≤ k.start) headers
