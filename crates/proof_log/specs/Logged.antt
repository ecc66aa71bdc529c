-- A log, and what its calls make of it.
use Rattle.std.specs.Prelude.{◌≡◌, ℕ, List, [], ◌∷◌, ◌++◌, Option, Some, None, length, map, take, nat_lt, if◌then◌else◌, ◌⊎◌}
use Rattle.fsmv_base.specs.declared.citation.Id.{Id}
use Rattle.fsmv_base.specs.declared.citation.Id.TheVariants.{Derived}
use Rattle.sat_lits.specs.Steps.{numbered, replaced, IsLive}
use Rattle.proof_log.specs.declared.log.Line.{Line}

-- the axioms, and the derived lines in their order, retired ones among them
pub record Logged : Type 0 where
  pub axioms : List (List ℕ)
  pub lines : List Line

-- the clause of a line that was not retired, or was when the log had so many lines
abbrev pub unless_retired : Option ℕ → List ℕ → Option (List ℕ)
unless_retired None clause = Some clause
unless_retired (Some count) clause = None

-- the clauses of the lines, None for one that is retired
abbrev pub live_lines : List Line → List (Option (List ℕ))
live_lines lines = map (λ line. unless_retired line.retired line.clause) lines

-- the clause of such a line as it stood when the log had `now` lines
abbrev pub unless_retired_by : ℕ → Option ℕ → List ℕ → Option (List ℕ)
unless_retired_by now None clause = Some clause
unless_retired_by now (Some count) clause = if nat_lt now count then Some clause else None

-- the clauses of the first `now` lines, None for one that was retired when the log had no more lines
abbrev pub live_lines_at : ℕ → List Line → List (Option (List ℕ))
live_lines_at now lines = map (λ line. unless_retired_by now line.retired line.clause)
    (take now lines)

-- the clause was derived: it stands under the answered id, and is added as a line where it did not stand before
pub record Derives (old : Logged) (clause : List ℕ) (hints : List Id) (new : Logged) (id : Id) : Type 0 where
  pub number : ℕ
  pub answered : id ≡ Derived number
  pub stands : numbered (live_lines new.lines) number ≡ Some (Some clause)
  pub added :
      (IsLive (live_lines old.lines) clause × (new ≡ old))
      ⊎ ((IsLive (live_lines old.lines) clause → ⊥)
      × (new ≡ record old {
        lines = old.lines
            ++ record { clause = clause; hints = hints; retired = None } ∷ [];
      }))

-- the line of this number is marked with the count of lines, and nothing else changes
pub record Retires (old : Logged) (number : ℕ) (new : Logged) : Type 0 where
  pub line : Line
  pub was : numbered old.lines number ≡ Some line
  pub marked : new ≡ record old
      { lines = replaced old.lines number (record line { retired = Some (length old.lines) }) }
