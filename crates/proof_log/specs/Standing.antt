-- Which line holds in the place of one that was retired.
use Rattle.std.specs.Prelude.{◌≡◌, ℕ, ◌≤◌, ◌<◌, List, [], ◌∷◌, Option, Some, None, length, min, slice_index, Contains}
use Rattle.sat_lits.specs.Steps.{numbered}
use Rattle.sat_lits.specs.Table.{number_of}
use Rattle.proof_log.specs.declared.log.Line.{Line}
use Rattle.proof_log.specs.Logged.{live_lines}

-- the line of this number is live, a unit clause of a literal of the clause, and the first of such
pub record IsFirstUnitLine (lines : List (Option (List ℕ))) (clause : List ℕ) (number : ℕ) : Type 0 where
  pub literal : ℕ
  pub holds : Contains clause literal
  pub stands : numbered lines number ≡ Some (Some (literal ∷ []))
  pub first : (n l : ℕ) → Contains clause l → numbered lines n ≡ Some (Some (l ∷ [])) → number ≤ n

-- a live line stands for itself, and a retired one has the first unit clause of one of its literals
abbrev pub StandsFor : List (Option (List ℕ)) → Option ℕ → List ℕ → ℕ → ℕ → Type 0
StandsFor lines None clause id number = number ≡ id
StandsFor lines (Some count) clause id number = IsFirstUnitLine lines clause number

-- the number of the line that holds in the place of the derived line
abbrev pub IsStanding : List Line → ℕ → ℕ → Type 0
IsStanding lines id number = (line : Line) × (numbered lines id ≡ Some line)
    × StandsFor (live_lines lines) line.retired line.clause id number

-- the lesser of two numbers, where they are there
abbrev pub lesser : Option ℕ → Option ℕ → Option ℕ
lesser None other = other
lesser (Some first) None = Some first
lesser (Some first) (Some second) = Some (min first second)

-- the least number that the table gives a unit clause of one of the literals
abbrev pub IsFirstUnit : List (List ℕ × ℕ) → List ℕ → Option ℕ → Type 0
IsFirstUnit table lits None = (k : ℕ) → k < length lits
    → number_of table (slice_index lits k ∷ []) ≡ None
IsFirstUnit table lits (Some number) =
    ((k : ℕ) × (k < length lits) × (number_of table (slice_index lits k ∷ []) ≡ Some number))
    × ((k n : ℕ) → k < length lits → number_of table (slice_index lits k ∷ []) ≡ Some n → number ≤ n)
