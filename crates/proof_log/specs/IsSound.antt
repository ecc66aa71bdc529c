-- What every log keeps.
use Rattle.std.specs.Prelude.{◌≡◌, ℕ, ◌<◌, ◌≤◌, List, [], ◌∷◌, Some, length, map, slice_get, Contains}
use Rattle.sat_lits.specs.Clauses.{Follows}
use Rattle.sat_lits.specs.Steps.{IsRupStep, HoldsUnit}
use Rattle.proof_log.specs.declared.log.Line.{Line}
use Rattle.proof_log.specs.Logged.{Logged, live_lines, live_lines_at}

-- the clauses of the lines, retired ones counted
abbrev pub clauses : List Line → List (List ℕ)
clauses lines = map (λ line. line.clause) lines

-- every log keeps this, whatever was called before
pub record IsSound (log : Logged) : Type 0 where
  -- each line is right over the axioms and the lines that stood before it
  pub right : (i : ℕ) (line : Line) → slice_get log.lines i ≡ Some line
      → IsRupStep log.axioms (live_lines_at i log.lines) line.clause line.hints
  -- each clause follows from the axioms
  pub follow : (i : ℕ) (clause : List ℕ) → slice_get (clauses log.lines) i ≡ Some clause
      → Follows log.axioms clause
  -- no clause comes twice
  pub distinct : (i j : ℕ) (clause : List ℕ) → slice_get (clauses log.lines) i ≡ Some clause
      → slice_get (clauses log.lines) j ≡ Some clause → i ≡ j
  -- a clause that holds the literal of an earlier unit clause holds no other
  pub plain : (i j literal : ℕ) (clause : List ℕ) → j < i → slice_get (clauses log.lines) j
      ≡ Some (literal ∷ []) → slice_get (clauses log.lines) i ≡ Some clause
      → Contains clause literal → length clause ≤ 1
  -- a line was retired after it was derived, and holds the literal of a live unit clause beside others
  pub retired : (i count : ℕ) (line : Line) → slice_get log.lines i ≡ Some line → line.retired
      ≡ Some count → (i < count) × (count ≤ length log.lines)
      × HoldsUnit (live_lines log.lines) line.clause
