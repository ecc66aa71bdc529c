-- The lines that a search adds to its log.
use Rattle.std.specs.Prelude.{◌≡◌, ℕ, ◌≤◌, Bool, List, [], ◌∷◌, ◌++◌, Option, Some, None, length, map, slice_get, if◌then◌else◌, All, Contains}
use Rattle.sat_lits.specs.Literals.{variable_of}
use Rattle.proof_log.specs.declared.log.Line.{Line}
use Rattle.proof_log.specs.Logged.{Logged, live_lines_at}
use Rattle.sat_arena.specs.Newness.{IsNew}
use Rattle.sat_analyze.specs.Derived.{HasVariable}

-- the clauses among these that stand
abbrev pub present : List (Option (List ℕ)) → List (List ℕ)
present [] = []
present (Some clause ∷ lines) = clause ∷ present lines
present (None ∷ lines) = present lines

-- the axioms, and the lines that stood when the log had so many
abbrev pub listed_at : ℕ → Logged → List (List ℕ)
listed_at count log = log.axioms ++ present (live_lines_at count log.lines)

-- no listed clause is a subsumer of the clause
abbrev pub NoneSubsumes : List (List ℕ) → List ℕ → Type 0
NoneSubsumes listed clause = (subsumer : List ℕ) → Contains listed subsumer
    → All (Contains clause) subsumer → ⊥

-- each line from this position on is new to propagation over the axioms and the lines that stood before it
abbrev pub AreNewFrom : ℕ → Logged → Type 0
AreNewFrom start log = (i : ℕ) (line : Line) → start ≤ i → slice_get log.lines i ≡ Some line
    → IsNew (listed_at i log) line.clause

-- when a line was retired, once each live one was retired at this count
abbrev pub retired_by : ℕ → Option ℕ → Option ℕ
retired_by count None = Some count
retired_by count (Some before) = Some before

-- the line, which is retired at this count where its clause passes the test
abbrev pub retire_if : (List ℕ → Bool) → ℕ → Line → Line
retire_if gone count line =
    if gone line.clause then record line { retired = retired_by count line.retired } else line

-- the lines, of which those whose clauses pass the test are retired
abbrev pub retire_all : (List ℕ → Bool) → List Line → List Line
retire_all gone lines = map (retire_if gone (length lines)) lines

-- the log has the same axioms, and more lines after the old ones
pub record Appends (old new : Logged) : Type 0 where
  pub axioms : new.axioms ≡ old.axioms
  pub more : List Line
  pub lines : new.lines ≡ old.lines ++ more

-- the log has the same axioms, and more lines after the old ones, of which some were retired before that
pub record Extends (old new : Logged) : Type 0 where
  pub axioms : new.axioms ≡ old.axioms
  pub gone : List ℕ → Bool
  pub more : List Line
  pub lines : new.lines ≡ retire_all gone old.lines ++ more

-- each variable of a line stands in an axiom
abbrev pub HasVariables : Logged → Type 0
HasVariables log = (i : ℕ) (line : Line) → slice_get log.lines i ≡ Some line
    → All (λ l. HasVariable log.axioms (variable_of l)) line.clause
