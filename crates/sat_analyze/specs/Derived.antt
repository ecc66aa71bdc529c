-- What is said of each clause that conflict analysis derives.
use Rattle.std.specs.Prelude.{◌≡◌, ℕ, ◌<◌, ◌≤◌, List, Some, Option, All, Contains}
use Rattle.fsmv_base.specs.declared.citation.Id.{Id}
use Rattle.sat_lits.specs.Literals.{negation, variable_of}
use Rattle.sat_lits.specs.Steps.{named, IsRupStep}
use Rattle.sat_arena.specs.declared.trail.Assigned.{Assigned}
use Rattle.sat_arena.specs.Stored.{Stored}
use Rattle.sat_arena.specs.Justified.{IsTrueAt}

-- the id of each stored clause names that clause
abbrev pub AreNamed : List (List ℕ) → List (Option (List ℕ)) → List Stored → Type 0
AreNamed axioms lines stored = All (λ s. named axioms lines s.id ≡ Some s.clause) stored

-- the step that derives the clause by the hints is right in each log in which the ids name the stored clauses
abbrev pub IsRupStepOver : List Stored → List ℕ → List Id → Type 0
IsRupStepOver stored clause hints = (axioms : List (List ℕ)) (lines : List (Option (List ℕ)))
    → AreNamed axioms lines stored → IsRupStep axioms lines clause hints

-- the variable stands in one of the clauses
pub record HasVariable (clauses : List (List ℕ)) (variable : ℕ) : Type 0 where
  pub clause : List ℕ
  pub listed : Contains clauses clause
  pub literal : ℕ
  pub holds : Contains clause literal
  pub of_variable : variable_of literal ≡ variable

-- the greatest level at which a literal of the clause other than this one became false, and 0 where there is no other
pub record IsBackLevel (entries : List Assigned) (clause : List ℕ) (literal level : ℕ) : Type 0 where
  pub within : (other at : ℕ) → Contains clause other → (other ≡ literal → ⊥)
      → IsTrueAt entries (negation other) at → at ≤ level
  pub reached : 0 < level → (other : ℕ) × Contains clause other × (other ≡ literal → ⊥)
      × IsTrueAt entries (negation other) level
