-- What a clause learnt from a conflict is, and the clause of a false literal.
use Rattle.std.specs.Prelude.{◌≡◌, ℕ, ◌<◌, List, [], map, reverse, All, Contains}
use Rattle.std.specs.List.Sorted.{IsPermutation}
use Rattle.sat_lits.specs.Literals.{negation, variable_of}
use Rattle.sat_lits.specs.Steps.{IsFalsified}
use Rattle.sat_arena.specs.declared.trail.Assigned.{Assigned}
use Rattle.sat_arena.specs.Stored.{Stored}
use Rattle.sat_arena.specs.ArenaState.{clauses_of}
use Rattle.sat_arena.specs.Trails.{true_in}
use Rattle.sat_arena.specs.Justified.{current_level, IsTrueAt, IsDecision}
use Rattle.sat_analyze.specs.declared.learnt.Learnt.{Learnt}
use Rattle.sat_analyze.specs.declared.walk.Walk.{Walk}
use Rattle.sat_analyze.specs.Derived.{HasVariable, IsBackLevel, IsRupStepOver}

-- a literal of the clause became false at the current_level level
pub record IsNewlyFalse (entries : List Assigned) (clause : List ℕ) : Type 0 where
  pub literal : ℕ
  pub holds : Contains clause literal
  pub at_current : IsTrueAt entries (negation literal) (current_level entries)

-- one literal of the clause became false at the current_level level, and the others became so up to a lower level, the greatest of theirs
pub record Asserts (entries : List Assigned) (clause : List ℕ) (level : ℕ) : Type 0 where
  pub literal : ℕ
  pub holds : Contains clause literal
  pub at_current : IsTrueAt entries (negation literal) (current_level entries)
  pub alone : (other : ℕ) → Contains clause other
      → IsTrueAt entries (negation other) (current_level entries) → other ≡ literal
  pub back : IsBackLevel entries clause literal level
  pub below : level < current_level entries

-- what is learnt from a conflict
pub record IsLearnt (stored : List Stored) (entries : List Assigned) (learnt : Learnt) : Type 0 where
  -- all its literals are false, none of them since level 0
  pub falsified : IsFalsified (true_in entries) learnt.clause
  pub above_level_zero : (l : ℕ) → Contains learnt.clause l → IsTrueAt entries (negation l) 0 → ⊥
  -- above level 0 one literal is of the current_level level; at level 0 there is none at all
  pub asserts : 0 < current_level entries → Asserts entries learnt.clause learnt.level
  pub refutes : current_level entries ≡ 0 → (learnt.clause ≡ []) × (learnt.level ≡ 0)
  pub variables : All (λ l. HasVariable (clauses_of stored) (variable_of l)) learnt.clause
  pub right : IsRupStepOver stored learnt.clause learnt.hints

-- what follows from the decisions about a false literal: its negation, or one of the decisions does not hold
pub record IsFinal (stored : List Stored) (entries : List Assigned) (lit : ℕ) (learnt : Learnt) : Type 0 where
  pub holds : Contains learnt.clause (negation lit)
  pub decisions : (other : ℕ) → Contains learnt.clause other → (other ≡ negation lit → ⊥)
      → IsDecision entries (negation other)
  pub back : IsBackLevel entries learnt.clause (negation lit) learnt.level
  pub variables : All (λ l. HasVariable (clauses_of stored) (variable_of l)) learnt.clause
  pub right : IsRupStepOver stored learnt.clause learnt.hints

-- what is left of a walk: the clause against its kept literals, and its hints in the order of propagation
pub record IsLeft (walk : Walk) (learnt : Learnt) : Type 0 where
  pub clause : IsPermutation (map negation walk.kept.items) learnt.clause
  pub hints : learnt.hints ≡ reverse walk.hints.items
  pub level : learnt.level ≡ walk.level
