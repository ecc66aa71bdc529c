use Rattle.std.specs.Prelude.{◌≡◌, ℕ, ◌&&◌, ◌==◌, Bool, List, [], ◌∷◌, Option, length, map, All, nat_lt}
use Rattle.std.specs.List.{list_any}
use Rattle.sat_arena.specs.Stored.{Stored}
use Rattle.sat_arena.specs.Trails.{IsGrown}

-- the clauses that an arena holds, the greatest variable that may stand in one, the literals that the
-- clauses watch, two for each clause, and where each clause stands that was there before some were taken out
pub record ArenaState : Type 0 where
  pub stored : List Stored
  pub vars : ℕ
  pub watched : List ℕ
  pub moved : List (Option ℕ)

-- the clauses alone, by their positions
abbrev pub clauses_of : List Stored → List (List ℕ)
clauses_of stored = map (λ s. s.clause) stored

-- each clause has grown variables alone
abbrev pub AreGrown : ℕ → List (List ℕ) → Type 0
AreGrown vars clauses = All (λ clause. All (IsGrown vars) clause) clauses

-- the literals that are among these
abbrev pub among : List ℕ → (ℕ → Bool)
among lits = λ l. list_any (λ r. r == l) lits

-- a clause of two or more literals one of which is fixed, so that it is satisfied for good
abbrev pub clause_satisfied : (ℕ → Bool) → List ℕ → Bool
clause_satisfied is_fixed clause = nat_lt 1 (length clause) && list_any is_fixed clause

-- the same of a stored clause
abbrev pub is_satisfied : (ℕ → Bool) → Stored → Bool
is_satisfied is_fixed s = clause_satisfied is_fixed s.clause

-- the clause of the literal alone
abbrev pub IsUnitOf : ℕ → List ℕ → Type 0
IsUnitOf l clause = clause ≡ l ∷ []
