use Rattle.std.specs.Prelude.{◌≡◌, ℕ, ◌==◌, ◌&&◌, Bool, true, not, List, Contains}
use Rattle.std.specs.List.{list_any}
use Rattle.sat_lits.specs.Literals.{negation}

-- what unit propagation makes true, beginning with what is given: the literal of a clause all of whose
-- other literals are false
pub data Propagates (clauses : List (List ℕ)) (given : ℕ → Bool) : ℕ → Type 0 where
  begun : (literal : ℕ) → given literal ≡ true → Propagates clauses given literal
  made : (clause : List ℕ) (literal : ℕ) → Contains clauses clause → Contains clause literal
      → ((other : ℕ) → Contains clause other → (other ≡ literal → ⊥)
      → Propagates clauses given (negation other))
      → Propagates clauses given literal

-- the negations of the clause's literals other than this one
abbrev pub negated_but : List ℕ → ℕ → (ℕ → Bool)
negated_but clause literal = λ m. list_any (λ l. not (l == literal) && (negation l == m)) clause

-- with the clause's other literals false, propagation falsifies no listed clause, and does not make the literal true
pub record IsNewAt (clauses : List (List ℕ)) (clause : List ℕ) (literal : ℕ) : Type 0 where
  pub holds : Contains clause literal
  pub no_conflict : (listed : List ℕ) → Contains clauses listed
      → ((l : ℕ) → Contains listed l → Propagates clauses (negated_but clause literal) (negation l))
      → ⊥
  pub not_made : Propagates clauses (negated_but clause literal) literal → ⊥

-- the clause carries propagation further than the listed ones do
abbrev pub IsNew : List (List ℕ) → List ℕ → Type 0
IsNew clauses clause = (literal : ℕ) × IsNewAt clauses clause literal
