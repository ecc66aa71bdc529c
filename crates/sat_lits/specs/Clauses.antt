use Rattle.std.specs.Prelude.{◌≡◌, ℕ, ◌+◌, ◌<◌, Bool, true, List, length, slice_index, All}
use Rattle.std.specs.List.{list_any}
use Rattle.sat_lits.specs.Literals.{variable_of, literal_true}

-- A clause is the list of its literals.

-- the variable of each literal is below that of the next one
abbrev pub HasRisingVariables : List ℕ → Type 0
HasRisingVariables lits = (k : ℕ) → k + 1 < length lits
    → variable_of (slice_index lits k) < variable_of (slice_index lits (k + 1))

-- whether some literal of the clause is true
abbrev pub clause_true : (ℕ → Bool) → List ℕ → Bool
clause_true values clause = list_any (literal_true values) clause

-- the values make every clause true
abbrev pub Satisfies : (ℕ → Bool) → List (List ℕ) → Type 0
Satisfies values clauses = All (λ clause. clause_true values clause ≡ true) clauses

-- the clause is true wherever all of these are
abbrev pub Follows : List (List ℕ) → List ℕ → Type 0
Follows clauses clause = (values : ℕ → Bool) → Satisfies values clauses → clause_true values clause
    ≡ true
