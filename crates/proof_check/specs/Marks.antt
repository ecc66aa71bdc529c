use Rattle.std.specs.Prelude.{◌≡◌, ℕ, ◌+◌, ◌<◌, Bool, false, List, Option, Some, slice_index_or, All}
use Rattle.sat_lits.specs.Steps.{named}
use Rattle.fsmv_base.specs.declared.citation.Id.{Id}

-- the literals whose insert_all is set
abbrev pub marked : List Bool → (ℕ → Bool)
marked literal_set = λ l. slice_index_or literal_set l false

-- the literals of every clause that an id can name, and their negations, lie below this number
abbrev pub HasRoom : List (List ℕ) → List (Option (List ℕ)) → ℕ → Type 0
HasRoom axioms lines room = (id : Id) (clause : List ℕ) → named axioms lines id ≡ Some clause
    → All (λ l. l + 1 < room) clause
