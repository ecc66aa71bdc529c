-- Unit clauses of a table that indexes the lines that stand.
use Rattle.std.proofs.Common.{◌≡◌, ℕ, List, [], ◌∷◌, Option, None, ◌<◌, length, get_or, ◌∙◌, subst, ◌↔◌}
use Rattle.std.proofs.lemmas.List.{get_or_default}
use Rattle.std.proofs.lemmas.Bool.{false≢true}
use Rattle.sat_lits.specs.Steps.{HoldsUnit}
use Rattle.sat_lits.specs.Table.{number_of, Indexes}
use Rattle.sat_lits.proofs.IndexLemmas.{Indexes-IsLive}
use Rattle.proof_check.specs.UnitEntry.{HasUnitEntry}

-- the table tells which clauses hold a unit beside other literals
pub HasUnitEntry-HoldsUnit : (table : List (List ℕ × ℕ)) (lines : List (Option (List ℕ))) (clause : List ℕ) → Indexes table lines → (HasUnitEntry table clause ↔ HoldsUnit lines clause)
HasUnitEntry-HoldsUnit table lines clause index = (
  λ (longer, some). record { longer = longer; literal = some.0; holds = some.1; stands = (Indexes-IsLive table lines (some.0 ∷ []) index).0 some.2 },
  λ h. (h.longer, (h.literal, h.holds, (Indexes-IsLive table lines (h.literal ∷ []) index).1 h.stands)),
)

-- no literal has a unit clause in the table
pub no_unit_entry : (table : List (List ℕ × ℕ)) (clause : List ℕ) → ((k : ℕ) → k < length clause → number_of table (get_or clause k 0 ∷ []) ≡ None) → HasUnitEntry table clause → ⊥
no_unit_entry table clause none (longer, some) =
    let at : get_or clause some.1.0 0 ≡ some.0 = get_or_default clause some.1.0 0 some.0 some.1.1 ∙ some.1.2 in
    let absent : number_of table (some.0 ∷ []) ≡ None = subst (λ (l : ℕ). number_of table (l ∷ []) ≡ None) at (none some.1.0 some.1.1) in
    false≢true (rw absent at some.2)
