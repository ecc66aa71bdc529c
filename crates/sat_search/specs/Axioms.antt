-- Axioms, as an arena stores them.
use Rattle.std.specs.Prelude.{ℕ, suc, List, [], ◌∷◌}
use Rattle.fsmv_base.specs.declared.citation.Id.TheVariants.{Axiom}
use Rattle.sat_arena.specs.Stored.{Stored}

-- the clauses under the ids of the axioms from this number on
abbrev pub axioms_from : ℕ → List (List ℕ) → List Stored
axioms_from number [] = []
axioms_from number (clause ∷ clauses) = record { clause = clause; id = Axiom number } ∷ axioms_from
    (suc number) clauses
