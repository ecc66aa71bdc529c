use Rattle.std.specs.Prelude.{ℕ, List}
use Rattle.fsmv_base.specs.declared.citation.Id.{Id}

-- a clause, and the id under which proofs cite it
pub record Stored : Type 0 where
  pub clause : List ℕ
  pub id : Id
