use Rattle.std.specs.Prelude.{ℕ, List}
use Rattle.sat_arena.specs.declared.trail.Assigned.{Assigned}

-- the literals that are true in their order, and the greatest variable that may be assigned
pub record TrailState : Type 0 where
  pub entries : List Assigned
  pub vars : ℕ
