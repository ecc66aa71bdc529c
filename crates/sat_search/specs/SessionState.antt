-- What the fields of a session keep.
use Rattle.std.specs.Prelude.{◌≡◌, ℕ, ◌<◌, ◌^◌, Bool, false, length}
use Rattle.sat_search.specs.Additions.{HasVariables}
use Rattle.sat_search.specs.Solvers.{IsSolver}
use Rattle.sat_search.specs.declared.solver.Solver.{Solver}

-- the log's lines have variables of the axioms alone, and until the session ends its parts fit each other
pub record IsSession (solver : Solver) (axioms vars : ℕ) (ended : Bool) : Type 0 where
  pub variables : HasVariables solver.log
  pub solves : ended ≡ false → IsSolver solver
  pub axioms_are : ended ≡ false → axioms ≡ length solver.log.axioms
  pub vars_are : ended ≡ false → vars ≡ solver.propagator.vars
  pub small : vars < 2 ^ 30
