-- Weaving commutes with projection: the runs of the lift at a product are, projected, the runs of the
-- product's own text, one to one.
use Rattle.std.specs.Prelude.{◌≡◌, ℕ, List, ◌<◌, ◌^◌, length, Ok}
use Rattle.std.specs.List.{All}
use Rattle.smv_ast.specs.declared.syntax.Expr.{Expr}
use Rattle.smv_ast.specs.declared.program.Program.{Program}
use Rattle.smv_ast.specs.declared.feature.Family.{Family}
use Rattle.smv_ast.specs.declared.feature.Lifted.{Lifted}
use Rattle.smv_ast.specs.declared.model.Product.{Product}
use Rattle.smv_meaning.specs.Value.{Name}
use Rattle.smv_meaning.specs.Values.{State, value_in}
use Rattle.smv_meaning.specs.Instances.{Instance}
use Rattle.smv_meaning.specs.Runs.{IsRun, IsExactState, IsInside}
use Rattle.feature_model.specs.Validity.{IsValid}
use Rattle.integrate.specs.ProductText.{text_of}
use Rattle.fsmv_lift.specs.Projection.{IsAt, projected, projected_run}

-- a run of the lift in which exactly the variables of the product's features are TRUE
pub record IsRunAt (names : List Name) (lifted : Lifted) (p : Product) (run : List State) : Type 0 where
  pub is_run : IsRun lifted.program run
  pub at : All (IsAt names p) run

-- the runs of the lift at a product and the runs of a text correspond one to one by projection
pub record AreOneToOne (names : List Name) (lifted : Lifted) (p : Product) (text : Program) : Type 0 where
  pub into : (run : List State) → IsRunAt names lifted p run
      → IsRun text (projected_run names lifted p run)
  pub onto : (run : List State) → IsRun text run
      → (whole : List State) × IsRunAt names lifted p whole
      × (projected_run names lifted p whole ≡ run)
  pub once : (run other : List State) → IsRunAt names lifted p run → IsRunAt names lifted p other
      → projected_run names lifted p run ≡ projected_run names lifted p other → run ≡ other

-- each run of the lift is at a valid product
abbrev pub StandsAtValid : Family → Lifted → Type 0
StandsAtValid family lifted = (run : List State) → IsRun lifted.program run
    → (p : Product) × IsValid family.model p × All (IsAt family.model.names p) run

-- For each valid product, the runs of the lift at it and those of its own text correspond one to one
-- by projection; the lift has no other runs.
pub record Commutes (family : Family) (lifted : Lifted) : Type 0 where
  pub products : (p : Product) → IsValid family.model p → (text : Program)
      → text_of family p ≡ Ok text → AreOneToOne family.model.names lifted p text
  pub others : StandsAtValid family lifted
