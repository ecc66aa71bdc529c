-- The changes of a feature, applied in written order, each to the text as it then is.
use Rattle.std.specs.Prelude.{ℕ, List, [], ◌∷◌, Option, Some, None, Result, Ok, Err}
use Rattle.smv_ast.specs.declared.program.Program.{Program}
use Rattle.smv_ast.specs.declared.feature.Action.{Action}
use Rattle.smv_ast.specs.declared.feature.Action.TheVariants.{Impose, Treat}
use Rattle.smv_ast.specs.declared.feature.Change.{Change}
use Rattle.smv_ast.specs.declared.model.Product.{Product}
use Rattle.smv_ast.specs.declared.fault.Fault.{Fault}
use Rattle.smv_ast.specs.declared.fault.Fault.TheVariants as fault
use Rattle.integrate_impose.specs.Impose.{imposition, imposed}
use Rattle.integrate_treat.specs.TreatedExpr.{treatment}
use Rattle.integrate_treat.specs.Treat.{treated_or_fault}
use Rattle.integrate.specs.declared.names.MissingName.{MissingName}
use Rattle.integrate.specs.UsedNames.{first_missing}

-- the next step, unless there is a fault
abbrev pub and_on : {A B : Type 0} → Result A Fault → (A → Result B Fault) → Result B Fault
and_on (Ok a) next = next a
and_on (Err f) next = Err f

-- the fault of a missing name of a feature in a product
abbrev pub missing_fault : List ℕ → Product → MissingName → Fault
missing_fault feature product missing = fault.RequireMissing (Some missing.at) feature missing.name
    product

-- an action applied, or its fault
abbrev pub acted : Change → Action → Program → Result Program Fault
acted change (Impose left name right) p = imposed
    (imposition change.cond left name right change.at) change.«module» p
acted change (Treat path right) p = treated_or_fault (treatment change.cond path.names right)
    change.at change.«module» p

-- the outcome of a change whose first missing name is given
abbrev pub changed_by : List ℕ → Product → Change → Program → Option MissingName
    → Result Program Fault
changed_by feature product change p (Some missing) = Err (missing_fault feature product missing)
changed_by feature product change p None = acted change change.action p

-- one change applied, or its fault: a name that it uses is missing, else that of its action
abbrev pub changed : List ℕ → Product → Program → Change → Result Program Fault
changed feature product p change = changed_by feature product change p (first_missing p change)

-- the changes applied in order, or the first fault, each on the text as changed so far
abbrev pub all_changed : List ℕ → Product → Program → List Change → Result Program Fault
all_changed feature product p [] = Ok p
all_changed feature product p (change ∷ more) = and_on (changed feature product p change)
    (λ q. all_changed feature product q more)
