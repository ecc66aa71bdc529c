-- One TREAT, applied to a model: `IF c THEN TREAT p = e`.
use Rattle.std.specs.Prelude.{ℕ, if◌then◌else◌, List, Option, Some, None, Result}
use Rattle.smv_ast.specs.declared.syntax.Span.{Span}
use Rattle.smv_ast.specs.declared.program.Program.{Program}
use Rattle.smv_ast.specs.declared.fault.Fault.{Fault}
use Rattle.smv_ast.specs.declared.fault.Fault.TheVariants as fault
use Rattle.smv_meaning.specs.Runs.{path_text}
use Rattle.integrate_impose.specs.Answers.{unless_fault}
use Rattle.integrate_treat.specs.declared.expressions.Treatment.{Treatment}
use Rattle.integrate_treat.specs.TreatedModel.{treated_model}
use Rattle.integrate_treat.specs.Target.{is_target}

-- the path is not known in the module, or leads to an instance in some instance of it
abbrev pub target_fault : Span → List (List ℕ) → Fault
target_fault at path = fault.TreatTarget (Some at) (path_text path)

-- the fault of a TREAT of a path in the module of a name, if it has one
abbrev pub treat_fault : Span → List (List ℕ) → List ℕ → Program → Option Fault
treat_fault at path called p = if is_target p called path then None else Some (target_fault at path)

-- the model with the TREAT applied, or its fault
abbrev pub treated_or_fault : Treatment → Span → List ℕ → Program → Result Program Fault
treated_or_fault t at called p = unless_fault (treat_fault at t.path called p)
    (treated_model t called p)
