-- How a fault is handed on.
use Rattle.std.proofs.Common.{◌≡◌, Option, Err, sym, ◌∙◌, ap, subst}
use Rattle.std.specs.Prelude.{Result, IsErrAnd}
use Rattle.std.proofs.lemmas.Result.{err_from_is_err_and}
use Rattle.smv_ast.specs.declared.fault.Fault.{Fault}
use Rattle.smv_ast.specs.declared.fault.Fault.TheVariants as fault
use Rattle.feature_model.specs.NameFaults.{or_else, ReportsFirst}

-- what is said of the fault is said of the result that hands it on
pub handed_on : {A : Type 0} (result : Result A Fault) (f : Fault) (P : Result A Fault → Type 0) → IsErrAnd result (λ e. e ≡ f) → P (Err f) → P result
handed_on result f P h p = let q = err_from_is_err_and result h in subst P (sym (q.1 ∙ ap Err q.2)) p

pub first_reported : (first second : Option Fault) (f : Fault) → ReportsFirst first (Err f) → ReportsFirst (or_else first second) (Err f)
first_reported first second fault.NoMemory h = tt
first_reported first second _ h = ap (λ v. or_else v second) h
