-- Checks that report a fault.
use Rattle.std.proofs.Common.{◌≡◌, Option, Some, Result, Ok, Err, refl, sym, ap, subst}
use Rattle.std.specs.Result.{IsErrAnd}
use Rattle.smv_ast.specs.declared.fault.Fault.{Fault}
use Rattle.smv_ast.specs.declared.fault.Fault.TheVariants as fault
use Rattle.smv_meaning.specs.Runs.{or_else}
use Rattle.smv_meaning.specs.Faults.{ReportsFirst}

-- a fault that was found is the first
pub reported : (f : Fault) → ReportsFirst {A = Unit {0}} (Some f) (Err f)
reported fault.NoMemory = tt
reported f = refl

reports_here : (A B : Type 0) (o p : Option Fault) (f : Fault) → ReportsFirst {A = A} o (Err f) → ReportsFirst {A = B} (or_else o p) (Err f)
reports_here A B o p fault.NoMemory h = tt
reports_here A B o p f h = ap (λ x. or_else x p) h

handed : {A : Type 0} (o : Option Fault) (f : Fault) (r : Result A Fault) → IsErrAnd r (λ e. e ≡ f) → ReportsFirst {A = A} o (Err f) → ReportsFirst o r
handed {A} o f (Ok a) g h = absurd g
handed {A} o f (Err e) g h = subst (λ (x : Fault). ReportsFirst {A = A} o (Err x)) (sym g) h

-- an error of the first check is an error of both in sequence
pub reports_err : {A B : Type 0} (whole o p : Option Fault) (sub : Result A Fault) (f : Fault) (r : Result B Fault) → or_else o p ≡ whole → ReportsFirst o sub → sub ≡ Err f → IsErrAnd r (λ e. e ≡ f) → ReportsFirst whole r
reports_err {A} {B} whole o p sub f r w reported is g =
    subst (λ (x : Option Fault). ReportsFirst x r) w (handed (or_else o p) f r g (reports_here A B o p f (subst (λ (x : Result A Fault). ReportsFirst o x) is reported)))
