use Rattle.std.proofs.Common.{◌≡◌, drop}
use Rattle.smv_meaning.specs.Runs.{first_fault}
use Rattle.smv_names.specs.Unknown.{scope_program}
use Rattle.integrate.specs.FeatureFaults.{expr_fault}
use Rattle.integrate.proofs.parts.check_exprs.Given as goal

abbrev pub invariant-loop-e : goal.invariant-loop-e
invariant-loop-e l = first_fault (expr_fault l.application.feature.now.name l.application.product (scope_program l.module_scope) l.module_scope.called.now) (drop l.e-index l.exprs) ≡ first_fault (expr_fault l.application.feature.now.name l.application.product (scope_program l.module_scope) l.module_scope.called.now) l.exprs
