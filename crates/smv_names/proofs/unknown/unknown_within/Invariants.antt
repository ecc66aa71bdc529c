use Rattle.std.proofs.Common.{◌≡◌, drop}
use Rattle.smv_meaning.specs.Runs.{first_fault}
use Rattle.smv_names.specs.Unknown as spec
use Rattle.smv_names.proofs.unknown.unknown_within.Given as goal

abbrev pub invariant-loop-e : goal.invariant-loop-e
invariant-loop-e l = first_fault (spec.unknown_in (spec.scope_program l.module_scope) l.module_scope.called.now) (drop l.e-index l.exprs) ≡ first_fault (spec.unknown_in (spec.scope_program l.module_scope) l.module_scope.called.now) l.exprs
