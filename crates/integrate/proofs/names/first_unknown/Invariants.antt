use Rattle.std.proofs.Common.{◌≡◌, drop}
use Rattle.smv_meaning.specs.Mentions.{pointed}
use Rattle.smv_names.specs.Unknown.{scope_program}
use Rattle.integrate.specs.UsedNames as spec
use Rattle.integrate.proofs.names.first_unknown.Given as goal

abbrev pub invariant-loop-path : goal.invariant-loop-path
invariant-loop-path l = spec.first_unknown (scope_program l.module_scope) l.module_scope.called.now (pointed l.paths) ≡ spec.first_unknown (scope_program l.module_scope) l.module_scope.called.now (pointed (drop l.path-index l.paths))
