use Rattle.std.proofs.Common.{◌≡◌, drop}
use Rattle.smv_meaning.specs.Runs.{first_fault}
use Rattle.smv_meaning.specs.Mentions.{pointed}
use Rattle.smv_names.specs.Unknown as spec
use Rattle.smv_names.proofs.unknown.unknown_among.Given as goal

abbrev pub invariant-loop-path : goal.invariant-loop-path
invariant-loop-path l = first_fault (spec.unknown_path (spec.scope_program l.module_scope) l.module_scope.called.now) (pointed (drop l.path-index l.paths)) ≡ first_fault (spec.unknown_path (spec.scope_program l.module_scope) l.module_scope.called.now) (pointed l.paths)
