use Rattle.std.proofs.Common.{◌≡◌, map, drop}
use Rattle.std.specs.List.{list_all}
use Rattle.smv_meaning.specs.Checking.{instance_at}
use Rattle.smv_names.specs.Unknown as spec
use Rattle.smv_names.proofs.known.is_resolved_in_each.Given as goal

abbrev pub invariant-loop-row : goal.invariant-loop-row
invariant-loop-row l = list_all (spec.resolves_in (spec.scope_program l.module_scope) l.path) (map (instance_at l.module_scope.known.now.table.now) (drop l.row-index l.module_scope.rows.now)) ≡ spec.is_resolved_in_each (spec.scope_program l.module_scope) l.module_scope.called.now l.path
