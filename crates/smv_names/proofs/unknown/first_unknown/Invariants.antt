use Rattle.std.proofs.Common.{◌≡◌, drop}
use Rattle.smv_meaning.specs.Items.{items_view}
use Rattle.smv_meaning.specs.Runs.{first_fault}
use Rattle.smv_names.specs.Unknown as spec
use Rattle.smv_names.proofs.unknown.first_unknown.Given as goal

abbrev pub invariant-loop-item : goal.invariant-loop-item
invariant-loop-item l = first_fault (spec.unknown_name (spec.scope_program l.module_scope) l.module_scope.called.now) (items_view (drop l.item-index l.items)) ≡ first_fault (spec.unknown_name (spec.scope_program l.module_scope) l.module_scope.called.now) (items_view l.items)
