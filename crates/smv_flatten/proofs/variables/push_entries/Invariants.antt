use Rattle.std.proofs.Common.{◌≡◌, ◌++◌, map, drop}
use Rattle.std.specs.List.{flat_map}
use Rattle.smv_meaning.specs.Entries.{entries_view}
use Rattle.smv_flatten.specs.Variables as spec
use Rattle.smv_flatten.proofs.variables.push_entries.Given as goal

abbrev pub invariant-loop-entry : goal.invariant-loop-entry
invariant-loop-entry l = map spec.variable_view l.found.items ++ flat_map (spec.entry_variables l.table l.row l.called) (entries_view (drop l.entry-index l.entries))
    ≡ map spec.variable_view l.fn.found.items ++ flat_map (spec.entry_variables l.table l.row l.called) (entries_view l.entries)
