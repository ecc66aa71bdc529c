use Rattle.std.proofs.Common.{◌≡◌, map, drop}
use Rattle.smv_names.specs.Duplicates.{duplicate_among_names, declared_name_view}
use Rattle.smv_meaning.specs.NameSets.{in_set, no_name}
use Rattle.smv_names.proofs.duplicates.check_declared_names.Given as goal

abbrev pub invariant-loop-one : goal.invariant-loop-one
invariant-loop-one l = duplicate_among_names (in_set l.declared) (in_set l.seen) (map declared_name_view (drop l.one-index l.names)) ≡ duplicate_among_names (in_set l.declared) no_name (map declared_name_view l.names)
