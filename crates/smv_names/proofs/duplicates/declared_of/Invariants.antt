use Rattle.std.proofs.Common.{◌≡◌, map, drop}
use Rattle.smv_names.specs.Duplicates.{declares, declared_name_view}
use Rattle.smv_meaning.specs.NameSets.{in_set, and_names}
use Rattle.smv_names.proofs.duplicates.declared_of.Given as goal

abbrev pub invariant-loop-one : goal.invariant-loop-one
invariant-loop-one l = and_names (in_set l.declared) (map (λ s. s.name) (map declared_name_view (drop l.one-index l.names))) ≡ declares (map declared_name_view l.names)
