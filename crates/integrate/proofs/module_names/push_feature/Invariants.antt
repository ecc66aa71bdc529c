use Rattle.std.proofs.Common.{◌≡◌, ◌++◌, drop}
use Rattle.std.specs.List.{flat_map}
use Rattle.integrate.specs.Introductions as spec
use Rattle.integrate.specs.ModuleNames.{names_view}
use Rattle.integrate.proofs.module_names.push_feature.Given as goal

abbrev pub invariant-loop-part : goal.invariant-loop-part
invariant-loop-part l = names_view l.names ++ flat_map spec.part_names (drop l.part-index l.feature.joins) ≡ names_view l.fn.names ++ spec.feature_names l.feature
