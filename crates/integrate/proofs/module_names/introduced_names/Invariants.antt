use Rattle.std.proofs.Common.{◌≡◌, ◌++◌, drop}
use Rattle.integrate.specs.Introductions as spec
use Rattle.integrate.specs.ModuleNames.{names_view}
use Rattle.integrate.proofs.module_names.introduced_names.Given as goal

abbrev pub invariant-loop-feature : goal.invariant-loop-feature
invariant-loop-feature l = names_view l.names ++ spec.introduced_names (drop l.feature-index l.features) ≡ spec.introduced_names l.features
