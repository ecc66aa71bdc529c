use Rattle.std.proofs.Common.{◌≡◌, ◌++◌, drop}
use Rattle.integrate.specs.Introductions as spec
use Rattle.integrate.specs.ModuleNames.{names_view}
use Rattle.integrate.proofs.module_names.introduced_variables.Given as goal

abbrev pub invariant-loop-part : goal.invariant-loop-part
invariant-loop-part l = names_view l.names ++ spec.introduced_variables (drop l.part-index l.parts) ≡ spec.introduced_variables l.parts
