use Rattle.std.proofs.Common.{◌≡◌, ◌++◌, drop}
use Rattle.std.specs.List.{flat_map}
use Rattle.integrate.specs.Introductions as spec
use Rattle.integrate.specs.ModuleNames.{names_view}
use Rattle.integrate.proofs.module_names.push_section_variables.Given as goal

abbrev pub invariant-loop-declaration : goal.invariant-loop-declaration
invariant-loop-declaration l = names_view l.names ++ flat_map (λ d. spec.variable_of l.called d.name d.what) (drop l.declaration-index l.declaration-items) ≡ names_view l.fn.names ++ spec.section_variables l.called l.section
