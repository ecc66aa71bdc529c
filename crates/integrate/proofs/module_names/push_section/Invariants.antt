use Rattle.std.proofs.Common.{◌≡◌, ◌++◌, map, drop}
use Rattle.integrate.specs.Introductions as spec
use Rattle.integrate.specs.ModuleNames.{names_view}
use Rattle.integrate.proofs.module_names.push_section.Given as goal

abbrev pub invariant-loop-declaration : goal.invariant-loop-declaration
invariant-loop-declaration l = names_view l.names ++ map (λ d. (l.called, d.name)) (drop l.declaration-index l.declaration-items) ≡ names_view l.fn.names ++ spec.section_names l.called l.section

abbrev pub invariant-loop-definition : goal.invariant-loop-definition
invariant-loop-definition l = names_view l.names ++ map (λ d. (l.called, d.name)) (drop l.definition-index l.definition-items) ≡ names_view l.fn.names ++ spec.section_names l.called l.section
