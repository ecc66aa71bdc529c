use Rattle.std.proofs.Common.{◌≡◌, ◌++◌, drop}
use Rattle.std.specs.List.{flat_map}
use Rattle.integrate.specs.Introductions as spec
use Rattle.integrate.specs.ModuleNames.{names_view}
use Rattle.integrate.proofs.module_names.push_part.Given as goal

abbrev pub invariant-loop-section : goal.invariant-loop-section
invariant-loop-section l = names_view l.names ++ flat_map (spec.section_names l.part.«module») (drop l.section-index l.part.sections) ≡ names_view l.fn.names ++ spec.part_names l.part
