use Rattle.std.proofs.Common.{◌≡◌, drop}
use Rattle.std.specs.List.{flat_map}
use Rattle.smv_meaning.specs.NameSets.{in_set, and_names}
use Rattle.integrate.specs.Introductions as spec
use Rattle.integrate.proofs.symbols.insert_part.Given as goal

abbrev pub invariant-loop-section : goal.invariant-loop-section
invariant-loop-section l = and_names (in_set l.names) (flat_map spec.section_symbols (drop l.section-index l.part.sections)) ≡ and_names (in_set l.fn.names) (spec.part_symbols l.part)
