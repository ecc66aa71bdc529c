use Rattle.std.proofs.Common.{◌≡◌, drop}
use Rattle.std.specs.List.{flat_map}
use Rattle.smv_meaning.specs.NameSets.{in_set, and_names}
use Rattle.smv_meaning.specs.Symbols.{declared_symbols}
use Rattle.integrate.specs.Introductions as spec
use Rattle.integrate.proofs.symbols.insert_section.Given as goal

abbrev pub invariant-loop-declaration : goal.invariant-loop-declaration
invariant-loop-declaration l = and_names (in_set l.names) (flat_map (λ d. declared_symbols d.what) (drop l.declaration-index l.declaration-items)) ≡ and_names (in_set l.fn.names) (spec.section_symbols l.section)
