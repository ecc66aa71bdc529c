use Rattle.std.proofs.Common.{◌≡◌, drop}
use Rattle.smv_meaning.specs.NameSets.{in_set, and_names}
use Rattle.integrate.specs.Introductions as spec
use Rattle.integrate.proofs.symbols.insert_parts.Given as goal

abbrev pub invariant-loop-part : goal.invariant-loop-part
invariant-loop-part l = and_names (in_set l.names) (spec.parts_symbols (drop l.part-index l.parts)) ≡ and_names (in_set l.fn.names) (spec.parts_symbols l.parts)
