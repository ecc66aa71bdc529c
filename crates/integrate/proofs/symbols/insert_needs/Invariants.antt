use Rattle.std.proofs.Common.{◌≡◌, drop}
use Rattle.smv_meaning.specs.NameSets.{in_set, and_names}
use Rattle.integrate.specs.Introductions as spec
use Rattle.integrate.proofs.symbols.insert_needs.Given as goal

abbrev pub invariant-loop-need : goal.invariant-loop-need
invariant-loop-need l = and_names (in_set l.names) (spec.needs_symbols (drop l.need-index l.needs)) ≡ and_names (in_set l.fn.names) (spec.needs_symbols l.needs)
