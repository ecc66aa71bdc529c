use Rattle.std.proofs.Common.{◌≡◌, drop}
use Rattle.smv_names.specs.Duplicates.{duplicate_among_symbols}
use Rattle.smv_meaning.specs.NameSets.{in_set, no_name}
use Rattle.smv_names.proofs.duplicates.check_symbols.Given as goal

abbrev pub invariant-loop-name : goal.invariant-loop-name
invariant-loop-name l = duplicate_among_symbols l.at (in_set l.declared) (in_set l.seen) (drop l.name-index l.names) ≡ duplicate_among_symbols l.at (in_set l.declared) no_name l.names
