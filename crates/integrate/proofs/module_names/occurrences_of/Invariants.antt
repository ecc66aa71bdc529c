use Rattle.std.proofs.Common.{◌≡◌, drop}
use Rattle.integrate.specs.ModuleNames.{in_names, names_view, no_name, all_met}
use Rattle.integrate.proofs.module_names.occurrences_of.Given as goal

abbrev pub invariant-loop-name : goal.invariant-loop-name
invariant-loop-name l = all_met (in_names l.met, in_names l.again) (names_view (drop l.name-index l.names)) ≡ all_met (no_name, no_name) (names_view l.names)
