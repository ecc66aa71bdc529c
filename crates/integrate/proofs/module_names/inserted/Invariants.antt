use Rattle.std.proofs.Common.{◌≡◌, drop}
use Rattle.integrate.specs.ModuleNames.{in_names, names_view, no_name, and_names}
use Rattle.integrate.proofs.module_names.inserted.Given as goal

abbrev pub invariant-loop-name : goal.invariant-loop-name
invariant-loop-name l = and_names (in_names l.set) (names_view (drop l.name-index l.names)) ≡ and_names no_name (names_view l.names)
