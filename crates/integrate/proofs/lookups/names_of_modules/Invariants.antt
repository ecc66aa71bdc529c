use Rattle.std.proofs.Common.{◌≡◌, map, drop}
use Rattle.smv_meaning.specs.NameSets.{in_set, and_names}
use Rattle.integrate.specs.Lookups.{among_modules}
use Rattle.integrate.proofs.lookups.names_of_modules.Given as goal

abbrev pub invariant-loop-owner : goal.invariant-loop-owner
invariant-loop-owner l = and_names (in_set l.names) (map (λ m. m.name) (drop l.owner-index l.program.modules)) ≡ among_modules l.program
