use Rattle.std.proofs.Common.{◌≡◌, map, take}
use Rattle.integrate_impose.specs.TypeValues as spec
use Rattle.integrate_impose.proofs.values.all_symbols.Given as goal

abbrev pub invariant-loop-name : goal.invariant-loop-name
invariant-loop-name l = l.parts ≡ map (spec.symbol l.at) (take l.name-index l.names)
