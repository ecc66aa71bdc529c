use Rattle.std.proofs.Common.{◌≡◌, map, take}
use Rattle.integrate_impose.specs.TypeValues as spec
use Rattle.integrate_impose.proofs.values.all_numbers.Given as goal

abbrev pub invariant-loop-n : goal.invariant-loop-n
invariant-loop-n l = l.parts ≡ map spec.number (take l.n-index l.numbers)
