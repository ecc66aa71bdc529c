use Rattle.std.proofs.Common.{◌≡◌, take}
use Rattle.integrate_impose.proofs.section_copies.copy_definitions.Given as goal

abbrev pub invariant-loop-definition : goal.invariant-loop-definition
invariant-loop-definition l = l.copy ≡ take l.definition-index l.definitions
