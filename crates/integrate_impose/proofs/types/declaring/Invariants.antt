use Rattle.std.proofs.Common.{◌≡◌, drop, find}
use Rattle.integrate_impose.specs.VariableTypes.{declares}
use Rattle.integrate_impose.proofs.types.declaring.Given as goal

abbrev pub invariant-loop-section : goal.invariant-loop-section
invariant-loop-section l = find (declares l.name) l.sections ≡ find (declares l.name) (drop l.section-index l.sections)
