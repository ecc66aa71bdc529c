use Rattle.std.proofs.Common.{◌≡◌, drop}
use Rattle.smv_meaning.specs.Runs.{first_fault}
use Rattle.fsmv_top.specs.ReservedNames.{reserved_definition}
use Rattle.fsmv_top.proofs.reserved.check_definitions.Given as goal

abbrev pub invariant-loop-definition : goal.invariant-loop-definition
invariant-loop-definition l = first_fault reserved_definition (drop l.definition-index l.definitions) ≡ first_fault reserved_definition l.definitions
