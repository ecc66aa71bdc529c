use Rattle.std.proofs.Common.{take}
use Rattle.proof_log.specs.Standing.{IsFirstUnit}
use Rattle.proof_log.proofs.log.first_unit.Given as goal

abbrev pub invariant-loop-lit : goal.invariant-loop-lit
invariant-loop-lit l = IsFirstUnit l.numbers (take l.lit-index l.lits) l.first
