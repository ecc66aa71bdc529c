use Rattle.std.proofs.Common.{◌≡◌, drop}
use Rattle.smv_meaning.specs.Runs.{first_fault}
use Rattle.smv_names.specs.Unknown as unknown
use Rattle.smv_names.proofs.check.check_known.Given as goal

abbrev pub invariant-loop-owner : goal.invariant-loop-owner
invariant-loop-owner l = first_fault (unknown.unknown_within l.known.program.now) (drop l.owner-index l.known.program.now.modules) ≡ unknown.unknown_name_fault l.known.program.now
