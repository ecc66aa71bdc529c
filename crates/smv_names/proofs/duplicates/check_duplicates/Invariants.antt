use Rattle.std.proofs.Common.{◌≡◌, drop}
use Rattle.smv_names.specs.Duplicates.{duplicate_among_modules, duplicate_fault}
use Rattle.smv_meaning.specs.NameSets.{in_set}
use Rattle.smv_names.proofs.duplicates.check_duplicates.Given as goal

abbrev pub invariant-loop-owner : goal.invariant-loop-owner
invariant-loop-owner l = duplicate_among_modules (in_set l.seen) (drop l.owner-index l.program.modules) ≡ duplicate_fault l.program
