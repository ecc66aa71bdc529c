use Rattle.std.proofs.Common.{◌≡◌, drop}
use Rattle.smv_names.specs.Duplicates.{duplicate_among_numbers}
use Rattle.smv_names.specs.NumberSets.{has_number, no_number}
use Rattle.smv_names.proofs.duplicates.check_numbers.Given as goal

abbrev pub invariant-loop-n : goal.invariant-loop-n
invariant-loop-n l = duplicate_among_numbers l.at (has_number l.seen) (drop l.n-index l.numbers) ≡ duplicate_among_numbers l.at no_number l.numbers
