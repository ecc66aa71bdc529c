use Rattle.std.proofs.Common.{◌≡◌, drop}
use Rattle.smv_meaning.specs.RunCheck.{broken_in_order}
use Rattle.smv_meaning.proofs.check.first_broken.Given as goal

abbrev pub invariant-loop-row : goal.invariant-loop-row
invariant-loop-row l = broken_in_order l.context l.before l.now (drop l.row-index l.order) ≡ broken_in_order l.context l.before l.now l.order
