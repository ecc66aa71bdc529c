use Rattle.std.proofs.Common.{◌≡◌, drop}
use Rattle.smv_meaning.specs.RunCheck.{named_in}
use Rattle.smv_meaning.proofs.spec.row_named.Given as goal

abbrev pub invariant-loop-row : goal.invariant-loop-row
invariant-loop-row l = named_in l.table l.instance (drop l.row-index l.order) ≡ named_in l.table l.instance l.order
