use Rattle.std.proofs.Common.{◌≡◌, ◌++◌, map, drop}
use Rattle.smv_meaning.specs.Instances.{instance_text}
use Rattle.smv_meaning.specs.Checking as checking
use Rattle.smv_types.proofs.checks.row_texts.Given as goal

abbrev pub invariant-loop-row : goal.invariant-loop-row
invariant-loop-row l = l.found ++ map instance_text (map (checking.instance_at l.table) (drop l.row-index l.order)) ≡ map instance_text (map (checking.instance_at l.table) l.order)
