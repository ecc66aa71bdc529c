use Rattle.std.proofs.Common.{◌≡◌, drop}
use Rattle.feature_model.specs.NameSets.{in_set}
use Rattle.feature_model.specs.NameFaults.{lines_fault}
use Rattle.feature_model.proofs.names.check_lines.Given as goal

abbrev pub invariant-loop-line : goal.invariant-loop-line
invariant-loop-line l = lines_fault (in_set l.declared) (drop l.line-index l.lines) ≡ lines_fault (in_set l.fn.declared) l.lines
