use Rattle.std.proofs.Common.{◌≡◌, ◌≤◌, ◌+◌, ◌++◌, drop, length}
use Rattle.std.specs.List.{flat_map}
use Rattle.feature_model.specs.NameFaults.{declared_by}
use Rattle.feature_model.specs.ModelOfText as spec
use Rattle.feature_model.proofs.numbering.numbered.Given as goal

abbrev pub invariant-loop-line : goal.invariant-loop-line
invariant-loop-line l = record {
  made : l.made ++ spec.numbered l.names l.count (drop l.line-index l.lines) ≡ spec.numbered l.names 1 l.lines;
  fits : l.count + length (flat_map declared_by (drop l.line-index l.lines)) ≤ 64;
}
