use Rattle.std.proofs.Common.{◌≡◌, ◌++◌, drop}
use Rattle.std.specs.List.{flat_map}
use Rattle.feature_model.specs.NameFaults.{declared_by, declared_names}
use Rattle.feature_model.proofs.numbering.declared_names.Given as goal

abbrev pub invariant-loop-line : goal.invariant-loop-line
invariant-loop-line l = l.names ++ flat_map declared_by (drop l.line-index l.text.lines) ≡ declared_names l.text
