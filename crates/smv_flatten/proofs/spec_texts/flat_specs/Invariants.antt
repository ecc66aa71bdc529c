use Rattle.std.proofs.Common.{◌≡◌, ◌++◌, map, drop}
use Rattle.smv_flatten.specs.Invariants.{spec_view}
use Rattle.smv_flatten.specs.SpecTexts as spec
use Rattle.smv_flatten.proofs.spec_texts.flat_specs.Given as goal

abbrev pub invariant-loop-place : goal.invariant-loop-place
invariant-loop-place l = l.found ++ spec.flat_specs l.table l.nodes l.place (map spec_view (drop l.place l.specs)) ≡ spec.flat_specs l.table l.nodes 0 (map spec_view l.specs)
