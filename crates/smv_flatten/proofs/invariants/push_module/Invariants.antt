use Rattle.std.proofs.Common.{◌≡◌, ◌++◌, map, drop}
use Rattle.smv_flatten.specs.Invariants as spec
use Rattle.smv_flatten.proofs.invariants.push_module.Given as goal

abbrev pub invariant-loop-number : goal.invariant-loop-number
invariant-loop-number l = map spec.spec_view l.found.items ++ spec.specs_from l.owned l.row l.owner.name l.number (drop l.number l.sections) ≡ map spec.spec_view l.fn.found.items ++ spec.module_specs l.owned l.row l.owner
