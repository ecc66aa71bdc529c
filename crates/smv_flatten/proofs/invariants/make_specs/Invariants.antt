use Rattle.std.proofs.Common.{◌≡◌, [], fold, map, drop}
use Rattle.smv_flatten.specs.Invariants as spec
use Rattle.smv_flatten.proofs.invariants.make_specs.Given as goal

abbrev pub invariant-loop-one : goal.invariant-loop-one
invariant-loop-one l = fold (spec.spec_added l.names) (l.store, l.made) (map spec.spec_view (drop l.one-index l.specs)) ≡ fold (spec.spec_added l.names) (l.fn.store, []) (map spec.spec_view l.specs)
