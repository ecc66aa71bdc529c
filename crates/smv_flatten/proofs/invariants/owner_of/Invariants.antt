use Rattle.std.proofs.Common.{◌≡◌, drop}
use Rattle.smv_flatten.specs.Invariants as spec
use Rattle.smv_flatten.proofs.invariants.owner_of.Given as goal

abbrev pub invariant-loop-one : goal.invariant-loop-one
invariant-loop-one l = spec.owner_of (drop l.one-index l.owned) l.called l.section ≡ spec.owner_of l.owned l.called l.section
