use Rattle.std.proofs.Common.{◌≡◌, drop}
use Rattle.smv_flatten.specs.Variables as spec
use Rattle.smv_flatten.proofs.variables.owner_of.Given as goal

abbrev pub invariant-loop-var : goal.invariant-loop-var
invariant-loop-var l = spec.owner_of (drop l.var-index l.owned) l.called l.name ≡ spec.owner_of l.owned l.called l.name
