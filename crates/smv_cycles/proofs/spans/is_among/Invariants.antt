use Rattle.std.proofs.Common.{◌≡◌, drop}
use Rattle.smv_cycles.specs.Cycles as spec
use Rattle.smv_cycles.proofs.spans.is_among.Given as goal

abbrev pub invariant-loop-formal : goal.invariant-loop-formal
invariant-loop-formal l = spec.is_formal (drop l.formal-index l.names) l.name ≡ spec.is_formal l.names l.name
