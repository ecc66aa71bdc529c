use Rattle.std.proofs.Common.{◌≡◌, drop}
use Rattle.integrate.specs.Joined as spec
use Rattle.integrate.proofs.joined.with_parts.Given as goal

abbrev pub invariant-loop-part : goal.invariant-loop-part
invariant-loop-part l = spec.joined l.program (drop l.part-index l.parts) ≡ spec.joined l.fn.program l.parts
