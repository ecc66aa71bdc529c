use Rattle.gate_build.proofs.OrderLemmas.{rises}
use Rattle.gate_build.proofs.gates.Gates.vars.Goals as goal

pub returns-clause-positive : goal.returns-clause-positive
returns-clause-positive c = rises 1 c.self.inside.vars c.self.inside.outputs.entries c.self.invariant.sound.in_order
