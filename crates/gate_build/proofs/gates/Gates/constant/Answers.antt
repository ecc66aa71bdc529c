use Rattle.std.proofs.Common.{subst}
use Rattle.gate_build.specs.Circuits.{Circuit, IsMade}
use Rattle.gate_build.proofs.OrderLemmas.{IsMade-constant}
use Rattle.gate_build.proofs.gates.Gates.constant.Goals as goal

pub returns-clause-made : goal.returns-clause-made
returns-clause-made c = subst (λ (s : Circuit). IsMade s c.new.result) c.self.view_is (IsMade-constant c.self.inside.vars c.self.inside.outputs.entries c.args.value c.new.result c.new.ensures c.self.invariant.sound)
