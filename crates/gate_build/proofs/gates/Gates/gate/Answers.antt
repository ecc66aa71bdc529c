use Rattle.std.proofs.Common.{◌≤◌, sym, ◌+◌, arith, subst}
use Rattle.sat_lits.specs.Literals.{variable_of}
use Rattle.gate_build.specs.Circuits.{Circuit, Extends, IsMade}
use Rattle.gate_build.specs.Numbering.{pair_eq}
use Rattle.gate_build.proofs.StateLemmas.{KeepsTogether-gate, found_made}
use Rattle.gate_build.proofs.OrderLemmas.{Extends-gate}
use Rattle.gate_build.proofs.gates.Gates.gate.Goals as goal

pub invariant_of-self-2 : goal.invariant_of-self-2
invariant_of-self-2 c =
    let made : variable_of c.args.high ≤ c.self.inside.vars = subst (λ (s : Circuit). variable_of c.args.high ≤ s.vars) (sym c.self.view_is) c.requires.made in
    KeepsTogether-gate c.self.inside.vars c.self.inside.clauses.items c.define.new.clauses.items c.self.inside.outputs.entries c.define.new.outputs.entries c.args.low c.args.high c.new-output.result
    c.self.invariant c.requires.above c.requires.apart made (omega arith) (omega arith) c.in_ok-define.ensures.clauses c.in_ok-define.ensures.outputs

pub returns-in-Some-clause-made : goal.returns-in-Some-clause-made
returns-in-Some-clause-made c =
    let is = found_made (pair_eq (c.args.low, c.args.high)) 1 c.self.inside.vars c.in-Some.output.now c.self.inside.outputs.entries (sym c.in-Some.ensures.value) c.self.invariant.sound.in_order in
    subst (λ (s : Circuit). IsMade s c.in-Some.output.now) c.self.view_is (record { numbered = is.0; made = is.1 })

pub returns-clause-extends : goal.returns-clause-extends
returns-clause-extends c =
    let made : variable_of c.args.high ≤ c.self.inside.vars = subst (λ (s : Circuit). variable_of c.args.high ≤ s.vars) (sym c.self.view_is) c.requires.made in
    subst (λ (s : Circuit). Extends s (record { vars = c.self.inside.vars + 1; gates = c.define.new.outputs.entries })) c.self.view_is
    (Extends-gate (record { vars = c.self.inside.vars; gates = c.self.inside.outputs.entries }) c.define.new.outputs.entries c.args.low c.args.high c.new-output.result c.requires.above c.requires.apart made (omega arith) c.in_ok-define.ensures.outputs)
