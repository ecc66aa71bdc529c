use Rattle.std.proofs.Common.{◌≡◌, ◌+◌, ◌/◌, arith, ℕ, ap, subst}
use Rattle.gate_build.specs.Circuits.{IsInput}
use Rattle.gate_build.specs.Numbering.{input_of}
use Rattle.gate_build.proofs.StateLemmas.{KeepsTogether-input, IsInput-new}
use Rattle.gate_build.proofs.gates.Gates.input.Goals as goal

pub invariant_of-self : goal.invariant_of-self
invariant_of-self c = KeepsTogether-input c.self.inside.vars c.self.inside.clauses.items c.self.inside.outputs.entries c.self.invariant (omega arith)

pub returns-clause-numbered : goal.returns-clause-numbered
unfolding input_of
returns-clause-numbered c = rw (← c.self.view_is) (ap (λ (l : ℕ). (l, record { vars = c.self.inside.vars + 1; gates = c.self.inside.outputs.entries })) c.new.ensures)

pub returns-clause-input : goal.returns-clause-input
returns-clause-input c =
    let is : c.self.inside.vars + 1 ≡ c.new.result / 2 = omega arith in
    subst (λ (v : ℕ). IsInput (record { vars = c.self.inside.vars + 1; gates = c.self.inside.outputs.entries }) v) is (IsInput-new c.self.inside.vars c.self.inside.outputs.entries c.self.invariant.sound)
