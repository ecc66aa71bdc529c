use Rattle.std.proofs.Common.{◌≡◌, ◌∙◌, true, ℕ, inr, ap, sym}
use Rattle.std.proofs.lemmas.List.Elements.{All-weaker}
use Rattle.sat_arena.specs.Trails.{true_in}
use Rattle.sat_search.specs.declared.solver.Solver.{Solver}
use Rattle.sat_search.proofs.solver.Solver.decide_open.Goals as goal

pub returns-in_err-position-clause-assumes : goal.returns-in_err-position-clause-assumes
returns-in_err-position-clause-assumes c = c.decide_and_propagate.ensures.assumes c.args.assumptions.now c.loop-lit.invariant.assumes (inr c.loop-lit.invariant.assumed)

pub returns-in-Some-2-clause-assumes : goal.returns-in-Some-2-clause-assumes
returns-in-Some-2-clause-assumes c = c.decide_and_propagate.ensures.assumes c.args.assumptions.now c.loop-lit.invariant.assumes (inr c.loop-lit.invariant.assumed)

pub loop-lit-preserved : goal.loop-lit-preserved
loop-lit-preserved c =
    let lits = c.args.assumptions.now in
    record {
      others = c.decide_and_propagate.ensures.others ∙ ap (λ (s : Solver). record s { propagator = c.decide_and_propagate.new.self.propagator; order = c.next.new.self }) c.loop-lit.invariant.others ∙ ap (λ (o : ℕ). record c.args.self.now { propagator = c.decide_and_propagate.new.self.propagator; order = o }) (sym (ap (λ (s : Solver). s.order) c.decide_and_propagate.ensures.others));
      vars = c.decide_and_propagate.ensures.vars ∙ c.loop-lit.invariant.vars;
      solver = c.decide_and_propagate.ensures.solver;
      settled = rw c.in_default-2.is at c.in_ok-position.ensures.settled;
      assumes = c.decide_and_propagate.ensures.assumes lits c.loop-lit.invariant.assumes (inr c.loop-lit.invariant.assumed);
      assumed = All-weaker (λ (a : ℕ). true_in c.loop-lit.self.propagator.entries a ≡ true) (λ (a : ℕ). true_in c.decide_and_propagate.new.self.propagator.entries a ≡ true) c.decide_and_propagate.ensures.kept lits c.loop-lit.invariant.assumed;
    }
