use Rattle.std.proofs.Common.{◌≡◌, ◌∙◌, true, ℕ, ap, take, inl, subst, sym, arith}
use Rattle.std.proofs.lemmas.List.{take_all, get_or_default}
use Rattle.std.proofs.lemmas.List.Elements.{All-weaker, All-more}
use Rattle.sat_arena.specs.Trails.{true_in}
use Rattle.sat_search.specs.declared.solver.Solver.{Solver}
use Rattle.sat_search.specs.Assumed.{AllTrue}
use Rattle.sat_search.proofs.solver.Solver.assume.Goals as goal

pub returns-in_err-position-clause-assumes : goal.returns-in_err-position-clause-assumes
returns-in_err-position-clause-assumes c =
    c.decide_and_propagate.ensures.assumes c.args.assumptions.now c.loop-assumption.invariant.assumes
    (inl (c.loop-assumption.assumption-index, omega arith, sym c.assumption-item.is))

pub returns-in-Some-clause-assumes : goal.returns-in-Some-clause-assumes
returns-in-Some-clause-assumes c =
    c.decide_and_propagate.ensures.assumes c.args.assumptions.now c.loop-assumption.invariant.assumes
    (inl (c.loop-assumption.assumption-index, omega arith, sym c.assumption-item.is))

pub loop-assumption-preserved : goal.loop-assumption-preserved
loop-assumption-preserved c =
    let lits = c.args.assumptions.now in
    let i = c.loop-assumption.assumption-index in
    let after = c.decide_and_propagate.new.self.propagator.entries in
    record {
      others = c.decide_and_propagate.ensures.others ∙ ap (λ (s : Solver). record s { propagator = c.decide_and_propagate.new.self.propagator }) c.loop-assumption.invariant.others;
      vars = c.decide_and_propagate.ensures.vars ∙ c.loop-assumption.invariant.vars;
      solver = c.decide_and_propagate.ensures.solver;
      settled = rw c.in_default.is at c.in_ok-position.ensures.settled;
      assumes = c.decide_and_propagate.ensures.assumes lits c.loop-assumption.invariant.assumes (inl (i, omega arith, sym c.assumption-item.is));
      assumed = All-more (λ (a : ℕ). true_in after a ≡ true) lits i 0 (omega arith)
          (All-weaker (λ (a : ℕ). true_in c.loop-assumption.self.propagator.entries a ≡ true) (λ (a : ℕ). true_in after a ≡ true) c.decide_and_propagate.ensures.kept (take i lits) c.loop-assumption.invariant.assumed)
          (subst (λ (a : ℕ). true_in after a ≡ true) (c.assumption-item.is ∙ get_or_default lits i c.assumption-item.result 0 (omega arith)) c.in_ok-position.ensures.true_now);
    }

pub returns-clause-assumed : goal.returns-clause-assumed
returns-clause-assumed c =
    subst (λ lits. AllTrue lits c.loop-assumption.self.propagator.entries) (take_all c.loop-assumption.assumption-index c.args.assumptions.now (omega arith)) c.loop-assumption.invariant.assumed
