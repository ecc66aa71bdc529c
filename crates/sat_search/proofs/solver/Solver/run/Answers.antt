use Rattle.std.proofs.Common.{◌∙◌, ap, sym, subst}
use Rattle.proof_log.specs.Logged.{Logged}
use Rattle.sat_arena.specs.ArenaState.{clauses_of}
use Rattle.sat_search.specs.declared.solver.Solver.{Solver}
use Rattle.sat_search.specs.Assumed.{AssumesFirst}
use Rattle.sat_search.specs.Endings.{ContinuesTo}
use Rattle.sat_search.proofs.ReadyLemmas.{AssumesFirst-root}
use Rattle.sat_search.proofs.RunLemmas.{ContinuesTo-refl, ContinuesTo-step}
use Rattle.sat_search.proofs.solver.Solver.run.Goals as goal

pub loop-answer-init : goal.loop-answer-init
loop-answer-init c =
    let old = c.args.self.now in
    record {
      vars = ap (λ (s : Solver). s.propagator.vars) c.back.ensures.others;
      solver = c.back.ensures.solver;
      assumes = subst (λ (s : Solver). AssumesFirst c.args.assumptions.now s.propagator.entries) (sym c.back.ensures.others)
          (AssumesFirst-root c.args.assumptions.now (clauses_of old.propagator.stored) old.propagator.entries old.propagator.vars c.requires.solver.ready);
      continues = subst (λ (log : Logged). ContinuesTo old.log log c.args.most) (sym (ap (λ (s : Solver). s.log) c.back.ensures.others)) (ContinuesTo-refl old.log c.args.most);
    }

pub loop-answer-preserved : goal.loop-answer-preserved
loop-answer-preserved c = record {
  vars = c.search_round.ensures.vars ∙ c.loop-answer.invariant.vars;
  solver = c.in_ok-answer.ensures.solver;
  assumes = rw c.in_default.is at c.in_ok-answer.ensures.assumes;
  continues = ContinuesTo-step c.args.self.now.log c.loop-answer.self.log c.search_round.new.self.log c.args.most c.loop-answer.invariant.continues (rw c.in_default.is at c.in_ok-answer.ensures.learnt);
}
