use Rattle.std.proofs.Common.{◌≡◌, ◌∙◌, length, sym, ap}
use Rattle.proof_log.specs.Logged.{Logged}
use Rattle.sat_search.proofs.RetireLemmas.{HasVariables-retired}
use Rattle.sat_search.proofs.session.Session.retire.Goals as goal

pub invariant_of-self : goal.invariant_of-self
invariant_of-self c = record {
  variables = HasVariables-retired c.self.inside.solver.log c.retire.new.self.log c.in-Ok.ensures.ok c.self.invariant.variables;
  solves = λ on. c.in-Ok.ensures.solver;
  axioms_are = λ on. c.self.invariant.axioms_are on ∙ sym (ap (λ (log : Logged). length log.axioms) c.in-Ok.ensures.ok.is);
  vars_are = λ on. c.self.invariant.vars_are on ∙ sym c.retire.ensures.vars;
  small = c.self.invariant.small;
}
