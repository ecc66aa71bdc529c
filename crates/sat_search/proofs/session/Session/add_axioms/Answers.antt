use Rattle.std.proofs.Common.{◌≡◌, ◌+◌, ◌∙◌, ℕ, length, ap, sym, subst, length-append}
use Rattle.proof_log.specs.Logged.{Logged}
use Rattle.sat_search.specs.Additions.{HasVariables}
use Rattle.sat_search.proofs.GrowthLemmas.{with_axioms, HasVariables-axioms}
use Rattle.sat_search.proofs.session.Session.add_axioms.Goals as goal

pub invariant_of-self-in-Ok : goal.invariant_of-self-in-Ok
invariant_of-self-in-Ok c =
    let old = c.self.inside.solver in
    let more = c.args.clauses.now in
    let log_is : c.add_axioms.new.self.log ≡ with_axioms old.log more = c.in-Ok.ensures.ok in
    record {
      variables = subst HasVariables (sym log_is) (HasVariables-axioms old.log more c.self.invariant.variables);
      solves = λ _. c.in-Ok.ensures.solver;
      axioms_are = λ on. ap (λ (n : ℕ). n + length more) (c.self.invariant.axioms_are on) ∙ sym (ap (λ (log : Logged). length log.axioms) log_is ∙ length-append old.log.axioms more);
      vars_are = λ on. c.self.invariant.vars_are on ∙ sym c.add_axioms.ensures.vars;
      small = c.self.invariant.small;
    }
