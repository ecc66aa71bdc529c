use Rattle.std.proofs.Common.{◌≡◌, ◌+◌, ◌≤◌, None, List, ℕ, length, ap, subst, sym, ◌∙◌, arith}
use Rattle.std.proofs.lemmas.List.{length_push}
use Rattle.sat_arena.specs.declared.trail.Assigned.{Assigned}
use Rattle.sat_arena.specs.Trails.{true_in}
use Rattle.sat_arena.specs.ArenaState.{clauses_of}
use Rattle.sat_arena.specs.Justified.{current_level}
use Rattle.sat_arena.proofs.TrailLemmas.{few_entries}
use Rattle.sat_arena.proofs.DeducedLemmas.{longer_deduced}
use Rattle.sat_search.specs.Assumed.{AssumesFirst}
use Rattle.sat_arena.proofs.TrueInLemmas.{true_in_deduced, true_in_push, true_in_last}
use Rattle.sat_search.proofs.ReadyLemmas.{AssumesFirst-push, AssumesFirst-deduced}
use Rattle.sat_search.proofs.solver.Solver.decide_and_propagate.Goals as goal

-- the decision
abbrev decision : ℕ → List Assigned → Assigned
decision lit entries = record { lit = lit; level = current_level entries + 1; reason = None }

pub returns-in_err-decide-clause-few : goal.returns-in_err-decide-clause-few
returns-in_err-decide-clause-few c =
    let after = c.in_err-decide.ensures.solver in
    few_entries c.decide.new.self.propagator.entries c.decide.new.self.propagator.vars after.ready.orderly

pub returns-clause-few : goal.returns-clause-few
returns-clause-few c = few_entries c.propagate.new.self.propagator.entries c.propagate.new.self.propagator.vars c.propagate.ensures.solver.ready.orderly

pub returns-clause-true_now : goal.returns-clause-true_now
returns-clause-true_now c =
    true_in_deduced (clauses_of c.decide.new.self.propagator.stored) (current_level c.decide.new.self.propagator.entries) c.decide.new.self.propagator.entries c.propagate.new.self.propagator.entries c.propagate.ensures.deduced c.args.lit
    (ap (λ es. true_in es c.args.lit) c.in_ok-decide.ensures.ok ∙ true_in_last c.args.self.now.propagator.entries (decision c.args.lit c.args.self.now.propagator.entries))

pub returns-clause-kept : goal.returns-clause-kept
returns-clause-kept c l was =
    true_in_deduced (clauses_of c.decide.new.self.propagator.stored) (current_level c.decide.new.self.propagator.entries) c.decide.new.self.propagator.entries c.propagate.new.self.propagator.entries c.propagate.ensures.deduced l
    (ap (λ es. true_in es l) c.in_ok-decide.ensures.ok ∙ true_in_push c.args.self.now.propagator.entries (decision c.args.lit c.args.self.now.propagator.entries) l was)

pub returns-clause-assumes : goal.returns-clause-assumes
returns-clause-assumes c assumptions first now =
    AssumesFirst-deduced assumptions (clauses_of c.decide.new.self.propagator.stored) (current_level c.decide.new.self.propagator.entries) c.decide.new.self.propagator.entries c.propagate.new.self.propagator.entries c.propagate.ensures.deduced
    (subst (AssumesFirst assumptions) (sym c.in_ok-decide.ensures.ok)
    (AssumesFirst-push assumptions c.args.self.now.propagator.entries (decision c.args.lit c.args.self.now.propagator.entries) first (λ _. now)))

pub returns-clause-longer : goal.returns-clause-longer
returns-clause-longer c =
    let more : length c.decide.new.self.propagator.entries ≤ length c.propagate.new.self.propagator.entries = longer_deduced (clauses_of c.decide.new.self.propagator.stored) (current_level c.decide.new.self.propagator.entries) c.decide.new.self.propagator.entries c.propagate.new.self.propagator.entries c.propagate.ensures.deduced in
    let one : length c.decide.new.self.propagator.entries ≡ length c.args.self.now.propagator.entries + 1 = ap length c.in_ok-decide.ensures.ok ∙ length_push c.args.self.now.propagator.entries (decision c.args.lit c.args.self.now.propagator.entries) in
    omega arith
