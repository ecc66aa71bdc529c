use Rattle.std.proofs.Common.{◌≡◌, ◌+◌, ◌-◌, ◌∙◌, nat_eq, sym, ap, arith, List, ℕ, Some, None}
use Rattle.std.proofs.lemmas.Bool.{eq-eqb}
use Rattle.fixpoint.specs.Fixpoints.{most}
use Rattle.graph.specs.Graphs as spec
use Rattle.graph.proofs.CycleLemmas.{ends_none, ends_goal, goes_on, differ}
use Rattle.graph.proofs.cycle.cycle_by_tables.Goals as goal

pub returns-then-goal-c : goal.returns-then-goal-c
returns-then-goal-c c =
    let next : Some c.in-Some.c ≡ spec.next_of (spec.successors_in c.args.graph.now) nat_eq c.args.goal c.loop-round.cycle c.loop-round.last = sym c.in-Some.is ∙ (rw c.as_slice.ensures at c.in_ok-c.ensures) in
    ends_goal (spec.successors_in c.args.graph.now) nat_eq c.args.goal c.loop-round.cycle c.loop-round.last c.loop-round._round c.in-Some.c (omega (arith, c.loop-round-test.true)) next (eq-eqb c.args.goal c.in-Some.c c.if-goal-c.true)
    ∙ c.loop-round.invariant

pub returns-in-None : goal.returns-in-None
returns-in-None c =
    let next : None ≡ spec.next_of (spec.successors_in c.args.graph.now) nat_eq c.args.goal c.loop-round.cycle c.loop-round.last = sym c.in-None.is ∙ (rw c.as_slice.ensures at c.in_ok-c.ensures) in
    ends_none (spec.successors_in c.args.graph.now) nat_eq c.args.goal c.loop-round.cycle c.loop-round.last c.loop-round._round (omega (arith, c.loop-round-test.true)) next
    ∙ c.loop-round.invariant

pub loop-round-preserved : goal.loop-round-preserved
loop-round-preserved c =
    let next : Some c.in-Some.c ≡ spec.next_of (spec.successors_in c.args.graph.now) nat_eq c.args.goal c.loop-round.cycle c.loop-round.last = sym c.in-Some.is ∙ (rw c.as_slice.ensures at c.in_ok-c.ensures) in
    ap (λ (x : List ℕ). spec.cycle_from (spec.successors_in c.args.graph.now) nat_eq (most - (c.loop-round._round + 1)) c.args.goal x c.in-Some.c) c.in_ok-push-in-Some.ensures.ok
    ∙ (goes_on (spec.successors_in c.args.graph.now) nat_eq c.args.goal c.loop-round.cycle c.loop-round.last c.loop-round._round c.in-Some.c (omega (arith, c.loop-round-test.true)) next (differ c.args.goal c.in-Some.c c.if-goal-c.false)
    ∙ c.loop-round.invariant)
