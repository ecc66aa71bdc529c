use Rattle.std.proofs.Common.{◌≡◌, sym, ap, ◌∙◌, subst, arith, Some, Option, Bool, IfOk}
use Rattle.smv_meaning.specs.declared.value.Value.{Value}
use Rattle.smv_meaning.specs.Denotations.{holds_in, branch_denotation_of}
use Rattle.smv_meaning.proofs.DenotationLemmas.{branch_is, unclear_branch, true_branch, false_branch}
use Rattle.smv_meaning.proofs.evaluation.+evaluation.Goals as goal

pub case_value-returns-in-None : goal.case_value-returns-in-None
case_value-returns-in-None g t c =
    let now = g.E.Environment.reads c.args.now.now in
    let after = g.E.Environment.reads c.args.after.now in
    sym (unclear_branch (holds_in now after) branch_denotation_of (λ b. b.value.value now after) c.args.branches.now c.loop-branch.branch-index c.branch-item.result (omega arith) c.branch-item.is
    (ap (holds_in now after) (branch_is c.branch-item.result) ∙ (sym c.in_ok-holds.ensures ∙ c.in-None.is))) ∙ c.loop-branch.invariant.same

pub case_value-returns-in-Some-true : goal.case_value-returns-in-Some-true
case_value-returns-in-Some-true g t c =
    let now = g.E.Environment.reads c.args.now.now in
    let after = g.E.Environment.reads c.args.after.now in
    let taken = true_branch (holds_in now after) branch_denotation_of (λ b. b.value.value now after) c.args.branches.now c.loop-branch.branch-index c.branch-item.result (omega arith) c.branch-item.is
    (ap (holds_in now after) (branch_is c.branch-item.result) ∙ (sym c.in_ok-holds.ensures ∙ (c.in-Some-true.is ∙ ap Some c.in-Some-true.field-0-test))) in
    subst (λ (x : Option Value). IfOk c.value-in-Some-true.result (λ v. v ≡ x)) (ap (λ b. b.value.value now after) (sym (branch_is c.branch-item.result)) ∙ (sym taken ∙ c.loop-branch.invariant.same)) c.value-in-Some-true.ensures

pub case_value-loop-branch-preserved : goal.case_value-loop-branch-preserved
case_value-loop-branch-preserved g t c =
    let now = g.E.Environment.reads c.args.now.now in
    let after = g.E.Environment.reads c.args.after.now in
    let passed = false_branch (holds_in now after) branch_denotation_of (λ b. b.value.value now after) c.args.branches.now c.loop-branch.branch-index c.branch-item.result (omega arith) c.branch-item.is
    (ap (holds_in now after) (branch_is c.branch-item.result) ∙ (sym c.in_ok-holds.ensures ∙ (c.in-Some-false.is ∙ ap Some c.in-Some-false.field-0-test))) in
    record { left = omega arith; same = sym passed ∙ c.loop-branch.invariant.same }

pub case_allows-returns-in-None : goal.case_allows-returns-in-None
case_allows-returns-in-None g t c =
    let now = g.E.Environment.reads c.args.now.now in
    let after = g.E.Environment.reads c.args.after.now in
    sym (unclear_branch (holds_in now after) branch_denotation_of (λ b. b.value.allows now after c.args.v.now) c.args.branches.now c.loop-branch.branch-index c.branch-item.result (omega arith) c.branch-item.is
    (ap (holds_in now after) (branch_is c.branch-item.result) ∙ (sym c.in_ok-holds.ensures ∙ c.in-None.is))) ∙ c.loop-branch.invariant.same

pub case_allows-returns-in-Some-true : goal.case_allows-returns-in-Some-true
case_allows-returns-in-Some-true g t c =
    let now = g.E.Environment.reads c.args.now.now in
    let after = g.E.Environment.reads c.args.after.now in
    let taken = true_branch (holds_in now after) branch_denotation_of (λ b. b.value.allows now after c.args.v.now) c.args.branches.now c.loop-branch.branch-index c.branch-item.result (omega arith) c.branch-item.is
    (ap (holds_in now after) (branch_is c.branch-item.result) ∙ (sym c.in_ok-holds.ensures ∙ (c.in-Some-true.is ∙ ap Some c.in-Some-true.field-0-test))) in
    subst (λ (x : Option Bool). IfOk c.allows-in-Some-true.result (λ v. v ≡ x)) (ap (λ b. b.value.allows now after c.args.v.now) (sym (branch_is c.branch-item.result)) ∙ (sym taken ∙ c.loop-branch.invariant.same)) c.allows-in-Some-true.ensures

pub case_allows-loop-branch-preserved : goal.case_allows-loop-branch-preserved
case_allows-loop-branch-preserved g t c =
    let now = g.E.Environment.reads c.args.now.now in
    let after = g.E.Environment.reads c.args.after.now in
    let passed = false_branch (holds_in now after) branch_denotation_of (λ b. b.value.allows now after c.args.v.now) c.args.branches.now c.loop-branch.branch-index c.branch-item.result (omega arith) c.branch-item.is
    (ap (holds_in now after) (branch_is c.branch-item.result) ∙ (sym c.in_ok-holds.ensures ∙ (c.in-Some-false.is ∙ ap Some c.in-Some-false.field-0-test))) in
    record { left = omega arith; same = sym passed ∙ c.loop-branch.invariant.same }
