use Rattle.std.proofs.Common.{◌≡◌, IfOk, ℕ, ◌+◌, List, drop, subst, ap, ◌∙◌, arith}
use Rattle.smv_flatten.specs.Making.{Made, Maker, chosen, cases_made, value_made, right_made}
use Rattle.smv_flatten.proofs.RunLemmas.{right_unrolled, branch_made}
use Rattle.smv_flatten.proofs.rights.+rights.Goals as goal

pub make_right_cases-loop-branch-preserved : goal.make_right_cases-loop-branch-preserved
make_right_cases-loop-branch-preserved t c =
    let make : Maker = value_made c.args.names.now c.args.depth in
    let ends : Maker = right_made c.args.names.now c.args.depth c.args.x in
    record {
      left = omega arith;
      same = ap (λ (pairs : List (ℕ × ℕ)). chosen pairs (cases_made make ends c.args.row c.args.after_step (drop (c.loop-branch.branch-index + 1) c.args.branches.now) c.make_right-in-loop-branch.new.store)) c.in_ok-push.ensures.items
          ∙ branch_made make ends c.args.row c.args.after_step c.args.branches.now c.loop-branch.branch-index c.branch-item.result c.loop-branch.store (c.make_value.new.store, c.in_ok-cond.cond) (c.make_right-in-loop-branch.new.store, c.in_ok-value.value) c.loop-branch.made.items
          (omega arith) c.branch-item.is c.in_ok-cond.ensures c.in_ok-value.ensures
          ∙ c.loop-branch.invariant.same;
    }

pub make_right-returns : goal.make_right-returns
make_right-returns t c =
    subst (λ (w : Made). IfOk c.make_right_layer.result (λ k. (c.make_right_layer.new.store, k) ≡ w)) (right_unrolled c.args.names.now c.args.depth c.args.x c.args.row c.args.after_step c.args.e.now c.args.store.now c.if-depth-eq0.false) c.make_right_layer.ensures
