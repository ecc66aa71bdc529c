use Rattle.std.proofs.Common.{◌≡◌, IfOk, ℕ, ◌+◌, List, drop, subst, ap, ◌∙◌, arith}
use Rattle.smv_flatten.specs.Making.{Made, Maker, chosen, cases_made, value_made}
use Rattle.smv_flatten.proofs.RunLemmas.{value_unrolled, branch_made}
use Rattle.smv_flatten.proofs.making.+making.Goals as goal

pub make_value-returns : goal.make_value-returns
make_value-returns t c =
    subst (λ (w : Made). IfOk c.make_layer.result (λ k. (c.make_layer.new.store, k) ≡ w)) (value_unrolled c.args.names.now c.args.depth c.args.row c.args.after_step c.args.e.now c.args.store.now c.if-depth-eq0.false) c.make_layer.ensures

pub make_cases-loop-branch-preserved : goal.make_cases-loop-branch-preserved
make_cases-loop-branch-preserved t c =
    let make : Maker = value_made c.args.names.now c.args.depth in
    record {
      left = omega arith;
      same = ap (λ (pairs : List (ℕ × ℕ)). chosen pairs (cases_made make make c.args.row c.args.after_step (drop (c.loop-branch.branch-index + 1) c.args.branches.now) c.make_value-in-loop-branch-2.new.store)) c.in_ok-push.ensures.items
          ∙ branch_made make make c.args.row c.args.after_step c.args.branches.now c.loop-branch.branch-index c.branch-item.result c.loop-branch.store (c.make_value-in-loop-branch.new.store, c.in_ok-cond.cond) (c.make_value-in-loop-branch-2.new.store, c.in_ok-value.value) c.loop-branch.made.items
          (omega arith) c.branch-item.is c.in_ok-cond.ensures c.in_ok-value.ensures
          ∙ c.loop-branch.invariant.same;
    }
