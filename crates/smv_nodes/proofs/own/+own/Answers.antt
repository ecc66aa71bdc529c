use Rattle.std.proofs.Common.{◌+◌, ◌∷◌, map, drop, refl, sym, ap, ◌∙◌, arith}
use Rattle.std.proofs.lemmas.List.{drop_more}
use Rattle.smv_nodes.specs.Own as spec
use Rattle.smv_nodes.proofs.OwnLemmas.{all_conds, branches_whole, both_none, next_read, next_last}
use Rattle.smv_nodes.proofs.own.+own.Goals as goal
use Rattle.smv_nodes.proofs.own.+own.Goals.{branches_nodes-then-conds-gt0, branches_nodes-else-conds-gt0}

pub branches_nodes-loop-branch-init : goal.branches_nodes-loop-branch-init
branches_nodes-loop-branch-init t c =
    rw c.none-found.ensures (record {
      whole = refl;
      same = branches_whole c.saturating_sub-conds.result (map spec.branch_nodes c.args.branches.now)
          ∙ ap (λ n. spec.branches_nodes n (map spec.branch_nodes c.args.branches.now)) (c.saturating_sub-conds.ensures ∙ all_conds c.args.branches.now);
    })

pub branches_nodes-loop-branch-preserved : goal.branches_nodes-loop-branch-preserved
branches_nodes-loop-branch-preserved t c =
    let b = c.branch-item.result in
    let i = c.loop-branch.branch-index in
    let tail = drop (i + 1) c.args.branches.now in
    let split = drop_more c.args.branches.now i b c.loop-branch-test.true ∙ ap (λ x. x ∷ tail) (sym c.branch-item.is) in
    let after = c.both-found-in-loop-branch.ensures ∙ ap (spec.both c.if-conds-gt0.found) c.nodes_of-in-loop-branch.ensures in
    record {
      whole = rw c.both-found-in-loop-branch.ensures (both_none c.if-conds-gt0.found c.nodes_of-in-loop-branch.result);
      same = elim c.if-conds-gt0.branch [
        | branches_nodes-then-conds-gt0 w ↦ next_read c.loop-branch.found c.if-conds-gt0.found _ c.loop-branch.conds c.if-conds-gt0.conds b _ tail _ split (omega (arith, w.conds-is, w.if-conds-gt0.true))
            (w.found-is ∙ w.both-found.ensures ∙ ap (spec.both c.loop-branch.found) (w.read_branch.ensures ∙ ap spec.read_branch w.nodes_of.ensures)) after c.loop-branch.invariant.same
        | branches_nodes-else-conds-gt0 w ↦ next_last c.loop-branch.found c.if-conds-gt0.found _ c.loop-branch.conds c.if-conds-gt0.conds b _ tail _ split (omega (arith, w.if-conds-gt0.false)) (omega (arith, w.conds-is, w.if-conds-gt0.false))
            w.found-is after c.loop-branch.invariant.same
      ];
    }
