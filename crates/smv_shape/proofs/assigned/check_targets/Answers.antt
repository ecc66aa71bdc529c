use Rattle.std.proofs.Common.{◌≡◌, ◌∷◌, ◌+◌, drop, sym, ap, ◌∙◌, subst}
use Rattle.std.proofs.lemmas.List.{drop_more}
use Rattle.smv_meaning.specs.Runs.{first_fault}
use Rattle.smv_meaning.proofs.FaultLemmas.{reports_err}
use Rattle.smv_shape.specs.Assigned.{target_within}
use Rattle.smv_shape.proofs.assigned.check_targets.Goals as goal

pub returns-in_err-check_targets_of : goal.returns-in_err-check_targets_of
returns-in_err-check_targets_of c =
    let i = c.loop-owner.owner-index in
    let m = c.owner-item.result in
    let items = c.as_slice-owner-items.result.now in
    let split = subst (λ ms. drop i ms ≡ m ∷ drop (i + 1) ms) c.as_slice-owner-items.ensures (drop_more items i m c.loop-owner-test.true ∙ ap (λ x. x ∷ drop (i + 1) items) (sym c.owner-item.is)) in
    reports_err _ _ _ _ _ _ (ap (first_fault target_within) (sym split) ∙ c.loop-owner.invariant) c.check_targets_of.ensures c.in_err-check_targets_of.was c.from_residual.ensures.1
