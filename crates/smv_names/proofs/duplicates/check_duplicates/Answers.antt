use Rattle.std.proofs.Common.{◌≡◌, ◌∷◌, ◌+◌, drop, sym, ap, ◌∙◌, subst}
use Rattle.std.proofs.lemmas.List.{drop_more}
use Rattle.smv_meaning.specs.NameSets.{in_set}
use Rattle.smv_names.specs.Duplicates.{duplicate_among_modules}
use Rattle.smv_meaning.proofs.FaultLemmas.{reports_err}
use Rattle.smv_names.proofs.duplicates.check_duplicates.Goals as goal

pub returns-in_err-check_module : goal.returns-in_err-check_module
returns-in_err-check_module c =
    let i = c.loop-owner.owner-index in
    let m = c.owner-item.result in
    let items = c.as_slice-owner-items.result.now in
    let split = subst (λ ms. drop i ms ≡ m ∷ drop (i + 1) ms) c.as_slice-owner-items.ensures (drop_more items i m c.loop-owner-test.true ∙ ap (λ x. x ∷ drop (i + 1) items) (sym c.owner-item.is)) in
    reports_err _ _ _ _ _ _ (ap (duplicate_among_modules (in_set c.loop-owner.seen)) (sym split) ∙ c.loop-owner.invariant) c.check_module.ensures c.in_err-check_module.was c.from_residual.ensures.1
