use Rattle.std.proofs.Common.{◌∷◌, ◌+◌, drop, sym, ap, ◌∙◌, subst}
use Rattle.std.proofs.lemmas.List.{drop_more}
use Rattle.smv_meaning.specs.Faults.{ReportsFirst}
use Rattle.smv_meaning.proofs.FaultLemmas.{reports_err}
use Rattle.smv_names.specs.Recursion.{recursive_at, recursive_from}
use Rattle.smv_names.proofs.recursion.check_graph.Goals as goal

pub returns-in_err-check_module : goal.returns-in_err-check_module
returns-in_err-check_module c =
    let i = c.loop-owner.owner-index in
    let m = c.owner-item.result in
    let tail = drop (i + 1) c.args.modules.now in
    let split = drop_more c.args.modules.now i m c.loop-owner-test.true ∙ ap (λ x. x ∷ tail) (sym c.owner-item.is) in
    reports_err _ _ _ _ _ _ (ap (recursive_from c.args.graph.now c.loop-owner.k) (sym split) ∙ c.loop-owner.invariant.left)
    (subst (λ g. ReportsFirst (recursive_at g c.loop-owner.k m) c.check_module.result) c.in_ok-search.ensures c.check_module.ensures)
    c.in_err-check_module.was c.from_residual-in_err-check_module.ensures.1
