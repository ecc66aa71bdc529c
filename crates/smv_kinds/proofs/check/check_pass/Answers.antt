use Rattle.std.proofs.Common.{◌≡◌, ◌∷◌, ◌+◌, ℕ, List, drop, get_or, map, sym, ap, ◌∙◌}
use Rattle.std.proofs.lemmas.List.{drop_more}
use Rattle.smv_meaning.specs.Checking.{instance_at}
use Rattle.smv_meaning.specs.Runs.{first_fault}
use Rattle.smv_meaning.proofs.FaultLemmas.{reports_err}
use Rattle.smv_kinds.specs.Rules.{instance_fault}
use Rattle.smv_kinds.proofs.check.check_pass.Goals as goal

pub returns-in_err-check_row : goal.returns-in_err-check_row
returns-in_err-check_row c =
    let program = c.args.context.now.program.now in
    let split : drop c.loop-row.row-index c.args.order.now ≡ get_or c.args.order.now c.loop-row.row-index 0 ∷ drop (c.loop-row.row-index + 1) c.args.order.now = drop_more c.args.order.now c.loop-row.row-index 0 c.loop-row-test.true in
    reports_err _ _ _ _ _ _ (ap (λ (rows : List ℕ). first_fault (instance_fault program c.args.pass) (map (instance_at c.args.context.now.table.now) rows)) (sym split) ∙ c.loop-row.invariant) c.check_row.ensures c.in_err-check_row.was c.from_residual.ensures.1
