use Rattle.std.proofs.Common.{List, Err, sym, ap, ◌∙◌, subst}
use Rattle.smv_ast.specs.declared.feature.Change.{Change}
use Rattle.integrate_impose.specs.Answers.{Answers}
use Rattle.integrate.specs.Changes.{all_changed}
use Rattle.integrate.proofs.ChangeLemmas.{run_applied, run_refused}
use Rattle.integrate.proofs.changes.apply_changes.Goals as goal

pub returns-in-Err : goal.returns-in-Err
returns-in-Err c = run_refused c.args.feature.now c.args.product c.loop-left.program c.loop-left.left.now c.run_length.result _ c.in-Err.fault c.loop-left.invariant
    (subst (λ (run : List Change). Answers (all_changed c.args.feature.now c.args.product c.loop-left.program run) (Err c.in-Err.fault)) c.split_at.ensures.front c.in-Err.ensures)

pub loop-left-preserved : goal.loop-left-preserved
loop-left-preserved c =
    ap (all_changed c.args.feature.now c.args.product c.in-Ok.changed) c.split_at.ensures.back
    ∙ (sym (run_applied c.args.feature.now c.args.product c.loop-left.program c.loop-left.left.now c.run_length.result c.in-Ok.changed
    (ap (all_changed c.args.feature.now c.args.product c.loop-left.program) (sym c.split_at.ensures.front) ∙ c.in-Ok.ensures))
    ∙ c.loop-left.invariant)
