use Rattle.std.proofs.Common.{◌≡◌, ◌∷◌, ◌+◌, drop, sym, ap, ◌∙◌}
use Rattle.std.proofs.lemmas.List.{drop_more}
use Rattle.smv_ast.specs.declared.feature.Feature.{Feature}
use Rattle.fsmv_lift.specs.Lift.{variables_of}
use Rattle.fsmv_lift.proofs.LiftingLemmas.{appended_next}
use Rattle.fsmv_lift.proofs.lifting.introduced_variables.Goals as goal

pub loop-feature-preserved : goal.loop-feature-preserved
loop-feature-preserved c =
    let features = c.args.features.now in
    let i = c.loop-feature.feature-index in
    let feature = c.feature-item.result in
    let later = drop (i + 1) features in
    let split : drop i features ≡ feature ∷ later = drop_more features i feature c.loop-feature-test.true ∙ ap (λ (f : Feature). f ∷ later) (sym c.feature-item.is) in
    appended_next (variables_of c.args.names.now) feature (drop i features) later c.loop-feature.vars c.push_variables.new.vars _ split c.in_ok-push_variables.ensures c.loop-feature.invariant
