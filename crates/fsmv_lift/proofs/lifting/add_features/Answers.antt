use Rattle.std.proofs.Common.{◌≡◌, ◌∷◌, ◌+◌, drop, sym, ap, ◌∙◌}
use Rattle.std.proofs.lemmas.List.{drop_more}
use Rattle.smv_ast.specs.declared.feature.Feature.{Feature}
use Rattle.fsmv_lift.proofs.LiftingLemmas.{features_next, specs_next}
use Rattle.fsmv_lift.proofs.lifting.add_features.Goals as goal

pub loop-feature-preserved : goal.loop-feature-preserved
loop-feature-preserved c =
    let features = c.args.features.now in
    let i = c.loop-feature.feature-index in
    let feature = c.feature-item.result in
    let later = drop (i + 1) features in
    let split : drop i features ≡ feature ∷ later = drop_more features i feature c.loop-feature-test.true ∙ ap (λ (f : Feature). f ∷ later) (sym c.feature-item.is) in
    let added = c.in-Ok.ensures.program in
    record {
      program = features_next c.loop-feature.program c.in-Ok.next feature (drop i features) later _ split added c.loop-feature.invariant.program;
      specs = specs_next c.args.names.now c.loop-feature.program c.in-Ok.next feature (drop i features) later c.loop-feature.specs c.add_feature.new.specs _ split added c.in-Ok.ensures.specs c.loop-feature.invariant.specs;
    }
