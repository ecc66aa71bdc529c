use Rattle.std.proofs.Common.{◌≡◌, true, not, ◌||◌}
use Rattle.feature_model.specs.Products.{has, Has}
use Rattle.feature_model.proofs.FindingLemmas.{of_stronger, implied}
use Rattle.feature_model.proofs.propagation.implication.Goals as goal

pub returns : goal.returns
returns c = of_stronger c.args.partial (λ p. (not (has p.bits c.args.one) || has p.bits c.args.other) ≡ true) (λ p. Has p c.args.one → Has p c.args.other) c.of_rule.result
    (λ p keeps. implied (has p.bits c.args.one) (has p.bits c.args.other) keeps)
    (c.of_rule.ensures (λ p. not (has p.bits c.args.one) || has p.bits c.args.other) (c.implies-rule.ensures c.args.partial (λ p. has p.bits c.args.one) (λ p. has p.bits c.args.other) c.of_feature.ensures c.of_feature-2.ensures))
