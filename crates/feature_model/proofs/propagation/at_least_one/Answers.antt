use Rattle.std.proofs.Common.{◌≡◌, true, not, ◌||◌}
use Rattle.std.specs.List.{list_any}
use Rattle.std.proofs.lemmas.List.Folds.{list_any-from_Any}
use Rattle.feature_model.specs.Products.{has}
use Rattle.feature_model.specs.Validity.{AtLeastOne}
use Rattle.feature_model.proofs.FindingLemmas.{of_stronger, implied}
use Rattle.feature_model.proofs.propagation.at_least_one.Goals as goal

pub returns : goal.returns
returns c = let parent = c.args.parent in let children = c.args.children.now in
    of_stronger c.args.partial (λ p. (not (has p.bits parent) || list_any (has p.bits) children) ≡ true) (λ p. AtLeastOne p parent children) c.of_rule.result
    (λ p keeps. implied (has p.bits parent) (list_any (has p.bits) children) (λ there. list_any-from_Any (has p.bits) children (keeps there)))
    (c.of_rule.ensures (λ p. not (has p.bits parent) || list_any (has p.bits) children) (c.implies-rule.ensures c.args.partial (λ p. has p.bits parent) (λ p. list_any (has p.bits) children) c.of_feature.ensures c.any_ahead.ensures))
