use Rattle.std.proofs.Common.{◌≡◌, drop}
use Rattle.feature_model.specs.Products.{has}
use Rattle.feature_model.specs.NamedProducts.{names_at, chosen_by, no_feature}
use Rattle.feature_model.proofs.named.named_product.Given as goal

abbrev pub invariant-loop-name : goal.invariant-loop-name
invariant-loop-name l = chosen_by l.names (names_at (drop l.name-index l.listed)) (has l.bits) ≡ chosen_by l.names (names_at l.listed) no_feature
