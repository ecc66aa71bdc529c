use Rattle.std.proofs.Common.{◌≡◌, ◌++◌, drop}
use Rattle.feature_model.specs.NamedProducts.{names_from, product_names}
use Rattle.feature_model.proofs.named.product_names.Given as goal

abbrev pub invariant-loop-feature : goal.invariant-loop-feature
invariant-loop-feature l = l.found ++ names_from l.feature (drop l.feature l.names) l.product ≡ product_names l.names l.product
