use Rattle.std.proofs.Common.{◌≡◌, drop}
use Rattle.integrate.specs.ProductText as spec
use Rattle.integrate.proofs.product.apply_features.Given as goal

abbrev pub invariant-loop-feature : goal.invariant-loop-feature
invariant-loop-feature l = spec.all_applied l.introductions.base.now l.introductions.features.now l.product (spec.chosen l.names l.product (drop l.feature-index l.features)) l.program ≡ spec.all_applied l.introductions.base.now l.introductions.features.now l.product (spec.chosen l.names l.product l.features) l.fn.program
