use Rattle.std.proofs.Common.{◌≡◌, true}
use Rattle.feature_model.proofs.SearchLemmas.{first_decided, conflict_decided}
use Rattle.feature_model.proofs.search.decided_product.Goals as goal

pub returns-then-is_valid : goal.returns-then-is_valid
returns-then-is_valid c = first_decided c.args.model.now c.args.partial c.args.chosen c.requires.chosen c.requires.fits.few c.ranges.chosen.fits c.requires.consistent c.requires.decided (c.is_valid.ensures.0 c.if-is_valid.true)

pub returns-else-is_valid : goal.returns-else-is_valid
returns-else-is_valid c = conflict_decided c.args.model.now c.args.partial c.args.chosen c.requires.chosen c.requires.fits.few c.ranges.chosen.fits c.requires.consistent c.requires.decided
    (λ valid. let yes : c.is_valid.result ≡ true = c.is_valid.ensures.1 valid in cc)
