use Rattle.feature_model.proofs.SetLemmas.{has_either}
use Rattle.feature_model.proofs.partial_product.PartialProduct.decided.Goals as goal

pub returns : goal.returns
returns c f = has_either c.args.self.chosen c.args.self.left_out f
