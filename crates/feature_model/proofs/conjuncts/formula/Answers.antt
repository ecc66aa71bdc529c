use Rattle.feature_model.proofs.FormulaLemmas.{made_valid}
use Rattle.feature_model.proofs.conjuncts.formula.Goals as goal

pub returns-clause-valid : goal.returns-clause-valid
returns-clause-valid c = made_valid c.args.model.now c.conjunction.result c.requires c.conjunction.ensures
