use Rattle.feature_model.specs.Constraints.{path_value}
use Rattle.feature_model.proofs.propagation.path_ahead.Goals as goal

pub returns-in-None : goal.returns-in-None
returns-in-None c = c.unknown.ensures c.args.partial (λ p. path_value c.args.names.now p c.args.path.now)

pub returns-in_default : goal.returns-in_default
returns-in_default c = c.unknown-in_default.ensures c.args.partial (λ p. path_value c.args.names.now p c.args.path.now)
