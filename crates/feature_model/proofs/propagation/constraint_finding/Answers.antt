use Rattle.feature_model.specs.Constraints.{value}
use Rattle.feature_model.proofs.propagation.constraint_finding.Goals as goal

pub returns : goal.returns
returns c = c.of_rule.ensures (λ p. value c.args.names.now p c.args.e.now) c.constraint_ahead.ensures
