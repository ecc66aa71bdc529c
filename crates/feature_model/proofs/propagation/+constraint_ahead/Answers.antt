use Rattle.std.proofs.Common.{true, false, not, sym}
use Rattle.feature_model.specs.Constraints.{op_value, value}
use Rattle.feature_model.proofs.ConstraintLemmas.{value_true, value_false, value_not, value_binary}
use Rattle.feature_model.proofs.LookaheadLemmas.{same_rule}
use Rattle.feature_model.proofs.propagation.+constraint_ahead.Goals as goal

pub returns-in-True : goal.returns-in-True
returns-in-True t c = rw c.in-True.is (same_rule c.args.partial (λ p. true) _ _ (λ p. sym (value_true c.args.names.now p)) (c.constant.ensures c.args.partial))

pub returns-in-Not : goal.returns-in-Not
returns-in-Not t c = let names = c.args.names.now in let a = c.in-Not.a in
    rw c.in-Not.is (same_rule c.args.partial (λ p. not (value names p a)) _ _ (λ p. sym (value_not names p a)) (c.negated.ensures c.args.partial (λ p. value names p a) (rw c.get.ensures at c.constraint_ahead.ensures)))

pub returns-in-Binary : goal.returns-in-Binary
returns-in-Binary t c = let names = c.args.names.now in let a = c.in-Binary.a in let b = c.in-Binary.b in
    rw c.in-Binary.is (same_rule c.args.partial (λ p. op_value c.in-Binary.op (value names p a) (value names p b)) _ _ (λ p. sym (value_binary names p c.in-Binary.op a b))
    (c.op_ahead.ensures c.args.partial (λ p. value names p a) (λ p. value names p b)
    (rw c.get-in-Binary.ensures at c.constraint_ahead-in-Binary.ensures) (rw c.get-in-Binary-2.ensures at c.constraint_ahead-in-Binary-2.ensures)))

pub returns-in-False : goal.returns-in-False
returns-in-False t c = rw c.in-False.is (same_rule c.args.partial (λ p. false) _ _ (λ p. sym (value_false c.args.names.now p)) (c.constant-in-False.ensures c.args.partial))

pub returns-in_default : goal.returns-in_default
returns-in_default t c = c.unknown.ensures c.args.partial (λ p. value c.args.names.now p c.args.e.now)
