use Rattle.std.proofs.Common.{inl, inr}
use Rattle.std.specs.Bool.{beq}
use Rattle.feature_model.specs.Constraints.{op_value}
use Rattle.feature_model.proofs.propagation.op_ahead.Goals as goal

pub returns-in-And : goal.returns-in-And
returns-in-And c partial a b h k = rw c.in-And.is (c.and.ensures partial a b h k)

pub returns-in-Or : goal.returns-in-Or
returns-in-Or c partial a b h k = rw c.in-Or.is (c.or.ensures partial a b h k)

pub returns-in-Xor : goal.returns-in-Xor
returns-in-Xor c partial a b h k = rw c.in-Xor.is (c.negated.ensures partial (λ p. beq (a p) (b p)) (c.iff.ensures partial a b h k))

pub returns-in-Xnor : goal.returns-in-Xnor
returns-in-Xnor c partial a b h k = elim c.in-Xnor.is [ inl e ↦ rw e (c.iff-in-Xnor.ensures partial a b h k) | inr e ↦ rw e (c.iff-in-Xnor.ensures partial a b h k) ]

pub returns-in-Implies : goal.returns-in-Implies
returns-in-Implies c partial a b h k = rw c.in-Implies.is (c.implies.ensures partial a b h k)

pub returns-in_default : goal.returns-in_default
returns-in_default c partial a b h k = c.unknown.ensures partial (λ p. op_value c.args.op (a p) (b p))
