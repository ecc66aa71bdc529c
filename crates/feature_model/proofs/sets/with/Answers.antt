use Rattle.std.proofs.Common.{eqb, ap, w64}
use Rattle.std.proofs.lemmas.Nat.Bits.{bit_at_set_same, bit_at_set_other}
use Rattle.feature_model.proofs.SetLemmas.{greater_with}
use Rattle.feature_model.proofs.sets.with.Goals as goal

pub returns-clause-there : goal.returns-clause-there
returns-clause-there c = ap (λ x. eqb x 1) (bit_at_set_same w64 c.args.features c.args.f c.requires)

pub returns-clause-others : goal.returns-clause-others
returns-clause-others c g other = ap (λ x. eqb x 1) (bit_at_set_other w64 c.args.features c.args.f c.requires g other)

pub returns-clause-more : goal.returns-clause-more
returns-clause-more c absent = greater_with c.args.features c.args.f c.requires absent
