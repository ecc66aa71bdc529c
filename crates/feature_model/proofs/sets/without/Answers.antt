use Rattle.std.proofs.Common.{eqb, ap, w64, inl, inr, sym, ◌∙◌}
use Rattle.std.proofs.lemmas.Bool.{cases_lt}
use Rattle.feature_model.proofs.SetLemmas.{has_within, has_beyond}
use Rattle.std.proofs.lemmas.Nat.Bits.{bit_at_clear_same, bit_at_clear_other}
use Rattle.feature_model.proofs.sets.without.Goals as goal

pub returns-clause-gone : goal.returns-clause-gone
returns-clause-gone c = ap (λ x. eqb x 1) (bit_at_clear_same w64 c.args.features c.args.f c.requires)

pub returns-clause-others : goal.returns-clause-others
returns-clause-others c g other = elim (cases_lt g 64) [ inl small ↦ ap (λ x. eqb x 1) (bit_at_clear_other w64 c.args.features c.args.f c.requires g small other) | inr beyond ↦ has_within c.args.features _ g c.ranges.features.fits beyond ∙ sym (has_beyond c.args.features g c.ranges.features.fits beyond) ]
