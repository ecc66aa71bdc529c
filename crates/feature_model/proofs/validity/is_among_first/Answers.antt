use Rattle.std.proofs.Common.{◌^◌, arith, pow_pos, pow_mono, eq-eqb}
use Rattle.std.proofs.Math.Nat.{div-lt_iff_lt-mul, div-eq_of_lt}
use Rattle.std.proofs.lemmas.Bool.Decides.{nat_tests}
use Rattle.feature_model.proofs.validity.is_among_first.Goals as goal

pub returns-then-count-ge64 : goal.returns-then-count-ge64
returns-then-count-ge64 c = (λ _. omega (arith, pow_mono {i = 64} {j = c.args.count} c.if-count-ge64.true), λ _. grind (arith, nat_tests))

pub returns-else-count-ge64 : goal.returns-else-count-ge64
returns-else-count-ge64 c = (λ h. grind (arith, nat_tests, (div-lt_iff_lt-mul {k = 2 ^ c.args.count} {x = c.args.features} {y = 1} (pow_pos c.args.count)).0), λ h. eq-eqb _ _ (div-eq_of_lt h))
