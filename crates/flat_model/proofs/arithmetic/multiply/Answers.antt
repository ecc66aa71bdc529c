use Rattle.std.proofs.Common.{◌≤◌, ℤ, pos, arith}
use Rattle.std.specs.Prelude.{negsuc, unsigned_abs, FitsSigned, ◌*ℤ◌}
use Rattle.std.proofs.lemmas.Int.{ints, fits_signed_mul, to_z-of_z}
use Rattle.std.specs.Int.{w64}
use Rattle.flat_model.specs.Numbers.{IsWithinLimit}
use Rattle.flat_model.proofs.arithmetic.multiply.Goals as goal

abs_limited : (z : ℤ) → IsWithinLimit z → unsigned_abs z ≤ 2147483647
abs_limited (pos n) h = omega (arith, ints, h.1)
abs_limited (negsuc n) h = omega (arith, ints, h.0)

product_fits : (a b : ℤ) → IsWithinLimit a → IsWithinLimit b → FitsSigned w64 (a *ℤ b)
product_fits a b h k = fits_signed_mul w64 a b 2147483647 2147483647 (abs_limited a h) (abs_limited b k) (omega arith)

pub overflow_mul-result : goal.overflow_mul-result
overflow_mul-result c =
    rw (to_z-of_z w64 c.args.a c.ranges.a, to_z-of_z w64 c.args.b c.ranges.b) (product_fits c.args.a c.args.b c.requires.left c.requires.right)

pub returns : goal.returns
returns c =
    rw (to_z-of_z w64 c.args.a c.ranges.a, to_z-of_z w64 c.args.b c.ranges.b) (to_z-of_z w64 (c.args.a *ℤ c.args.b) (product_fits c.args.a c.args.b c.requires.left c.requires.right))
