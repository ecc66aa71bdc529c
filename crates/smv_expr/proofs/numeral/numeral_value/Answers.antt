use Rattle.std.proofs.Common.{arith}
use Rattle.smv_expr.proofs.Numerals.{passed_limit}
use Rattle.smv_expr.proofs.numeral.numeral_value.Goals as goal

pub returns-then-value-gt-GREATEST_NUMBER : goal.returns-then-value-gt-GREATEST_NUMBER
returns-then-value-gt-GREATEST_NUMBER c = passed_limit c.args.digits.now c.loop-digit.digit-index c.loop-digit.value c.loop-digit-test.true c.loop-digit.invariant.0 (omega (arith, c.if-value-gt-GREATEST_NUMBER.true, c.from.ensures))
