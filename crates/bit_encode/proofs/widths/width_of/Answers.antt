use Rattle.std.proofs.Common.{rules, ◌+◌, ◌∙◌, ap, arith, w64}
use Rattle.std.proofs.lemmas.Int.{to_z-of_z}
use Rattle.bit_encode.specs.Widths.{signed_digits}
use Rattle.bit_encode.proofs.WidthLemmas.{HasBitsFor-from}
use Rattle.bit_encode.proofs.widths.width_of.Goals as goal

pub returns-clause-fits : goal.returns-clause-fits
returns-clause-fits c =
    HasBitsFor-from c.args.interval (1 + c.greater.result) c.signed_digits.result c.signed_digits-2.result (search rules) (search rules)
    (c.signed_digits.ensures.digits ∙ ap signed_digits (to_z-of_z w64 c.args.interval.low (search rules)))
    (c.signed_digits-2.ensures.digits ∙ ap signed_digits (to_z-of_z w64 c.args.interval.high (search rules)))
    (omega (arith, c.greater.ensures))
