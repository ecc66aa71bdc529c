use Rattle.std.proofs.Common.{◌≡◌, ◌≤◌, take}
use Rattle.smv_expr.specs.Lexicon as spec
use Rattle.smv_expr.proofs.numeral.numeral_value.Given as goal

abbrev pub invariant-loop-digit : goal.invariant-loop-digit
invariant-loop-digit l = (l.value ≡ spec.numeral_value (take l.digit-index l.digits)) × (l.value ≤ spec.greatest_number)
