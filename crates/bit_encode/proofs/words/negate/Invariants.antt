use Rattle.std.proofs.Common.{◌≡◌, take, map}
use Rattle.sat_lits.specs.Literals.{negation}
use Rattle.bit_encode.proofs.words.negate.Given as goal

abbrev pub invariant-loop-lit : goal.invariant-loop-lit
invariant-loop-lit l = l.negated.items ≡ map negation (take l.lit-index l.word)
