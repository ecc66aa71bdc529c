use Rattle.std.proofs.Common.{◌≡◌, ◌++◌, drop}
use Rattle.bit_encode.specs.Places.{at_place}
use Rattle.bit_encode.proofs.places.at_place.Given as goal

abbrev pub invariant-loop-bit : goal.invariant-loop-bit
invariant-loop-bit l = l.lits.items ++ at_place l.rest (drop l.bit-index l.bits) ≡ at_place l.initial.rest l.bits
