use Rattle.std.proofs.Common.{◌∙◌, ◌+◌, ◌/◌, ◌++◌, List, ℕ, drop, ap, arith}
use Rattle.bit_encode.specs.Places.{at_place}
use Rattle.bit_encode.proofs.PlaceLemmas.{at_place-next, at_place-done}
use Rattle.bit_encode.proofs.places.at_place.Goals as goal

pub loop-bit-preserved : goal.loop-bit-preserved
loop-bit-preserved c =
    ap (λ (zs : List ℕ). zs ++ at_place (c.loop-bit.rest / 2) (drop (c.loop-bit.bit-index + 1) c.args.bits.now)) c.in_ok-push.ensures.items
    ∙ at_place-next c.loop-bit.lits.items c.args.bits.now c.loop-bit.bit-index c.loop-bit.rest c.bit-item.result c.wanted.result (omega arith) c.bit-item.is c.wanted.ensures
    ∙ c.loop-bit.invariant

pub returns : goal.returns
returns c = at_place-done c.loop-bit.lits.items c.args.bits.now (at_place c.args.place c.args.bits.now) c.loop-bit.bit-index c.loop-bit.rest (omega arith) c.loop-bit.invariant
