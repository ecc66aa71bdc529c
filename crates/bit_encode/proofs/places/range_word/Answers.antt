use Rattle.std.proofs.Common.{◌∙◌, length, ap, sym, false}
use Rattle.gate_build.specs.Circuits.{falsity}
use Rattle.bit_encode.specs.Places.{place_word}
use Rattle.bit_encode.specs.Words.{resized}
use Rattle.bit_encode.proofs.WordLemmas.{length-constant_word}
use Rattle.bit_encode.proofs.TruthLemmas.{length-resized}
use Rattle.bit_encode.proofs.MadeLemmas.{AreMade-push, AreMade-resized, AreMade-constants, IsMade-constant_of}
use Rattle.bit_encode.proofs.places.range_word.Goals as goal

pub add-requires-clause-same : goal.add-requires-clause-same
add-requires-clause-same c =
    ap length (c.deref-2.ensures.value ∙ c.in_ok-place-2.ensures)
    ∙ length-resized c.args.width _
    ∙ sym (ap length (c.deref-3.ensures.value ∙ c.in_ok-low.ensures) ∙ length-constant_word c.args.width _)

pub add-requires-clause-made_a : goal.add-requires-clause-made_a
add-requires-clause-made_a c =
    AreMade-resized c.args.gates.now (place_word c.args.bits.now) c.deref-2.result.now c.args.width
    (AreMade-push c.args.gates.now c.args.bits.now falsity c.requires.made_bits (IsMade-constant_of c.args.gates.now c.args.bits.now false c.requires.made_bits))
    (c.deref-2.ensures.value ∙ c.in_ok-place-2.ensures ∙ ap (resized c.args.width) (c.deref.ensures.value ∙ c.in_ok-place.ensures))

pub add-requires-clause-made_b : goal.add-requires-clause-made_b
add-requires-clause-made_b c = AreMade-constants c.args.gates.now c.args.bits.now c.deref-3.result.now c.args.width _ c.requires.made_bits (c.deref-3.ensures.value ∙ c.in_ok-low.ensures)
