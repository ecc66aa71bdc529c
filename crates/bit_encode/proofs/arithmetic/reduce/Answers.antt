use Rattle.std.proofs.Common.{◌∙◌, ap}
use Rattle.gate_build.specs.Circuits.{falsity}
use Rattle.bit_encode.specs.Words.{sign_of}
use Rattle.bit_encode.proofs.MadeLemmas.{IsMade-sign}
use Rattle.bit_encode.proofs.arithmetic.reduce.Goals as goal

pub pairwise-requires-clause-made_gate : goal.pairwise-requires-clause-made_gate
pairwise-requires-clause-made_gate c =
    IsMade-sign c.subtract.new.gates c.in_ok-difference.difference.items c.sign_of.result c.in_ok-difference.ensures.made (c.sign_of.ensures ∙ ap (sign_of falsity) c.deref.ensures.value)
