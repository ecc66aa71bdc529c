use Rattle.std.proofs.Common.{◌∙◌, List, ℕ, ap, arith}
use Rattle.gate_build.specs.Circuits.{falsity}
use Rattle.bit_encode.specs.Arithmetic.{subtract_of}
use Rattle.bit_encode.specs.Words.{sign_of}
use Rattle.bit_encode.proofs.MadeLemmas.{AreMade-resized, IsMade-sign}
use Rattle.bit_encode.proofs.RunLemmas.{less_of-run}
use Rattle.bit_encode.proofs.MeaningLemmas.{Tests-less_of}
use Rattle.bit_encode.proofs.comparison.less.Goals as goal

pub subtract-requires-clause-made_a : goal.subtract-requires-clause-made_a
subtract-requires-clause-made_a c = AreMade-resized c.args.gates.now c.args.a.now c.deref.result.now _ c.requires.made_a (c.deref.ensures.value ∙ c.in_ok-a.ensures)

pub subtract-requires-clause-made_b : goal.subtract-requires-clause-made_b
subtract-requires-clause-made_b c = AreMade-resized c.args.gates.now c.args.b.now c.deref-2.result.now _ c.requires.made_b (c.deref-2.ensures.value ∙ c.in_ok-b.ensures)

pub returns-clause-made : goal.returns-clause-made
returns-clause-made c =
    IsMade-sign c.subtract.new.gates c.in_ok-difference.difference.items c.sign_of.result c.in_ok-difference.ensures.made (c.sign_of.ensures ∙ ap (sign_of falsity) c.deref-3.ensures.value)

pub returns-clause-tests : goal.returns-clause-tests
returns-clause-tests c =
    Tests-less_of c.args.a.now c.args.b.now c.sign_of.result c.args.gates.now c.subtract.new.gates
    (less_of-run c.args.a.now c.args.b.now c.in_ok-a.a.items c.in_ok-b.b.items c.in_ok-difference.difference.items _ c.greater-width.result c.sign_of.result c.args.gates.now c.subtract.new.gates
    (omega arith) c.greater-width.ensures c.in_ok-a.ensures c.in_ok-b.ensures
    (c.in_ok-difference.ensures.numbered
    ∙ ap (λ (zs : List ℕ). subtract_of zs c.deref-2.result.now c.args.gates.now) c.deref.ensures.value
    ∙ ap (λ (zs : List ℕ). subtract_of c.in_ok-a.a.items zs c.args.gates.now) c.deref-2.ensures.value)
    (c.sign_of.ensures ∙ ap (sign_of falsity) c.deref-3.ensures.value))
