use Rattle.std.proofs.Common.{◌≡◌, ◌∙◌}
use Rattle.std.proofs.lemmas.Result.{IfOk-weaker}
use Rattle.bit_encode.specs.Arithmetic.{add_of}
use Rattle.bit_encode.specs.Meaning.{Calculates, difference}
use Rattle.bit_encode.proofs.MadeLemmas.{AreMade-negated}
use Rattle.bit_encode.proofs.RunLemmas.{subtract_of-run}
use Rattle.bit_encode.proofs.MeaningLemmas.{Calculates-subtract_of}
use Rattle.bit_encode.proofs.sums.subtract.Goals as goal

pub add-requires-clause-made_b : goal.add-requires-clause-made_b
add-requires-clause-made_b c = AreMade-negated c.args.gates.now c.args.b.now c.deref.result.now c.requires.made_b (c.deref.ensures.value ∙ c.in_ok-negated.ensures)

pub returns-clause-subtracts : goal.returns-clause-subtracts
returns-clause-subtracts c =
    IfOk-weaker c.add.result (λ word. (word.items, c.add.new.gates) ≡ add_of c.args.a.now c.deref.result.now c.constant.result c.args.gates.now) (λ word. Calculates c.add.new.gates difference c.args.a.now c.args.b.now word.items)
    (λ word ran. Calculates-subtract_of c.args.a.now c.args.b.now word.items c.args.gates.now c.add.new.gates c.requires.same
    (ran ∙ subtract_of-run c.args.a.now c.args.b.now c.deref.result.now c.constant.result c.args.gates.now (c.deref.ensures.value ∙ c.in_ok-negated.ensures) c.constant.ensures.value))
    c.add.ensures.numbered
