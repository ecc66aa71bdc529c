use Rattle.std.proofs.Common.{◌≡◌, ◌∙◌, List, ℕ, ap}
use Rattle.std.proofs.lemmas.Result.{IfOk-weaker}
use Rattle.std.specs.Ordering.{int_eq}
use Rattle.gate_build.specs.Numbering.{all_of}
use Rattle.bit_encode.specs.Arithmetic.{pairwise_of}
use Rattle.bit_encode.specs.Meaning.{Tests}
use Rattle.bit_encode.specs.declared.pairwise.PairGate.TheVariants.{Same}
use Rattle.bit_encode.proofs.MadeLemmas.{AreMade-resized}
use Rattle.bit_encode.proofs.RunLemmas.{equal_of-run}
use Rattle.bit_encode.proofs.MeaningLemmas.{Tests-equal_of}
use Rattle.bit_encode.proofs.comparison.equal.Goals as goal

pub pairwise-requires-clause-made_a : goal.pairwise-requires-clause-made_a
pairwise-requires-clause-made_a c = AreMade-resized c.args.gates.now c.args.a.now c.deref.result.now _ c.requires.made_a (c.deref.ensures.value ∙ c.in_ok-a.ensures)

pub pairwise-requires-clause-made_b : goal.pairwise-requires-clause-made_b
pairwise-requires-clause-made_b c = AreMade-resized c.args.gates.now c.args.b.now c.deref-2.result.now _ c.requires.made_b (c.deref-2.ensures.value ∙ c.in_ok-b.ensures)

pub returns-clause-tests : goal.returns-clause-tests
returns-clause-tests c =
    let same = c.in_ok-same.same.items in
    let one = c.pairwise.new.gates in
    IfOk-weaker c.all.result (λ l. (l, c.all.new.self) ≡ all_of c.deref-3.result.now one) (λ l. Tests c.all.new.self int_eq c.args.a.now c.args.b.now l)
    (λ l ran. Tests-equal_of c.args.a.now c.args.b.now l c.args.gates.now c.all.new.self
    (ran
    ∙ ap (λ (zs : List ℕ). all_of zs one) c.deref-3.ensures.value
    ∙ equal_of-run c.args.a.now c.args.b.now c.in_ok-a.a.items c.in_ok-b.b.items same c.greater-width.result c.args.gates.now one c.greater-width.ensures c.in_ok-a.ensures c.in_ok-b.ensures
    (c.in_ok-same.ensures.numbered
    ∙ ap (λ (zs : List ℕ). pairwise_of Same zs c.deref-2.result.now c.args.gates.now) c.deref.ensures.value
    ∙ ap (λ (zs : List ℕ). pairwise_of Same c.in_ok-a.a.items zs c.args.gates.now) c.deref-2.ensures.value)))
    c.all.ensures.numbered
