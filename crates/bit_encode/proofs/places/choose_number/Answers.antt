use Rattle.std.proofs.Common.{rules, ◌≡◌, ◌∙◌, ◌<◌, ◌-◌, List, ℕ, pos, length, get_or, ap, sym, arith, refl, w64}
use Rattle.std.proofs.lemmas.Int.{to_z-of_z}
use Rattle.std.proofs.lemmas.List.{get_or_default}
use Rattle.gate_build.proofs.OrderLemmas.{Extends_same, Extends_through}
use Rattle.bit_encode.specs.Arithmetic.{pairwise_of}
use Rattle.bit_encode.specs.Words.{constant_word}
use Rattle.bit_encode.specs.declared.pairwise.PairGate.TheVariants.{Choose}
use Rattle.bit_encode.proofs.WordLemmas.{length-constant_word}
use Rattle.bit_encode.proofs.MadeLemmas.{AreMade-extended, AreMade-constants}
use Rattle.bit_encode.proofs.PlaceLemmas.{choose-start, choose-next}
use Rattle.bit_encode.proofs.places.choose_number.Goals as goal

pub pairwise-requires-clause-same : goal.pairwise-requires-clause-same
pairwise-requires-clause-same c =
    ap length (c.deref.ensures.value ∙ c.in_ok-number.ensures)
    ∙ length-constant_word c.args.width _
    ∙ sym (ap length c.deref-in-loop-next.ensures.value ∙ c.loop-next.invariant.width)

pub pairwise-requires-clause-made_a : goal.pairwise-requires-clause-made_a
pairwise-requires-clause-made_a c =
    AreMade-constants c.loop-next.gates c.args.tests.now c.deref.result.now c.args.width _
    (AreMade-extended c.args.gates.now c.loop-next.gates c.args.tests.now c.loop-next.invariant.extends c.requires.made_tests)
    (c.deref.ensures.value ∙ c.in_ok-number.ensures)

pub loop-next-init : goal.loop-next-init
loop-next-init c =
    let tests = c.args.tests.now in
    let numbers = c.args.numbers.now in
    let n = length tests in
    let z = get_or numbers n (pos 0) in
    let gates = c.args.gates.now in
    let lt : n < length numbers = omega (arith, c.requires.one_more) in
    let at : z ≡ get_or numbers n z = get_or_default numbers n (pos 0) z lt in
    let is : c.in_ok-word.word.items ≡ constant_word c.args.width z = c.in_ok-word.ensures ∙ ap (constant_word c.args.width) (to_z-of_z w64 z (search rules)) in
    record {
      numbered = choose-start c.args.width n z tests numbers c.in_ok-word.word.items gates refl lt at is;
      within = omega arith;
      width = ap length is ∙ length-constant_word c.args.width z;
      made = AreMade-constants gates tests c.in_ok-word.word.items c.args.width z c.requires.made_tests is;
      extends = Extends_same gates;
    }

pub loop-next-preserved : goal.loop-next-preserved
loop-next-preserved c =
    let tests = c.args.tests.now in
    let numbers = c.args.numbers.now in
    let next = c.loop-next.next in
    let word = c.loop-next.word.items in
    let first = c.in_ok-number.number.items in
    let one = c.loop-next.gates in
    let invariant = c.loop-next.invariant in
    let z = get_or numbers (next - 1) (pos 0) in
    let t = c.index-tests-next.result in
    let lt : next - 1 < length numbers = omega (arith, invariant.within, c.requires.one_more) in
    let at : z ≡ get_or numbers (next - 1) z = get_or_default numbers (next - 1) (pos 0) z lt in
    let is : first ≡ constant_word c.args.width z = c.in_ok-number.ensures ∙ ap (constant_word c.args.width) (to_z-of_z w64 z (search rules)) in
    let more = c.in_ok-word-2.ensures.extends in
    record {
      numbered =
          choose-next c.args.width next t z tests numbers word first c.in_ok-word-2.word.items c.args.gates.now one c.pairwise.new.gates
          (omega arith) invariant.within (omega (arith, c.requires.one_more)) c.index-tests-next.is at invariant.numbered is
          (c.in_ok-word-2.ensures.numbered
          ∙ ap (λ (zs : List ℕ). pairwise_of (Choose t) zs c.deref-in-loop-next.result.now one) c.deref.ensures.value
          ∙ ap (λ (zs : List ℕ). pairwise_of (Choose t) first zs one) c.deref-in-loop-next.ensures.value);
      within = omega arith;
      width = c.in_ok-word-2.ensures.width ∙ ap length c.deref.ensures.value ∙ ap length is ∙ length-constant_word c.args.width z;
      made = c.in_ok-word-2.ensures.made;
      extends = Extends_through _ _ _ invariant.extends more;
    }
