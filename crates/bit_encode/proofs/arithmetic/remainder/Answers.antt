use Rattle.std.proofs.Common.{rules, ◌≡◌, ◌∙◌, List, ℕ, length, pos, ap, arith}
use Rattle.gate_build.proofs.OrderLemmas.{Extends_same, Extends_through}
use Rattle.bit_encode.specs.Arithmetic.{reduce_of}
use Rattle.bit_encode.specs.Words.{shifted}
use Rattle.bit_encode.proofs.MadeLemmas.{AreMade-extended, AreMade-constants, AreMade-resized}
use Rattle.bit_encode.proofs.WordLemmas.{length-shifted, length-constant_word}
use Rattle.bit_encode.proofs.RunLemmas.{division-start, division-next, division-done}
use Rattle.bit_encode.proofs.MeaningLemmas.{LeavesRemainder-from}
use Rattle.bit_encode.proofs.arithmetic.remainder.Goals as goal

pub loop-next-init : goal.loop-next-init
loop-next-init c =
    let gates = c.args.gates.now in
    let divisor = c.in_ok-divisor.divisor.items in
    let width : c.len.result ≡ length divisor = search rules in
    record {
      numbered = division-start c.args.a.now divisor c.in_ok-remainder.remainder.items c.len.result gates c.in_ok-remainder.ensures width;
      within = omega arith;
      width = ap length c.in_ok-remainder.ensures ∙ length-constant_word c.len.result (pos 0) ∙ width;
      made = AreMade-constants gates c.args.b.now c.in_ok-remainder.remainder.items c.len.result (pos 0) c.requires.made_b c.in_ok-remainder.ensures;
      made_divisor = AreMade-resized gates c.args.b.now divisor _ c.requires.made_b c.in_ok-divisor.ensures;
      extends = Extends_same gates;
    }

pub loop-next-preserved : goal.loop-next-preserved
loop-next-preserved c =
    let divisor = c.in_ok-divisor.divisor.items in
    let before = c.loop-next.remainder.items in
    let bit = c.index-a-next.result in
    let one = c.loop-next.gates in
    let two = c.reduce.new.gates in
    let invariant = c.loop-next.invariant in
    let more = c.in_ok-remainder-2.ensures.extends in
    let doubled : c.in_ok-doubled.doubled.items ≡ shifted bit before = c.in_ok-doubled.ensures ∙ ap (shifted bit) c.deref.ensures.value in
    record {
      numbered =
          division-next c.args.a.now divisor before c.in_ok-doubled.doubled.items c.in_ok-remainder-2.remainder.items c.loop-next.next bit c.args.gates.now one two
          (omega arith) invariant.within c.index-a-next.is invariant.numbered doubled
          (c.in_ok-remainder-2.ensures.numbered
          ∙ ap (λ (zs : List ℕ). reduce_of zs c.deref-in-loop-next-2.result.now one) c.deref-in-loop-next.ensures.value
          ∙ ap (λ (zs : List ℕ). reduce_of c.in_ok-doubled.doubled.items zs one) c.deref-in-loop-next-2.ensures.value);
      within = omega arith;
      width = c.in_ok-remainder-2.ensures.width ∙ ap length c.deref-in-loop-next.ensures.value ∙ ap length doubled ∙ length-shifted bit before ∙ invariant.width;
      made = c.in_ok-remainder-2.ensures.made;
      made_divisor = AreMade-extended one two divisor more invariant.made_divisor;
      extends = Extends_through _ _ _ invariant.extends more;
    }

pub returns-clause-numbered : goal.returns-clause-numbered
returns-clause-numbered c =
    division-done c.args.a.now c.args.b.now c.in_ok-divisor.divisor.items _ c.greater.result c.loop-next.next c.args.gates.now (c.loop-next.remainder.items, c.loop-next.gates)
    (omega arith) (omega arith) c.greater.ensures c.in_ok-divisor.ensures c.loop-next.invariant.numbered

pub returns-clause-leaves : goal.returns-clause-leaves
returns-clause-leaves c = LeavesRemainder-from c.args.a.now c.args.b.now c.loop-next.remainder.items c.args.gates.now c.loop-next.gates (returns-clause-numbered c)
