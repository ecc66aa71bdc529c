use Rattle.std.proofs.Common.{◌≡◌, ◌∙◌, List, ℕ, length, replicate, pos, ap, sym, subst, arith}
use Rattle.gate_build.proofs.OrderLemmas.{Extends_same, Extends_through}
use Rattle.bit_encode.specs.Arithmetic.{pairwise_of, add_of, products_of, multiply_of}
use Rattle.bit_encode.specs.Made.{AreMade}
use Rattle.bit_encode.specs.Words.{shifted, constant_word}
use Rattle.bit_encode.specs.declared.pairwise.PairGate.TheVariants.{And}
use Rattle.bit_encode.proofs.MadeLemmas.{AreMade-extended, AreMade-constants, AreMade-shifted}
use Rattle.bit_encode.proofs.WordLemmas.{length-shifted, length-constant_word}
use Rattle.bit_encode.proofs.RunLemmas.{products-next, products-done}
use Rattle.bit_encode.proofs.MeaningLemmas.{Calculates-multiply_of}
use Rattle.bit_encode.proofs.arithmetic.multiply.Goals as goal

pub loop-bit-init : goal.loop-bit-init
unfolding multiply_of
loop-bit-init c =
    let a = c.args.a.now in
    let b = c.args.b.now in
    let gates = c.args.gates.now in
    record {
      numbered =
          ap (λ (zs : List ℕ). products_of zs c.in_ok-shifted.shifted.items a gates) c.in_ok-sum.ensures
          ∙ ap (λ (zs : List ℕ). products_of (constant_word (length b) (pos 0)) zs a gates) c.in_ok-shifted.ensures.items;
      sum_width = ap length c.in_ok-sum.ensures ∙ length-constant_word (length b) (pos 0);
      width = ap length c.in_ok-shifted.ensures.items;
      made_sum = AreMade-constants gates b c.in_ok-sum.sum.items (length b) (pos 0) c.requires.made_b c.in_ok-sum.ensures;
      made_shifted = subst (λ (zs : List ℕ). AreMade gates zs) (sym c.in_ok-shifted.ensures.items) c.requires.made_b;
      extends = Extends_same gates;
    }

pub loop-bit-preserved : goal.loop-bit-preserved
loop-bit-preserved c =
    let sum = c.loop-bit.sum.items in
    let ys = c.loop-bit.shifted.items in
    let row = c.in_ok-row.row.items in
    let bit = c.bit-item.result in
    let old = c.loop-bit.gates in
    let one = c.row.new.gates in
    let two = c.add.new.gates in
    let low = c.constant-in-loop-bit.result in
    let invariant = c.loop-bit.invariant in
    let extends = Extends_through _ _ _ c.in_ok-row.ensures.extends c.in_ok-sum-2.ensures.extends in
    let doubled : c.in_ok-shifted-2.shifted.items ≡ shifted low ys = c.in_ok-shifted-2.ensures ∙ ap (shifted low) c.deref-in-loop-bit-3.ensures.value in
    record {
      numbered =
          products-next sum ys c.args.a.now row c.in_ok-sum-2.sum.items c.in_ok-shifted-2.shifted.items c.loop-bit.bit-index bit old one two (multiply_of c.args.a.now c.args.b.now c.args.gates.now)
          (omega arith) c.bit-item.is
          (c.in_ok-row.ensures.numbered ∙ ap (λ (zs : List ℕ). pairwise_of And (replicate (length zs) bit) zs old) c.deref.ensures.value)
          (c.in_ok-sum-2.ensures.numbered
          ∙ ap (λ (zs : List ℕ). add_of zs c.deref-in-loop-bit-2.result.now c.constant.result one) c.deref-in-loop-bit.ensures.value
          ∙ ap (λ (zs : List ℕ). add_of sum zs c.constant.result one) c.deref-in-loop-bit-2.ensures.value
          ∙ ap (λ (l : ℕ). add_of sum row l one) c.constant.ensures.value)
          (doubled ∙ ap (λ (l : ℕ). shifted l ys) c.constant-in-loop-bit.ensures.value)
          invariant.numbered;
      sum_width = c.in_ok-sum-2.ensures.width ∙ ap length c.deref-in-loop-bit.ensures.value ∙ invariant.sum_width;
      width = ap length doubled ∙ length-shifted low ys ∙ invariant.width;
      made_sum = c.in_ok-sum-2.ensures.made;
      made_shifted = AreMade-shifted two low ys c.in_ok-shifted-2.shifted.items c.constant-in-loop-bit.ensures.made (AreMade-extended old two ys extends invariant.made_shifted) doubled;
      extends = Extends_through _ _ _ invariant.extends extends;
    }

pub returns-clause-numbered : goal.returns-clause-numbered
returns-clause-numbered c = products-done c.loop-bit.sum.items c.loop-bit.shifted.items c.args.a.now c.loop-bit.bit-index c.loop-bit.gates _ (omega arith) c.loop-bit.invariant.numbered

pub returns-clause-multiplies : goal.returns-clause-multiplies
returns-clause-multiplies c = Calculates-multiply_of c.args.a.now c.args.b.now c.loop-bit.sum.items c.args.gates.now c.loop-bit.gates c.requires.same (returns-clause-numbered c)
