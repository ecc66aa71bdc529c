use Rattle.std.proofs.Common.{◌∙◌, arith}
use Rattle.gate_build.proofs.OrderLemmas.{Extends_through, IsMade-extended}
use Rattle.bit_encode.proofs.MadeLemmas.{AreMade-push, AreMade-extended}
use Rattle.bit_encode.proofs.RunLemmas.{length-push, add-next, add-done}
use Rattle.bit_encode.proofs.MeaningLemmas.{AddsUp-from}
use Rattle.bit_encode.proofs.sums.add.Goals as goal

pub loop-i-preserved : goal.loop-i-preserved
loop-i-preserved c =
    let t = c.in_ok-t.ensures.extends in
    let sum = c.in_ok-sum.ensures.extends in
    let next = c.in_ok-c.ensures.extends in
    record {
      numbered = rw c.in_ok-push.ensures.items
          (add-next c.loop-i.word.items c.args.a.now c.args.b.now c.loop-i.i c.loop-i.c c.index-a-i.result c.index-b-i.result c.in_ok-t.t c.in_ok-sum.sum c.in_ok-c.c c.loop-i.gates c.xor.new.self c.xor-in-loop-i.new.self c.carry.new.gates
          (omega arith) (omega arith) c.index-a-i.is c.index-b-i.is c.in_ok-t.ensures.numbered c.in_ok-sum.ensures.numbered c.in_ok-c.ensures.numbered
          ∙ c.loop-i.invariant.numbered);
      width = length-push c.loop-i.word.items c.push.new.self.items c.in_ok-sum.sum c.loop-i.i c.in_ok-push.ensures.items c.loop-i.invariant.width;
      made = rw c.in_ok-push.ensures.items
          (AreMade-push c.carry.new.gates c.loop-i.word.items c.in_ok-sum.sum
          (AreMade-extended c.loop-i.gates c.carry.new.gates c.loop-i.word.items (Extends_through _ _ _ (Extends_through _ _ _ t sum) next) c.loop-i.invariant.made)
          (IsMade-extended _ _ _ next c.in_ok-sum.ensures.made));
      made_carry = c.in_ok-c.ensures.made;
      extends = Extends_through _ _ _ c.loop-i.invariant.extends (Extends_through _ _ _ (Extends_through _ _ _ t sum) next);
    }

pub returns-clause-numbered : goal.returns-clause-numbered
returns-clause-numbered c = add-done c.loop-i.word.items c.args.a.now c.args.b.now c.loop-i.i c.loop-i.c c.loop-i.gates _ (omega arith) c.loop-i.invariant.numbered

pub returns-clause-adds : goal.returns-clause-adds
returns-clause-adds c = AddsUp-from c.args.a.now c.args.b.now c.loop-i.word.items c.args.carry_in c.args.gates.now c.loop-i.gates c.requires.same (returns-clause-numbered c)
