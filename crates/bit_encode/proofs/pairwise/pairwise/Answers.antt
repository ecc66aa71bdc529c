use Rattle.std.proofs.Common.{◌∙◌, arith}
use Rattle.gate_build.proofs.OrderLemmas.{Extends_through}
use Rattle.bit_encode.proofs.MadeLemmas.{AreMade-push, AreMade-extended, IsMadeGate-extended}
use Rattle.bit_encode.proofs.RunLemmas.{length-push, pairwise-next, pairwise-done}
use Rattle.bit_encode.proofs.pairwise.pairwise.Goals as goal

pub loop-i-preserved : goal.loop-i-preserved
loop-i-preserved c =
    let more = c.in_ok-lit.ensures.extends in
    record {
      numbered = rw c.in_ok-push.ensures.items
          (pairwise-next c.args.gate.now c.loop-i.word.items c.args.a.now c.args.b.now c.loop-i.i c.index-a-i.result c.index-b-i.result c.in_ok-lit.lit c.loop-i.gates c.pair.new.gates
          (omega arith) (omega arith) c.index-a-i.is c.index-b-i.is c.in_ok-lit.ensures.numbered
          ∙ c.loop-i.invariant.numbered);
      width = length-push c.loop-i.word.items c.push.new.self.items c.in_ok-lit.lit c.loop-i.i c.in_ok-push.ensures.items c.loop-i.invariant.width;
      made = rw c.in_ok-push.ensures.items
          (AreMade-push c.pair.new.gates c.loop-i.word.items c.in_ok-lit.lit
          (AreMade-extended c.loop-i.gates c.pair.new.gates c.loop-i.word.items more c.loop-i.invariant.made)
          c.in_ok-lit.ensures.made);
      made_gate = IsMadeGate-extended c.loop-i.gates c.pair.new.gates c.args.gate.now more c.loop-i.invariant.made_gate;
      extends = Extends_through _ _ _ c.loop-i.invariant.extends more;
    }

pub returns-clause-numbered : goal.returns-clause-numbered
returns-clause-numbered c = pairwise-done c.args.gate.now c.loop-i.word.items c.args.a.now c.args.b.now c.loop-i.i c.loop-i.gates _ (omega arith) c.loop-i.invariant.numbered
