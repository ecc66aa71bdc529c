use Rattle.std.proofs.Common.{◌≡◌, drop, length}
use Rattle.gate_build.specs.Circuits.{Extends}
use Rattle.bit_encode.specs.Arithmetic.{pairwise_of}
use Rattle.bit_encode.specs.Made.{AreMade, IsMadeGate}
use Rattle.bit_encode.proofs.RunLemmas.{behind}
use Rattle.bit_encode.proofs.pairwise.pairwise.Given as goal

abbrev pub invariant-loop-i : goal.invariant-loop-i
invariant-loop-i l = record {
  numbered : behind l.word.items (pairwise_of l.gate (drop l.i l.a) (drop l.i l.b) l.gates) ≡ pairwise_of l.gate l.a l.b l.initial.gates;
  width : length l.word.items ≡ l.i;
  made : AreMade l.gates l.word.items;
  made_gate : IsMadeGate l.gates l.gate;
  extends : Extends l.initial.gates l.gates;
}
