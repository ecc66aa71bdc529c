use Rattle.std.proofs.Common.{◌≡◌, drop, length}
use Rattle.gate_build.specs.Circuits.{IsMade, Extends}
use Rattle.bit_encode.specs.Arithmetic.{add_of}
use Rattle.bit_encode.specs.Made.{AreMade}
use Rattle.bit_encode.proofs.RunLemmas.{behind}
use Rattle.bit_encode.proofs.sums.add.Given as goal

abbrev pub invariant-loop-i : goal.invariant-loop-i
invariant-loop-i l = record {
  numbered : behind l.word.items (add_of (drop l.i l.a) (drop l.i l.b) l.c l.gates) ≡ add_of l.a l.b l.initial.c l.initial.gates;
  width : length l.word.items ≡ l.i;
  made : AreMade l.gates l.word.items;
  made_carry : IsMade l.gates l.c;
  extends : Extends l.initial.gates l.gates;
}
