use Rattle.std.proofs.Common.{◌≡◌, ◌≤◌, drop, length}
use Rattle.gate_build.specs.Circuits.{Extends}
use Rattle.bit_encode.specs.Places.{choose_of}
use Rattle.bit_encode.specs.Made.{AreMade}
use Rattle.bit_encode.proofs.places.choose_number.Given as goal

abbrev pub decreases-loop-next : goal.decreases-loop-next
decreases-loop-next l = l.next

abbrev pub invariant-loop-next : goal.invariant-loop-next
invariant-loop-next l = record {
  numbered : (l.word.items, l.gates) ≡ choose_of l.width (drop l.next l.tests) (drop l.next l.numbers) l.initial.gates;
  within : l.next ≤ length l.tests;
  width : length l.word.items ≡ l.width;
  made : AreMade l.gates l.word.items;
  extends : Extends l.initial.gates l.gates;
}
