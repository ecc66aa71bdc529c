use Rattle.std.proofs.Common.{◌≡◌, ◌≤◌, drop, length}
use Rattle.gate_build.specs.Circuits.{Extends}
use Rattle.bit_encode.specs.Arithmetic.{division_of}
use Rattle.bit_encode.specs.Made.{AreMade}
use Rattle.bit_encode.proofs.arithmetic.remainder.Given as goal

abbrev pub decreases-loop-next : goal.decreases-loop-next
decreases-loop-next l = l.next

abbrev pub invariant-loop-next : goal.invariant-loop-next
invariant-loop-next l = record {
  numbered : (l.remainder.items, l.gates) ≡ division_of (drop l.next l.a) l.divisor.items l.initial.gates;
  within : l.next ≤ length l.a;
  width : length l.remainder.items ≡ length l.divisor.items;
  made : AreMade l.gates l.remainder.items;
  made_divisor : AreMade l.gates l.divisor.items;
  extends : Extends l.initial.gates l.gates;
}
