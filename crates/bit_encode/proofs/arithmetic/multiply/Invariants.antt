use Rattle.std.proofs.Common.{◌≡◌, drop, length}
use Rattle.gate_build.specs.Circuits.{Extends}
use Rattle.bit_encode.specs.Arithmetic.{products_of, multiply_of}
use Rattle.bit_encode.specs.Made.{AreMade}
use Rattle.bit_encode.proofs.arithmetic.multiply.Given as goal

abbrev pub invariant-loop-bit : goal.invariant-loop-bit
invariant-loop-bit l = record {
  numbered : products_of l.sum.items l.shifted.items (drop l.bit-index l.a) l.gates ≡ multiply_of l.a l.b l.initial.gates;
  sum_width : length l.sum.items ≡ length l.b;
  width : length l.shifted.items ≡ length l.b;
  made_sum : AreMade l.gates l.sum.items;
  made_shifted : AreMade l.gates l.shifted.items;
  extends : Extends l.initial.gates l.gates;
}
