use Rattle.std.proofs.Common.{◌≡◌, ◌-◌, length}
use Rattle.gate_build.specs.Circuits.{Extends}
use Rattle.bit_encode.specs.Places.{place_tests_of}
use Rattle.bit_encode.specs.Made.{AreMade}
use Rattle.bit_encode.proofs.RunLemmas.{behind}
use Rattle.bit_encode.proofs.places.place_tests.Given as goal

abbrev pub invariant-loop-place : goal.invariant-loop-place
invariant-loop-place l = record {
  numbered : behind l.tests.items (place_tests_of (l.places - l.place) l.place l.bits l.gates) ≡ place_tests_of l.places 0 l.bits l.initial.gates;
  width : length l.tests.items ≡ l.place;
  made : AreMade l.gates l.tests.items;
  extends : Extends l.initial.gates l.gates;
}
