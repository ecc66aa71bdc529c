use Rattle.std.proofs.Common.{◌∙◌, arith}
use Rattle.gate_build.proofs.OrderLemmas.{Extends_through}
use Rattle.bit_encode.proofs.MadeLemmas.{AreMade-push, AreMade-extended}
use Rattle.bit_encode.proofs.RunLemmas.{length-push}
use Rattle.bit_encode.proofs.PlaceLemmas.{place_tests-next, place_tests-done}
use Rattle.bit_encode.proofs.places.place_tests.Goals as goal

pub loop-place-preserved : goal.loop-place-preserved
loop-place-preserved c =
    let old = c.loop-place.gates in
    let new = c.place_test.new.gates in
    let front = c.loop-place.tests.items in
    let more = c.in_ok-test.ensures.extends in
    record {
      numbered = rw c.in_ok-push.ensures.items
          (place_tests-next front c.args.bits.now c.args.places c.loop-place.place c.in_ok-test.test old new (omega arith) c.in_ok-test.ensures.numbered
          ∙ c.loop-place.invariant.numbered);
      width = length-push front c.push.new.self.items c.in_ok-test.test c.loop-place.place c.in_ok-push.ensures.items c.loop-place.invariant.width;
      made = rw c.in_ok-push.ensures.items (AreMade-push new front c.in_ok-test.test (AreMade-extended old new front more c.loop-place.invariant.made) c.in_ok-test.ensures.made);
      extends = Extends_through _ _ _ c.loop-place.invariant.extends more;
    }

pub returns-clause-numbered : goal.returns-clause-numbered
returns-clause-numbered c = place_tests-done c.loop-place.tests.items c.args.bits.now c.args.places c.loop-place.place c.loop-place.gates _ (omega arith) c.loop-place.invariant.numbered
