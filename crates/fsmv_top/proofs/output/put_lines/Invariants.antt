use Rattle.std.proofs.Common.{◌≡◌, ◌-◌, ◌≤◌, length, take, drop, is_some}
use Rattle.fsmv_outside.specs.Writing.{with_piece}
use Rattle.fsmv_top.proofs.output.put_lines.Given as goal

abbrev pub invariant-loop-tail : goal.invariant-loop-tail
invariant-loop-tail g l =
    let sink = g.S.Sink in
    let written = length l.fn.text - length l.tail in
    record {
      shorter : length l.tail ≤ length l.fn.text;
      left : l.tail ≡ drop written l.fn.text;
      content : sink.content l.out ≡ with_piece (sink.content l.fn.out) (take written l.fn.text);
      given_stays : is_some (sink.content l.out) ≡ is_some (sink.content l.fn.out);
      faults : sink.faults l.fn.out ≤ sink.faults l.out;
    }

abbrev pub decreases-loop-tail : goal.decreases-loop-tail
decreases-loop-tail g l = length l.tail
