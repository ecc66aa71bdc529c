use Rattle.std.proofs.Common.{◌≡◌, ◌+◌, ◌++◌, length, reverse}
use Rattle.integrate.specs.Joined.{joined}
use Rattle.fsmv_lift.specs.Lift.{specs_of_parts}
use Rattle.fsmv_lift.proofs.lifting.add_parts.Given as goal

abbrev pub invariant-loop-round : goal.invariant-loop-round
invariant-loop-round l = record {
  program : joined l.program (reverse l.waiting) ≡ joined l.fn.program l.fn.parts;
  specs : l.specs ++ specs_of_parts l.number l.program (reverse l.waiting) ≡ l.fn.specs ++ specs_of_parts l.number l.fn.program l.fn.parts;
  rest : length l.waiting + l._round ≡ l._round-end;
}
