use Rattle.std.proofs.Common.{◌≡◌}
use Rattle.std.specs.Prelude.{IfSome}
use Rattle.smv_meaning.specs.RunCheck.{written_answer}
use Rattle.smv_meaning.specs.MetItems.{IsValued}
use Rattle.smv_meaning.proofs.RunLemmas.{Tail}
use Rattle.smv_meaning.proofs.check.run_answer.Given as goal

abbrev pub invariant-loop-k : goal.invariant-loop-k
invariant-loop-k l = record {
  step : l.step ≡ l.k;
  before : IfSome l.before (IsValued l.context);
  same : Tail l.context.program.now l.step l.before l.states l.k ≡ written_answer l.context.program.now l.states;
}
