use Rattle.std.proofs.Common.{◌≡◌, length}
use Rattle.smv_meaning.proofs.RunLemmas.{FirstTables}
use Rattle.smv_meaning.proofs.check.tables_of.Given as goal

abbrev pub invariant-loop-state : goal.invariant-loop-state
invariant-loop-state l = record {
  count : length l.tables ≡ l.state-index;
  known_of : FirstTables l.context l.states l.tables l.state-index;
}
