use Rattle.std.proofs.Common.{◌≡◌, ◌+◌, ◌<◌, ◌≤◌, drop, length}
use Rattle.smv_meaning.specs.Instances.{Main, instances}
use Rattle.smv_meaning.specs.InstanceTable.{AreRowsOfProgram, AreSlotsOf, nth_instance, row_instances}
use Rattle.smv_meaning.proofs.CountLemmas.{weight}
use Rattle.smv_meaning.proofs.table.instance_table.Given as goal

abbrev pub invariant-loop-r : goal.invariant-loop-r
invariant-loop-r l = record {
  rows : AreRowsOfProgram l.program l.rows;
  main : nth_instance (row_instances l.rows) 0 ≡ Main;
  some : 0 < length l.rows;
  within : l.r ≤ length l.rows;
  weight : l.r + weight l.program (drop l.r (row_instances l.rows)) ≡ length (instances l.program);
  count : length l.firsts ≡ l.r;
  slots : AreSlotsOf l.program l.rows l.firsts l.slots;
}
