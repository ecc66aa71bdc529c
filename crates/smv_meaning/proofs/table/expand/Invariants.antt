use Rattle.std.proofs.Common.{◌≡◌, ◌++◌, drop, length}
use Rattle.std.specs.List.{flat_map}
use Rattle.smv_meaning.specs.Instances.{inner_of}
use Rattle.smv_meaning.specs.InstanceTable.{AreRowsOfProgram, Extends, AppendsSlots, AreSlotsUpTo, row_names, nth_instance, row_instances}
use Rattle.smv_meaning.proofs.table.expand.Given as goal

abbrev pub invariant-loop-entry : goal.invariant-loop-entry
invariant-loop-entry l = record {
  extends : Extends l.fn.rows l.rows;
  rows : AreRowsOfProgram l.program l.rows;
  inner : row_instances l.rows ++ flat_map (λ e. inner_of l.program (nth_instance (row_instances l.fn.rows) l.r) e.name e.entity) (drop l.entry-index (row_names l.row))
      ≡ row_instances l.fn.rows ++ flat_map (λ e. inner_of l.program (nth_instance (row_instances l.fn.rows) l.r) e.name e.entity) (row_names l.row);
  alias_of_binding : AppendsSlots l.entry-index l.fn.slots l.slots;
  slots : AreSlotsUpTo l.program l.rows l.slots l.r (length l.fn.slots) (row_names l.row) l.entry-index;
}
