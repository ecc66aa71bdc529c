-- A table with the sorts of all slots has those of all names.
use Rattle.std.proofs.Common.{◌≡◌, ℕ, List, Option, sym, ap, ◌∙◌}
use mathlib.Core.Path.{fun_ext}
use Rattle.smv_ast.specs.declared.program.Program.{Program}
use Rattle.smv_meaning.specs.declared.table.InstanceTable.{InstanceTable}
use Rattle.fixpoint.specs.Fixpoints.{fixpoint, entry}
use Rattle.smv_meaning.specs.Slots.{by_slot, binding_in, HasSlots}
use Rattle.smv_meaning.proofs.SlotLemmas.{fixpoint_slots}
use Rattle.smv_kinds.specs.declared.sorts.Sort.{Sort}
use Rattle.smv_kinds.specs.SortsOfNames.{sort_of, symbol_sort, row_variable, sort_slots, AreSorts}

pub are_sorts : (program : Program) (table : InstanceTable) (solution : List (Option Sort)) → HasSlots table → ((k : ℕ) → entry solution k ≡ fixpoint (sort_slots program table) k) → AreSorts program table solution
are_sorts program table solution has right qualified =
    ap (λ (f : ℕ → Option Sort). by_slot table f qualified) (fun_ext right) ∙ sym (fixpoint_slots table has (sort_of (binding_in table) (row_variable table) (symbol_sort program)) qualified)
