-- The result of a passed check.
use Rattle.std.proofs.Common.{◌≡◌, ◌≢◌, ℕ, List, length, map, AllPairs, None, sym, ap, ◌∙◌, subst}
use Rattle.std.proofs.lemmas.List.{length-map}
use Rattle.smv_ast.specs.declared.program.Program.{Program}
use Rattle.smv_meaning.specs.declared.table.InstanceTable.{InstanceTable}
use Rattle.smv_meaning.specs.Instances.{Instance, instances}
use Rattle.smv_meaning.specs.ItemIndex.{items_at}
use Rattle.smv_meaning.specs.Checking.{IsTableOfProgram, AreRows, instance_at}
use Rattle.smv_names.specs.NamesFault.{names_fault}
use Rattle.smv_shape.specs.Shape.{shape_fault}
use Rattle.smv_meaning.specs.Faults.{ReportsFirst}
use Rattle.smv_cycles.specs.CyclesBySlot.{OneEach}
use Rattle.smv_cycles.specs.Cycles.{cycles_fault}
use Rattle.smv_cycles.specs.Heights.{HaveHeights}
use Rattle.smv_cycles.proofs.HeightLaw.{have_heights}
use Rattle.smv_kinds.specs.Rules.{kinds_fault}
use Rattle.std.specs.Prelude.{IfOk, Result, Ok, Err}
use Rattle.smv_ast.specs.declared.fault.Fault.{Fault}
use Rattle.fsmv_base.specs.declared.no_memory.NoMemory.{NoMemory}
use Rattle.smv_kinds.specs.Soundness.{AreShaped, IsSound}
use Rattle.smv_nodes.specs.Count.{of_program, instance_exprs, program_exprs, IsCount, HasNodes}
use Rattle.smv_nodes.specs.CountBySlot.{of_table, table_exprs}
use Rattle.smv_types.specs.Checks.{text_fault, read_fault, AreApart, AreDotless, HaveDistinctTexts, IsNodes}
use Rattle.smv_types.proofs.TextLemmas.{distinct_texts}
use Rattle.smv_meaning.proofs.FirstFault.{neither_found}
use Rattle.smv_types.proofs.ShapedPrograms.{are_shaped}
use Rattle.smv_types.proofs.DistinctLemmas.{instances_apart}
use Rattle.smv_types.proofs.ApartLemmas.{one_each}
use Rattle.smv_types.proofs.OnlyLemmas.{one_count}
use Rattle.smv_types.proofs.NodeLemmas.{table_count}

-- the choices of a model without a fault of its text are where they may be
pub text_shaped : (program : Program) → text_fault program ≡ None → AreShaped program
text_shaped program e = are_shaped program (neither_found (names_fault program) (shape_fault program) e).1

-- the instances of a model without a fault of its text are distinct
pub text_apart : (program : Program) → text_fault program ≡ None → AreApart program
text_apart program e = instances_apart program (neither_found (names_fault program) (shape_fault program) e).0

-- a model without a fault of what is read has heights
pub read_low : {A : Type 0} (program : Program) (result : Result A Fault) → ReportsFirst (read_fault program) result → IfOk result (λ x. HaveHeights program)
read_low program (Ok a) e = have_heights program (neither_found (cycles_fault program) (kinds_fault program) e).0
read_low program (Err f) e = tt

-- the texts of a model without a fault of its text are different, where no name contains a dot
pub text_distinct : {A : Type 0} (program : Program) (result : Result A Fault) → text_fault program ≡ None → IfOk result (λ x. AreDotless program → HaveDistinctTexts program)
text_distinct program (Ok a) e = distinct_texts program (neither_found (names_fault program) (shape_fault program) e).0
text_distinct program (Err f) e = tt

-- the answer of a check, once its premise holds
pub if_sound : {A : Type 0} (program : Program) (result : Result A Fault) → AreShaped program → IfOk result (λ x. AreShaped program → IsSound program) → IfOk result (λ x. IsSound program)
if_sound program (Ok a) shaped h = h shaped
if_sound program (Err f) shaped h = h

-- a table with a row for each of several distinct instances has each once
pub each_once : (program : Program) (table : InstanceTable) (order : List ℕ) → AreRows table order → map (instance_at table) order ≡ instances program → length table.rows ≡ length (instances program) → AreApart program → OneEach table
each_once program table order rows same count apart =
    one_each (instance_at table) (length table.rows) order (subst (AllPairs (λ p q. p ≢ q)) (sym same) apart) rows (sym (length-map order (instance_at table)) ∙ (ap length same ∙ sym count))

-- the count over such a table is the number of nodes of the model
pub counted : (program : Program) (table : InstanceTable) (order : List ℕ) (result : Result ℕ NoMemory) → IsTableOfProgram program table → AreRows table order → map (instance_at table) order ≡ instances program → OneEach table
    → IfOk result (λ n. IsCount (of_table table) (table_exprs program table order) n) → IfOk result (IsNodes program)
counted program table order (Ok n) right rows same one h =
    let has : HasNodes program n = subst (λ (row_instances : List Instance). IsCount (of_program program) (instance_exprs (items_at program) row_instances) n) same (table_count program table right order n rows one h) in
    record { has = has; only = λ m k. one_count (of_program program) (program_exprs program) m n k has }
counted program table order (Err e) right rows same one h = h
