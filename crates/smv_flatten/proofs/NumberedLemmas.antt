-- A lifted model by numbers, from the tables of its names.
use Rattle.std.proofs.Common.{◌≡◌, ℕ, IfOk, Ok, Err, List, [], map, length, fold}
use Rattle.std.specs.Prelude.{Result}
use Rattle.smv_ast.specs.declared.feature.Lifted.{Lifted}
use Rattle.smv_meaning.specs.Instances.{instances}
use Rattle.smv_meaning.specs.Checking.{IsTableOfProgram, instance_at}
use Rattle.smv_meaning.specs.Symbols as symbols_spec
use Rattle.smv_flatten.specs.declared.names.NameTables.{NameTables}
use Rattle.flat_model.specs.declared.model.Flat.{Flat}
use Rattle.smv_flatten.specs.Names.{symbol_names, with_symbol}
use Rattle.smv_flatten.specs.Variables.{variables_of, variable_numbers}
use Rattle.smv_flatten.specs.Invariants.{specs_at}
use Rattle.smv_flatten.proofs.DemandLemmas.{keeps_values}
use Rattle.smv_flatten.specs.Numbered.{model_of, IsNumbered}

pub is_numbered : {E : Type 0} (lifted : Lifted) (names : NameTables) (order : List ℕ) (result : Result Flat E) → IsTableOfProgram lifted.program names.table.now → map (instance_at names.table.now) order ≡ instances lifted.program
    → names.variables.now ≡ variable_numbers (length names.table.now.slots) (variables_of names.table.now order) → symbol_names names.symbols.now ≡ fold with_symbol [] (symbols_spec.symbols lifted.program)
    → IfOk result (λ model. model ≡ model_of lifted names order) → IfOk result (IsNumbered lifted)
is_numbered lifted names order (Ok model) table ordered variables symbols e = record { names = names; order = order; table = table; instances = ordered; variables = variables; symbols = symbols; is = e; values = keeps_values names lifted.program (specs_at lifted.program lifted.specs names.table.now order) order names.has_slots }
is_numbered lifted names order (Err x) table ordered variables symbols e = tt
