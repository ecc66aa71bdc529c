-- A lifted model by numbers, as a flat model.
use Rattle.std.specs.Prelude.{◌≡◌, ℕ, true, List, length, map, fold, []}
use Rattle.smv_ast.specs.declared.feature.Lifted.{Lifted}
use Rattle.smv_meaning.specs.Instances.{instances}
use Rattle.smv_meaning.specs.Checking.{IsTableOfProgram, instance_at}
use Rattle.smv_meaning.specs.Symbols as symbols_spec
use Rattle.smv_flatten.specs.declared.names.NameTables.{NameTables}
use Rattle.flat_model.specs.declared.model.Flat.{Flat}
use Rattle.smv_flatten.specs.Names.{symbol_names, with_symbol}
use Rattle.smv_flatten.specs.Variables.{variables_at, variables_of, variable_numbers, flat_variable, has_symbols}
use Rattle.smv_flatten.specs.declared.numbering.FlatNodes.{FlatNodes}
use Rattle.smv_flatten.specs.Invariants.{SpecAt, specs_at}
use Rattle.smv_flatten.specs.SpecTexts.{flat_specs}
use Rattle.smv_flatten.specs.Numbering.{nodes_made}
use Rattle.smv_flatten.specs.Demands.{KeepsValues}

-- a lifted model by numbers, given the tables of its names, the rows of its instances in order, its
-- specs, and its nodes
abbrev pub flat_with : Lifted → NameTables → List ℕ → List SpecAt → FlatNodes → Flat
flat_with lifted names order specs n = record {
  features = length (variables_at names.table.now true order);
  vars = map (flat_variable lifted.vars names.table.now names.symbols.now)
      (variables_of names.table.now order);
  symbols = symbol_names names.symbols.now;
  symbolic = map has_symbols (variables_of names.table.now order);
  nodes = n.nodes;
  init = n.init;
  inside = n.inside;
  step = n.step;
  model = n.model;
  specs = flat_specs names.table.now n.specs 0 specs;
}

-- a lifted model by numbers, given the tables of its names and the rows of its instances in order
abbrev pub model_of : Lifted → NameTables → List ℕ → Flat
model_of lifted names order =
    let specs = specs_at lifted.program lifted.specs names.table.now order in
    flat_with lifted names order specs (nodes_made names lifted.program specs order)

-- The numbers are those of a lifted model: over the instance table of its program, with the rows in
-- the order of the instances, each variable numbered by its position among all variables, and each
-- symbol by its first place in the types. The nodes keep the values of constraints and specs.
pub record IsNumbered (lifted : Lifted) (model : Flat) : Type 0 where
  pub names : NameTables
  pub order : List ℕ
  pub table : IsTableOfProgram lifted.program names.table.now
  pub instances : map (instance_at names.table.now) order ≡ instances lifted.program
  pub variables : names.variables.now ≡ variable_numbers (length names.table.now.slots)
      (variables_of names.table.now order)
  pub symbols : symbol_names names.symbols.now
      ≡ fold with_symbol [] (symbols_spec.symbols lifted.program)
  pub is : model ≡ model_of lifted names order
  pub values : KeepsValues names lifted.program
      (specs_at lifted.program lifted.specs names.table.now order) order
