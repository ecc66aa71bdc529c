-- The variables of a model by number, with the numbers that stand for their values.
use Rattle.std.specs.Prelude.{ℕ, suc, ◌==◌, ◌&&◌, Bool, true, false, List, [], ◌∷◌, ◌++◌, length, map, ℤ, pos, ◌-ℤ◌, Option, Some, None, slice_get, slice_set, replicate, if◌then◌else◌, codes}
use Rattle.std.specs.List.{flat_map}
use Rattle.std.specs.Str.{bytes_eq}
use mathlib.Core.Bool.{beq}
use Rattle.smv_ast.specs.declared.syntax.SmvType.{SmvType}
use Rattle.smv_ast.specs.declared.syntax.SmvType.TheVariants as type
use Rattle.smv_ast.specs.declared.feature.OwnedVar.{OwnedVar}
use Rattle.smv_meaning.specs.declared.table.InstanceTable.{InstanceTable}
use Rattle.smv_meaning.specs.declared.table.Link.{Link}
use Rattle.smv_meaning.specs.declared.table.Row.{Row}
use Rattle.smv_meaning.specs.Value.{Name, count_to}
use Rattle.smv_meaning.specs.Instances.{Entity, Variable, Entry, path_of}
use Rattle.smv_meaning.specs.Runs.{path_text}
use Rattle.smv_meaning.specs.Checking.{instance_at}
use Rattle.smv_meaning.specs.InstanceTable.{row_names, called_of}
use Rattle.smv_meaning.specs.Slots.{slot_of}
use Rattle.flat_model.specs.declared.variables.Values.{Values}
use Rattle.flat_model.specs.declared.variables.Values.TheVariants as values
use Rattle.flat_model.specs.declared.variables.FlatVar.{FlatVar}
use Rattle.smv_flatten.specs.declared.variables.VariableAt.{VariableAt as HeldVariable}
use Rattle.smv_flatten.specs.Names.{SymbolSet, symbol_number}

-- ---- types

-- the number that stands for a symbol
abbrev pub symbol_value : SymbolSet → Name → ℤ
symbol_value symbols name = pos (symbol_number symbols name)

-- the numbers of the values of a type, in their order
abbrev pub values_of : SymbolSet → SmvType → Values
values_of symbols type.Boolean = values.Boolean
values_of symbols (type.Range low high) = values.Range low
values_of symbols (type.Numbers numbers) = values.Table numbers
values_of symbols (type.Symbols names) = values.Table (map (symbol_value symbols) names)

-- how many numbers go from `low` up to `high`
abbrev pub count_of_range : ℤ → ℤ → ℕ
count_of_range low high = count_to (high -ℤ low)

-- how many values a type has
abbrev pub count_of : SmvType → ℕ
count_of type.Boolean = 2
count_of (type.Range low high) = count_of_range low high
count_of (type.Numbers numbers) = length numbers
count_of (type.Symbols names) = length names

-- whether the values of a type are symbols
abbrev pub is_symbolic : SmvType → Bool
is_symbolic (type.Symbols names) = true
is_symbolic t = false

-- ---- the order of the variables

-- whether the instance with this link is the one that `main` declares for the features
abbrev pub is_features : Option Link → Bool
is_features None = false
is_features (Some link) = (link.outer == 0) && bytes_eq link.name.now (codes "fsmv_fm")

-- a variable of an instance, with its slot in the instance table and the name of its module
pub record VariableAt : Type 0 where
  pub slot : ℕ
  pub row : ℕ
  pub called : Name
  pub name : Name
  pub type : SmvType

-- the variable that a Rust value represents
abbrev pub variable_view : HeldVariable → VariableAt
variable_view v = record {
  slot = v.slot;
  row = v.row;
  called = v.called.now;
  name = v.name.now;
  type = v.type_.now;
}

-- a variable at the slot that was found, if there is one
abbrev pub variable_found : ℕ → Name → Name → SmvType → Option ℕ → List VariableAt
variable_found row called name t None = []
variable_found row called name t (Some slot) = record
    { slot = slot; row = row; called = called; name = name; type = t } ∷ []

-- the variable that a name of this entity is
abbrev pub entity_variables : InstanceTable → ℕ → Name → Name → Entity → List VariableAt
entity_variables table row called name (Variable t) = variable_found row called name t
    (slot_of table (record { instance = row; name = name }))
entity_variables table row called name m = []

-- the variable that an entry is
abbrev pub entry_variables : InstanceTable → ℕ → Name → Entry → List VariableAt
entry_variables table row called e = entity_variables table row called e.name e.entity

-- the variables of a row that was found, if it is the features' or not, as wanted
abbrev pub found_variables : InstanceTable → Bool → ℕ → Option Row → List VariableAt
found_variables table features k None = []
found_variables table features k (Some row) = if beq (is_features row.link) features then flat_map
    (entry_variables table k (called_of row.link)) (row_names row) else []

-- the same of the row of a number
abbrev pub row_variables : InstanceTable → Bool → ℕ → List VariableAt
row_variables table features k = found_variables table features k (slice_get table.rows k)

-- the variables of these instances: those of the features, or all others
abbrev pub variables_at : InstanceTable → Bool → List ℕ → List VariableAt
variables_at table features order = flat_map (row_variables table features) order

-- the variables of these instances in the order of their numbers: the features first
abbrev pub variables_of : InstanceTable → List ℕ → List VariableAt
variables_of table order = variables_at table true order ++ variables_at table false order

-- the numbers with those of these variables, from a number up
abbrev pub numbered_from : ℕ → List VariableAt → List (Option ℕ) → List (Option ℕ)
numbered_from n [] numbers = numbers
numbered_from n (v ∷ more) numbers = numbered_from (suc n) more
    (slice_set numbers v.slot (Some n))

-- the number of the variable of each of so many slots that is one: its position among these
abbrev pub variable_numbers : ℕ → List VariableAt → List (Option ℕ)
variable_numbers count variables = numbered_from 0 variables (replicate count None)

-- ---- owners

-- the feature that introduces a variable of a module
abbrev pub owner_of : List OwnedVar → Name → Name → Option ℕ
owner_of [] called name = None
owner_of (var ∷ more) called name = if bytes_eq var.«module» called && bytes_eq var.name name
    then Some var.feature else owner_of more called name

-- a variable as the flat model has it
abbrev pub flat_variable : List OwnedVar → InstanceTable → SymbolSet → VariableAt → FlatVar
flat_variable owned table symbols v = record {
  path = path_text (path_of (instance_at table v.row) ++ v.name ∷ []);
  values = values_of symbols v.type;
  count = count_of v.type;
  owner = owner_of owned v.called v.name;
}

-- whether the values of a variable are symbols
abbrev pub has_symbols : VariableAt → Bool
has_symbols v = is_symbolic v.type
