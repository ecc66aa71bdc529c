-- The instances of a program, grouped by module.
use Rattle.std.specs.Prelude.{◌≡◌, ℕ, Bool, List, [], map, filter}
use Rattle.std.specs.Option.{option_map_or}
use Rattle.std.specs.Str.{bytes_eq}
use Rattle.std.specs.Global.{Vec}
use Rattle.std.specs.HashMap.{HashMap, get_by}
use Rattle.std.specs.declared.hash.FoldHasher.{FoldHasher}
use Rattle.std.specs.declared.hash.BuildHasherDefault.{BuildHasherDefault}
use denote.Ref.{Bor}
use Rattle.smv_ast.specs.declared.program.Program.{Program}
use Rattle.smv_meaning.specs.declared.table.InstanceTable.{InstanceTable}
use Rattle.smv_meaning.specs.Value.{Name}
use Rattle.smv_meaning.specs.Instances.{Instance, called_at, instances}
use Rattle.smv_meaning.specs.Checking.{AreRows, instance_at}
use Rattle.smv_names.specs.declared.rows.RowsByModule.{RowsByModule}

-- whether an instance is of the module of this name
abbrev pub is_of : Name → Instance → Bool
is_of name instance = bytes_eq (called_at instance) name

-- a map from borrowed names to numbers of instances
abbrev pub RowMap : Type 0
RowMap = HashMap (Bor Name) (Vec ℕ) (BuildHasherDefault FoldHasher)

-- the numbers that a name maps to
abbrev pub rows_under : RowMap → Name → List ℕ
rows_under by_name name = option_map_or (λ rows. rows.items)
    (get_by (λ n. bytes_eq name n.now) by_name) []

-- the numbers of the instances of the module of a name
abbrev pub rows_of : RowsByModule → Name → List ℕ
rows_of rows name = rows_under rows.by_name name

-- the numbers of exactly the instances of the module of a name, in their order
pub record AreRowsOf (program : Program) (table : InstanceTable) (name : Name) (rows : List ℕ) : Type 0 where
  pub within : AreRows table rows
  pub exact : map (instance_at table) rows ≡ filter (is_of name) (instances program)

-- each module name maps to its instances
pub record AreRowsByModule (program : Program) (table : InstanceTable) (held : RowsByModule) : Type 0 where
  pub of_each : (name : Name) → AreRowsOf program table name (rows_of held name)
