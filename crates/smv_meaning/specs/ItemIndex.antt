-- The items of the modules of a program, looked up by name.
use Rattle.std.specs.Prelude.{◌≡◌, List, [], map, slice_get, Option, Some, None}
use Rattle.smv_ast.specs.declared.program.Program.{Program}
use Rattle.smv_meaning.specs.declared.item_index.ModuleItems.{ModuleItems}
use Rattle.smv_meaning.specs.declared.item_index.ItemsByName.{ItemsByName}
use Rattle.smv_meaning.specs.Indices.{number_held}
use Rattle.smv_meaning.specs.ModuleNumbers.{IsNumbering}
use Rattle.smv_meaning.specs.Instances.{Instance, module_at}
use Rattle.smv_meaning.specs.Items.{Item, items, items_view}
use Rattle.smv_meaning.specs.Value.{Name, and_then}

-- the items of an instance
abbrev pub items_at : Program → Instance → List Item
items_at program instance = items (module_at program instance)

-- the items of a module that a Rust value represents
abbrev pub list_view : ModuleItems → List Item
list_view m = items_view m.list

-- the items that were found; none where nothing was
abbrev pub list_found : Option ModuleItems → List Item
list_found None = []
list_found (Some m) = list_view m

-- the items that a name maps to
abbrev pub items_in : ItemsByName → Name → List Item
items_in index name = list_found (and_then (number_held index.numbers name) (slice_get index.lists))

-- the lists are those of the modules, and each name maps to the number of its first module
pub record IsItemIndex (program : Program) (index : ItemsByName) : Type 0 where
  pub lists : map list_view index.lists ≡ map items program.modules
  pub numbers : IsNumbering program index.numbers
