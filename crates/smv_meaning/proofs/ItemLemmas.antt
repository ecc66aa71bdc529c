-- The items of a module, and the names that it declares.
use Rattle.std.proofs.Common.{◌≡◌, List, ◌++◌}
use Rattle.std.specs.List.{flat_map}
use Rattle.std.proofs.lemmas.Grind.{flat_map-append}
use Rattle.smv_ast.specs.declared.program.Section.{Section}
use Rattle.smv_ast.specs.declared.program.Module.{Module}
use Rattle.smv_ast.specs.declared.program.Program.{Program}
use Rattle.smv_meaning.specs.Instances.{Entry, item_entries}
use Rattle.smv_meaning.specs.Items.{Item, section_items, all_items, items, program_items}
use Rattle.smv_meaning.proofs.MemberLemmas.{In, in_flat, from_flat}

-- ---- lists of items

-- the items of two lists of sections one after the other
pub items_append : (xs ys : List Section) → all_items (xs ++ ys) ≡ all_items xs ++ all_items ys
items_append xs ys = flat_map-append section_items xs ys

-- an item of a section of a module is an item of the module
pub item_of_section : (m : Module) (s : Section) (item : Item) → In s m.sections → In item (section_items s) → In item (items m)
item_of_section m s item = in_flat section_items m.sections s item

-- each item of a module is an item of one of its sections
pub section_of_item : (m : Module) (item : Item) → In item (items m) → (s : Section) × In s m.sections × In item (section_items s)
section_of_item m = from_flat section_items m.sections

-- each item of a program is an item of one of its modules
pub module_of_item : (program : Program) (item : Item) → In item (program_items program) → (m : Module) × In m program.modules × In item (items m)
module_of_item program = from_flat items program.modules

-- ---- the names that items declare

-- a name that an item declares comes from an item
pub item_of_entry : (m : Module) (e : Entry) → In e (flat_map item_entries (items m)) → (item : Item) × In item (items m) × In e (item_entries item)
item_of_entry m = from_flat item_entries (items m)
