-- Items by the names of modules.
use Rattle.std.proofs.Common.{◌≡◌, ℕ, ◌<◌, List, [], length, get_or, Option, Some, None, refl, sym, ap, ◌∙◌}
use Rattle.std.proofs.lemmas.Option.{slice_get-map}
use Rattle.std.specs.Prelude.{slice_get}
use Rattle.std.specs.Option.{option_map}
use Rattle.smv_ast.specs.declared.program.Module.{Module}
use Rattle.smv_ast.specs.declared.program.Program.{Program}
use Rattle.smv_meaning.specs.declared.item_index.ModuleItems.{ModuleItems}
use Rattle.smv_meaning.specs.declared.item_index.ItemsByName.{ItemsByName}
use Rattle.smv_meaning.specs.declared.table.InstanceTable.{InstanceTable}
use Rattle.smv_meaning.specs.declared.table.Row.{Row}
use Rattle.smv_meaning.specs.declared.table.Link.{Link}
use Rattle.smv_meaning.specs.Value.{Name, and_then}
use Rattle.smv_meaning.specs.Indices.{number_held}
use Rattle.smv_meaning.specs.ModuleNumbers.{the_module}
use Rattle.smv_meaning.specs.Instances.{Instance, or_empty, module_named, called_at}
use Rattle.smv_meaning.specs.Items.{Item, items}
use Rattle.smv_meaning.specs.ItemIndex.{items_at, list_view, list_found, items_in, IsItemIndex}
use Rattle.smv_meaning.specs.InstanceTable.{called_of, instance_of_link, row_instances}
use Rattle.smv_meaning.specs.Checking.{IsTableOfProgram, instance_at}
use Rattle.smv_meaning.proofs.ValuationLemmas.{get_item}
use Rattle.smv_meaning.proofs.ModuleNumberLemmas.{numbered_module}

-- the items of a module that was found, none where there is none
abbrev items_found : Option (List Item) → List Item
items_found None = []
items_found (Some list) = list

held_found : (o : Option ModuleItems) → list_found o ≡ items_found (option_map list_view o)
held_found None = refl
held_found (Some list) = refl

module_found : (name : Name) (o : Option Module) → items_found (option_map items o) ≡ items (or_empty name o)
module_found name None = refl
module_found name (Some m) = refl

-- the items that a name maps to are those of its module
pub items_in_is : (program : Program) (index : ItemsByName) (name : Name) → IsItemIndex program index → items_in index name ≡ items (module_named program name)
items_in_is program index name is =
    at (number_held index.numbers name) ∙ (ap (λ (o : Option ℕ). items_found (option_map items (and_then o (slice_get program.modules)))) (is.numbers name)
    ∙ (ap (λ (o : Option Module). items_found (option_map items o)) (numbered_module program.modules name) ∙ module_found name (the_module program name)))
  where
    at : (o : Option ℕ) → list_found (and_then o (slice_get index.lists)) ≡ items_found (option_map items (and_then o (slice_get program.modules)))
    at None = refl
    at (Some k) = held_found (slice_get index.lists k) ∙ ap items_found (sym (slice_get-map list_view index.lists k) ∙ (ap (λ (ls : List (List Item)). slice_get ls k) is.lists ∙ slice_get-map items program.modules k))

module_of_link : (ps : List Instance) (link : Option Link) → called_at (instance_of_link ps link) ≡ called_of link
module_of_link ps None = refl
module_of_link ps (Some link) = refl

-- the module of a row is that of its instance
pub called_is : (program : Program) (table : InstanceTable) (k : ℕ) (row : Row) → IsTableOfProgram program table → k < length table.rows → row ≡ get_or table.rows k row → called_at (instance_at table k) ≡ called_of row.link
called_is program table k row right h e = ap called_at (right.rows k row (get_item table.rows k row h e)).instance_at ∙ module_of_link (row_instances table.rows) row.link

-- and so are its items
pub row_items : (program : Program) (table : InstanceTable) (index : ItemsByName) (k : ℕ) (row : Row) → IsTableOfProgram program table → IsItemIndex program index → k < length table.rows → row ≡ get_or table.rows k row
    → items_in index (called_of row.link) ≡ items_at program (instance_at table k)
row_items program table index k row right is h e =
    items_in_is program index (called_of row.link) is ∙ ap (λ (name : Name). items (module_named program name)) (sym (called_is program table k row right h e))
