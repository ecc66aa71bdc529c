use Rattle.std.proofs.Common.{◌≡◌, ◌++◌, map, drop}
use Rattle.std.specs.List.{flat_map}
use Rattle.smv_meaning.specs.Items.{items_view}
use Rattle.smv_names.specs.Duplicates.{declared_name_view, name_of_formal, names_of_item, declared_names}
use Rattle.smv_names.proofs.declared_names.declared_names_of.Given as goal

abbrev pub invariant-loop-name : goal.invariant-loop-name
invariant-loop-name l = map declared_name_view l.names ++ map (name_of_formal l.owner.at) (drop l.name-index l.owner.formals) ≡ map (name_of_formal l.owner.at) l.owner.formals

abbrev pub invariant-loop-item : goal.invariant-loop-item
invariant-loop-item l = map declared_name_view l.names ++ flat_map names_of_item (items_view (drop l.item-index l.item-items)) ≡ declared_names l.owner
