use Rattle.std.proofs.Common.{◌≡◌, ◌∙◌, ap, get_or}
use Rattle.smv_meaning.specs.ItemIndex.{items_in}
use Rattle.smv_meaning.proofs.ItemIndexLemmas.{row_items}
use Rattle.smv_meaning.proofs.item_index.ItemsByName.of_row.Goals as goal

pub returns : goal.returns
returns c =
    let at : c.index-rows-row.result ≡ get_or c.args.table.now.rows c.args.row c.index-rows-row.result = rw c.as_slice-rows.ensures at c.index-rows-row.is in
    c.of_module.ensures ∙ (ap (items_in c.args.self.now) (rw (← c.index-rows-row.is) at c.called_of.ensures) ∙ row_items c.args.program.now c.args.table.now c.args.self.now c.args.row c.index-rows-row.result c.requires.right c.requires.index c.requires.row at)
