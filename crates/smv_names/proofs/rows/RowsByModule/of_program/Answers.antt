use Rattle.std.proofs.Common.{◌≡◌, get_or, map, sym, ap, ◌∙◌, subst}
use Rattle.smv_meaning.specs.declared.table.Row.{Row}
use Rattle.smv_meaning.specs.Instances.{instances}
use Rattle.smv_meaning.specs.Checking.{AreRows, instance_at}
use Rattle.smv_meaning.specs.InstanceTable.{called_of}
use Rattle.smv_names.proofs.RowsLemmas.{one_more, all_listed}
use Rattle.smv_names.proofs.rows.RowsByModule.of_program.Goals as goal

pub loop-row-preserved : goal.loop-row-preserved
loop-row-preserved c =
    let order = c.as_slice-row-items.result.now in
    let within = subst (AreRows c.args.table.now) (sym c.as_slice-row-items.ensures) c.in_ok-order.ensures.rows in
    let row = c.index-instances-row.result in
    let here = c.index-instances-row.is ∙ ap (λ rows. get_or rows (get_or order c.loop-row.row-index 0) row) c.as_slice-instances.ensures in
    let called = c.called_of.ensures ∙ ap (λ (r : Row). called_of r.link) (sym c.index-instances-row.is) in
    one_more c.args.program.now c.args.table.now order c.loop-row.row-index row c.called_of.result.now c.loop-row.by_name c.put.new.by_name c.requires within c.loop-row-test.true here called c.in_ok-put.ensures c.loop-row.invariant

pub returns : goal.returns
returns c =
    let within = subst (AreRows c.args.table.now) (sym c.as_slice-row-items.ensures) c.in_ok-order.ensures.rows in
    let exact = subst (λ rows. map (instance_at c.args.table.now) rows ≡ instances c.args.program.now) (sym c.as_slice-row-items.ensures) c.in_ok-order.ensures.order in
    all_listed c.args.program.now c.args.table.now c.as_slice-row-items.result.now c.loop-row.row-index _ within exact c.loop-row-test.false c.loop-row.invariant
