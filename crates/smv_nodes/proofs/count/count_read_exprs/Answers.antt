use Rattle.std.proofs.Common.{fold, sym, ap, ◌∙◌}
use Rattle.std.specs.List.{flat_map}
use Rattle.indexmap.specs.IndexSet.{insert_key}
use Rattle.smv_nodes.specs.Count as spec
use Rattle.smv_nodes.specs.CountBySlot as by_slot
use Rattle.smv_nodes.proofs.CountLemmas.{progress_start, progress_step, progress_end}
use Rattle.smv_nodes.proofs.count.count_read_exprs.Goals as goal

pub loop-k-init : goal.loop-k-init
loop-k-init c =
    let items = by_slot.read_expr_views c.args.read_exprs.now in
    progress_start (by_slot.of_table c.args.table.now) items _ _
    (c.in_ok-count.ensures.found ∙ ap (λ keys. fold (insert_key by_slot.same) keys (flat_map (spec.shared_in (by_slot.of_table c.args.table.now)) items)) c.new-found.ensures.empty)
    c.in_ok-count.ensures.count

pub returns-in-None : goal.returns-in-None
returns-in-None c =
    progress_end (by_slot.of_table c.args.table.now) (by_slot.read_expr_views c.args.read_exprs.now) c.loop-k.found.keys c.loop-k.k c.loop-k.count
    (sym c.found_at.ensures.found ∙ c.in-None.is) c.found_at.ensures.once c.loop-k.invariant

pub loop-k-preserved : goal.loop-k-preserved
loop-k-preserved c =
    progress_step (by_slot.of_table c.args.table.now) (by_slot.read_expr_views c.args.read_exprs.now) c.loop-k.found.keys _ c.loop-k.k c.loop-k.count _ c.in-Some.shared
    (sym c.found_at.ensures.found ∙ c.in-Some.is) c.in_ok-count-in-Some.ensures.found c.in_ok-count-in-Some.ensures.count c.loop-k.invariant
