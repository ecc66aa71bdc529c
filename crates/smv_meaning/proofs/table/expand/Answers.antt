use Rattle.std.proofs.Common.{◌≡◌, List, length, Some, sym, ap, ◌∙◌, arith}
use Rattle.std.proofs.lemmas.Option.{slice_get_within}
use Rattle.std.specs.Prelude.{slice_get}
use Rattle.smv_meaning.specs.Entries.{entry_view}
use Rattle.smv_meaning.specs.Instances.{Entry}
use Rattle.smv_meaning.specs.InstanceTable.{row_names}
use Rattle.smv_meaning.proofs.InstanceTableLemmas.{extends_more, extends_length, behind_more, appended_length, upto_more, get_view}
use Rattle.smv_meaning.proofs.CountLemmas.{inner_more}
use Rattle.smv_meaning.proofs.table.expand.Goals as goal

pub loop-entry-preserved : goal.loop-entry-preserved
loop-entry-preserved c =
    let names : List Entry = row_names c.args.row in
    let at : slice_get names c.loop-entry.entry-index ≡ Some (entry_view c.entry-item.result) =
    ap (λ (es : List Entry). slice_get es c.loop-entry.entry-index) (sym c.entries-entries.ensures.entries) ∙ get_view c.entries-entries.result.now c.loop-entry.entry-index c.entry-item.result (omega arith) c.entry-item.is in
    record {
      extends = extends_more c.args.rows.now c.loop-entry.rows c.add_entry.new.rows c.loop-entry.invariant.extends c.in_ok-add_entry.ensures.extends;
      rows = c.in_ok-add_entry.ensures.rows;
      inner = inner_more c.args.program.now c.args.rows.now c.loop-entry.rows c.add_entry.new.rows c.args.r c.loop-entry.entry-index names (entry_view c.entry-item.result)
          c.loop-entry.invariant.extends (slice_get_within c.args.rows.now c.args.r c.args.row c.requires.row) at
          c.in_ok-add_entry.ensures.inner c.loop-entry.invariant.inner;
      alias_of_binding = behind_more c.loop-entry.entry-index c.args.slots.now c.loop-entry.slots c.add_entry.new.slots c.in_ok-add_entry.ensures.slots.0 c.loop-entry.invariant.alias_of_binding c.in_ok-add_entry.ensures.slots.1;
      slots = upto_more c.args.program.now c.loop-entry.rows c.add_entry.new.rows c.loop-entry.slots c.add_entry.new.slots c.args.r (length c.args.slots.now) names c.loop-entry.entry-index (entry_view c.entry-item.result)
          c.in_ok-add_entry.ensures.extends c.in_ok-add_entry.ensures.slots (appended_length c.loop-entry.entry-index c.args.slots.now c.loop-entry.slots c.loop-entry.invariant.alias_of_binding)
          at
          (omega (arith, slice_get_within c.args.rows.now c.args.r c.args.row c.requires.row, extends_length c.args.rows.now c.loop-entry.rows c.loop-entry.invariant.extends))
          c.loop-entry.invariant.slots;
    }
