use Rattle.std.proofs.Common.{◌∷◌, [], List, ℕ, length, ap, ◌∙◌, arith, length-append}
use Rattle.std.proofs.lemmas.Option.{slice_get_within}
use Rattle.smv_meaning.specs.Valuation.{row_text}
use Rattle.smv_meaning.proofs.ValuationLemmas.{reports_more, within_rows, get_item, spells}
use Rattle.smv_meaning.proofs.instance_texts.path_texts.Goals as goal

pub row_text-requires-clause-rows : goal.row_text-requires-clause-rows
row_text-requires-clause-rows c =
    let at = get_item c.args.rows.now c.loop-row.row-index c.row-item.result (omega arith) c.row-item.is in
    within_rows c.args.rows.now c.loop-row.row-index (length c.args.rows.now) c.row-item.result c.requires at (omega arith)

pub row_text-requires-clause-texts : goal.row_text-requires-clause-texts
row_text-requires-clause-texts c =
    let at = get_item c.args.rows.now c.loop-row.row-index c.row-item.result (omega arith) c.row-item.is in
    rw c.as_slice.ensures (within_rows c.args.rows.now c.loop-row.row-index (length c.loop-row.texts) c.row-item.result c.requires at (omega arith))

pub loop-row-preserved : goal.loop-row-preserved
loop-row-preserved c =
    let at = get_item c.args.rows.now c.loop-row.row-index c.row-item.result (omega arith) c.row-item.is in
    let is = c.in_ok-text.ensures ∙ ap (λ (texts : List (List ℕ)). row_text c.args.rows.now texts c.row-item.result.link) c.as_slice.ensures in
    record {
      count = omega (arith, ap length c.in_ok-push.ensures.ok, length-append c.loop-row.texts (c.in_ok-text.text ∷ []), c.loop-row.invariant.count);
      known_of = reports_more c.args.rows.now c.loop-row.texts c.push.new.self c.loop-row.row-index c.row-item.result c.in_ok-text.text c.requires at c.loop-row.invariant.count is c.in_ok-push.ensures.ok c.loop-row.invariant.known_of;
    }

pub returns-clause-names : goal.returns-clause-names
returns-clause-names c = spells c.args.rows.now c.loop-row.texts c.requires (λ k row e. c.loop-row.invariant.known_of k row (omega (arith, slice_get_within c.args.rows.now k row e)) e)

pub returns-clause-paths : goal.returns-clause-paths
returns-clause-paths c = λ k row e. c.loop-row.invariant.known_of k row (omega (arith, slice_get_within c.args.rows.now k row e)) e
