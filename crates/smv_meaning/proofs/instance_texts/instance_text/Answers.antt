use Rattle.std.proofs.Common.{◌≡◌, ◌∙◌, get_or, List, ℕ, ap, subst, IfOk}
use Rattle.smv_meaning.specs.RunCheck.{text_of_instance}
use Rattle.smv_meaning.proofs.RunLemmas.{row_text_is}
use Rattle.smv_meaning.proofs.instance_texts.instance_text.Goals as goal

pub returns : goal.returns
returns c =
    let at : c.index-rows-row.result ≡ get_or c.args.table.now.rows c.args.row c.index-rows-row.result = rw c.as_slice-rows.ensures at c.index-rows-row.is in
    let is = row_text_is c.args.table.now c.args.texts.now c.args.row c.index-rows-row.result c.index-texts-row.result c.requires.linked c.requires.texts c.requires.row at c.index-texts-row.is in
    let reported = ap (text_of_instance c.index-rows-row.result.link) c.as_str-path.ensures ∙ is in
    subst (λ (text : List ℕ). IfOk c.linked_text.result (λ t. t ≡ text)) reported (rw (← c.index-rows-row.is) at c.linked_text.ensures)
