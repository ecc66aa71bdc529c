use Rattle.std.proofs.Common.{◌≡◌, sym, ap, ◌∙◌, List, ℕ, Some, None}
use Rattle.std.specs.Prelude.{slice_get}
use Rattle.std.specs.Option.{option_map, option_copied}
use Rattle.smv_meaning.specs.Valuation.{text_below}
use Rattle.smv_meaning.proofs.ValuationLemmas.{name_text_is}
use Rattle.smv_meaning.proofs.instance_texts.name_text.Goals as goal

pub returns-in_ok-text_below-in-Some-at : goal.returns-in_ok-text_below-in-Some-at
returns-in_ok-text_below-in-Some-at c =
    let row : slice_get c.args.table.now.rows c.args.row ≡ Some c.in-Some.found = rw c.as_slice.ensures at (sym c.at.ensures ∙ (sym c.copied.ensures ∙ c.in-Some.is)) in
    let text : slice_get c.args.texts.now c.args.row ≡ Some c.in-Some-at.text.now = sym c.at-2.ensures ∙ ap option_copied c.in-Some-at.is in
    ap Some (c.in_ok-text_below-in-Some-at.ensures ∙ ap (λ (t : List ℕ). text_below c.in-Some.found.link t c.args.name.now) c.as_str.ensures)
    ∙ (ap (option_map (λ t. text_below c.in-Some.found.link t c.args.name.now)) (sym text)
    ∙ name_text_is c.args.table.now c.args.texts.now c.args.row c.in-Some.found c.args.name.now c.requires row)

pub returns-in-None : goal.returns-in-None
returns-in-None c =
    let row : slice_get c.args.table.now.rows c.args.row ≡ Some c.in-Some.found = rw c.as_slice.ensures at (sym c.at.ensures ∙ (sym c.copied.ensures ∙ c.in-Some.is)) in
    let text : slice_get c.args.texts.now c.args.row ≡ None = sym c.at-2.ensures ∙ ap option_copied c.in-None.is in
    ap (option_map (λ t. text_below c.in-Some.found.link t c.args.name.now)) (sym text)
    ∙ name_text_is c.args.table.now c.args.texts.now c.args.row c.in-Some.found c.args.name.now c.requires row
