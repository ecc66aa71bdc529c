use Rattle.std.proofs.Common.{get_or, sym, ap, ◌∙◌}
use Rattle.std.specs.Str.{bytes_eq}
use Rattle.smv_meaning.specs.declared.table.Row.{Row}
use Rattle.integrate_treat.specs.Target.{called_by_link}
use Rattle.integrate_treat.proofs.TargetLemmas.{of_module, of_another}
use Rattle.integrate_treat.proofs.target.resolves_if_of.Goals as goal

pub returns : goal.returns
returns c =
    let k = c.args.row in
    let row = c.index-rows-row.result in
    let here = c.index-rows-row.is ∙ ap (λ rows. get_or rows k row) c.as_slice-rows.ensures in
    let another = ap (λ (r : Row). bytes_eq (called_by_link r.link) c.args.called.now) c.index-rows-row.is ∙ (sym c.is_of.ensures ∙ c.if-is_of.false) in
    sym (of_another c.args.program.now c.args.table.now c.requires.right c.args.called.now c.args.path.now k row c.requires.row here another)

pub returns-then-is_of : goal.returns-then-is_of
returns-then-is_of c =
    let k = c.args.row in
    let row = c.index-rows-row.result in
    let here = c.index-rows-row.is ∙ ap (λ rows. get_or rows k row) c.as_slice-rows.ensures in
    let same = ap (λ (r : Row). bytes_eq (called_by_link r.link) c.args.called.now) c.index-rows-row.is ∙ (sym c.is_of.ensures ∙ c.if-is_of.true) in
    c.resolves_to_value.ensures ∙ sym (of_module c.args.program.now c.args.table.now c.requires.right c.args.called.now c.args.path.now k row c.requires.row here same)
