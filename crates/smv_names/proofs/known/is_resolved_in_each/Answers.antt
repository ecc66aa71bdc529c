use Rattle.std.proofs.Common.{sym, ap, ◌∙◌}
use Rattle.std.specs.List.{list_all}
use Rattle.smv_meaning.specs.Instances.{instances}
use Rattle.smv_names.specs.Rows.{is_of}
use Rattle.smv_names.specs.Unknown.{resolves_in}
use Rattle.smv_names.proofs.RowsLemmas.{all_of}
use Rattle.smv_names.proofs.known.is_resolved_in_each.Goals as goal

pub loop-row-init : goal.loop-row-init
loop-row-init c =
    let program = c.args.module_scope.now.known.now.program.now in
    let resolve = resolves_in program c.args.path.now in
    ap (list_all resolve) c.requires.rows.exact ∙ sym (all_of (is_of c.args.module_scope.now.called.now) resolve (instances program))
