use Rattle.std.proofs.Common.{sym, ap, ◌∙◌, subst}
use Rattle.smv_names.specs.Rows.{AreRowsOf, rows_of}
use Rattle.smv_names.specs.Unknown.{declared_in}
use Rattle.smv_names.proofs.check.check_module.Goals as goal

pub first_unknown-requires : goal.first_unknown-requires
first_unknown-requires c =
    let program = c.args.known.now.program.now in
    let table = c.args.known.now.table.now in
    let name = c.args.owner.now.name in
    let found = c.of_module-rows.ensures ∙ ap (rows_of c.args.known.now.rows.now) c.as_str-name.ensures in
    record {
      known = c.requires.known;
      declared = c.in_ok-declared.ensures ∙ ap (declared_in program) c.as_str-name.ensures;
      rows = subst (AreRowsOf program table name) (sym found) (c.requires.known.rows.of_each name);
    }
