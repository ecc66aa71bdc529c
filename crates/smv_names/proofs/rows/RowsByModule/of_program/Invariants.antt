use Rattle.std.proofs.Common.{◌≡◌, take}
use Rattle.smv_meaning.specs.Value.{Name}
use Rattle.smv_names.specs.Rows.{rows_under}
use Rattle.smv_names.proofs.RowsLemmas.{rows_among}
use Rattle.smv_names.proofs.rows.RowsByModule.of_program.Given as goal

abbrev pub invariant-loop-row : goal.invariant-loop-row
invariant-loop-row l = (name : Name) → rows_under l.by_name name ≡ rows_among l.table name (take l.row-index l.row-items)
