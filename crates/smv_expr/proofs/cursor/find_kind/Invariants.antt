use Rattle.std.proofs.Common.{◌≡◌, drop}
use Rattle.smv_expr.specs.Language.{find_kind}
use Rattle.smv_expr.proofs.cursor.find_kind.Given as goal

abbrev pub invariant-loop-one : goal.invariant-loop-one
invariant-loop-one g l = find_kind (drop l.one-index l.table) l.kind ≡ find_kind l.table l.kind
