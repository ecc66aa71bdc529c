use Rattle.std.proofs.Common.{ap, ◌∙◌}
use Rattle.std.specs.Prelude.{is_some}
use Rattle.smv_expr.specs.Language.{begins, kinds_of}
use Rattle.smv_expr.proofs.NextToken.{table_seen}
use Rattle.smv_expr.proofs.cursor.Cursor.sees_one_of.Goals as goal

pub returns-in-Some : goal.returns-in-Some
returns-in-Some g c = table_seen c.args.table.now c.self.inside c.in-Some.next c.is_some.result c.self.invariant c.in-Some.is (c.is_some.ensures ∙ ap is_some c.find_kind.ensures) ∙ ap (begins (kinds_of c.args.table.now)) c.self.view_is
