use Rattle.std.proofs.Common.{subst}
use Rattle.std.specs.Prelude.{IsTrue, ◌↔◌}
use Rattle.std.proofs.Common.{◌≡◌, []}
use Rattle.smv_expr.specs.Language.{Tokens}
use Rattle.smv_expr.proofs.NextToken.{ends_where_none}
use Rattle.smv_expr.proofs.cursor.Cursor.is_at_end.Goals as goal

pub returns : goal.returns
returns c = subst (λ (ts : Tokens). IsTrue c.is_none.result ↔ (ts ≡ [])) c.self.view_is (ends_where_none c.self.inside c.self.invariant c.is_none.result c.is_none.ensures)
