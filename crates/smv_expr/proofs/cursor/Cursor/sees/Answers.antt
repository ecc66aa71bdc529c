use Rattle.std.proofs.Common.{sym, ap, ◌∙◌, [], ◌∷◌}
use Rattle.smv_expr.specs.Language.{begins}
use Rattle.smv_expr.proofs.NextToken.{first_kind}
use Rattle.smv_expr.proofs.cursor.Cursor.sees.Goals as goal

pub returns-in-Some : goal.returns-in-Some
returns-in-Some c = c.same_kind.ensures ∙ sym (first_kind c.self.inside c.in-Some.next c.args.kind c.self.invariant c.in-Some.is) ∙ ap (begins (c.args.kind ∷ [])) c.self.view_is
