use Rattle.std.proofs.Common.{sym, ap, ◌∙◌}
use Rattle.std.specs.Prelude.{option_map}
use Rattle.smv_expr.specs.Language.{Tokens, next_of, span_of}
use Rattle.smv_expr.proofs.Cutting.{token_at}
use Rattle.smv_expr.proofs.NextToken.{first_token}
use Rattle.smv_expr.proofs.cursor.Cursor.span.Goals as goal

pub returns-in-Some : goal.returns-in-Some
unfolding token_at
returns-in-Some c = ap (λ (ts : Tokens). option_map span_of (next_of ts)) (sym (first_token c.self.inside c.in-Some.field-0 c.self.invariant c.in-Some.is) ∙ c.self.view_is)
