use Rattle.std.proofs.Common.{[], ◌∷◌, sym, ap, ◌∙◌}
use Rattle.std.proofs.lemmas.List.{length-take-le}
use Rattle.smv_expr.specs.declared.kind.Kind.TheVariants as k
use Rattle.smv_expr.specs.Language.{begins}
use Rattle.smv_expr.proofs.NextToken.{next_fits, name_is_ascii, left_out_is_ascii, numeral_is_digits}
use Rattle.smv_expr.proofs.cursor.Cursor.spelling.Goals as goal

pub slice_bounds-result-end : goal.slice_bounds-result-end
slice_bounds-result-end c = sym (length-take-le c.in-Some.next.len c.self.inside.remaining.now (next_fits c.self.inside c.in-Some.next c.self.invariant c.in-Some.is).within)

pub returns-clause-name : goal.returns-clause-name
returns-clause-name c = λ h. name_is_ascii c.self.inside c.in-Some.next c.self.invariant c.in-Some.is (ap (begins (k.Name ∷ [])) c.self.view_is ∙ h)

pub returns-clause-left_out : goal.returns-clause-left_out
returns-clause-left_out c = λ h. left_out_is_ascii c.self.inside c.in-Some.next c.self.invariant c.in-Some.is (ap (begins (k.LeftOut ∷ [])) c.self.view_is ∙ h)

pub returns-clause-numeral : goal.returns-clause-numeral
returns-clause-numeral c = λ h. numeral_is_digits c.self.inside c.in-Some.next c.self.invariant c.in-Some.is (ap (begins (k.Numeral ∷ [])) c.self.view_is ∙ h)
