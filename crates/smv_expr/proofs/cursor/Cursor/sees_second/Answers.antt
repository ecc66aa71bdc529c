use Rattle.std.proofs.Common.{[], ◌∷◌, sym, ap, ◌∙◌, ◌+◌, length, drop, arith, length-drop}
use Rattle.smv_expr.specs.Language.{Tokens, begins}
use Rattle.smv_expr.specs.Lexicon.{tokens_from}
use Rattle.smv_expr.proofs.Lexemes.{Fits}
use Rattle.smv_expr.proofs.NextToken.{first_token, next_fits}
use Rattle.smv_expr.proofs.cursor.Cursor.sees_second.Goals as goal

pub text_after-remaining-requires : goal.text_after-remaining-requires
text_after-remaining-requires c = (next_fits c.self.inside c.in-Some.next c.self.invariant c.in-Some.is).within

pub overflow_add-self-inside : goal.overflow_add-self-inside
overflow_add-self-inside c =
    let fits : Fits c.self.inside.remaining.now c.in-Some.next = next_fits c.self.inside c.in-Some.next c.self.invariant c.in-Some.is in
    omega (arith, c.self.invariant.0)

pub cursor_at-requires : goal.cursor_at-requires
cursor_at-requires c =
    let fits : Fits c.self.inside.remaining.now c.in-Some.next = next_fits c.self.inside c.in-Some.next c.self.invariant c.in-Some.is in
    omega (arith, c.self.invariant.0, ap length c.text_after-remaining.ensures, length-drop c.in-Some.next.len c.self.inside.remaining.now)

pub returns-in-Some : goal.returns-in-Some
returns-in-Some c = c.sees.ensures ∙ ap (begins (c.args.kind ∷ [])) (c.cursor_at.ensures ∙ ap (tokens_from c.self.inside.file (c.self.inside.at + c.in-Some.next.len)) c.text_after-remaining.ensures
    ∙ ap (λ (ts : Tokens). drop 1 ts) (sym (first_token c.self.inside c.in-Some.next c.self.invariant c.in-Some.is) ∙ c.self.view_is))
