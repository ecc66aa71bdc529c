use Rattle.std.proofs.Common.{◌<◌, length, sym, ◌∙◌, ap, arith, rules, length-drop}
use Rattle.smv_expr.proofs.Lexemes.{Fits}
use Rattle.smv_expr.proofs.Cutting.{skipped_space, first_fits}
use Rattle.smv_expr.proofs.cursor.cursor_at.Goals as goal

pub text_after-remaining-requires : goal.text_after-remaining-requires
text_after-remaining-requires c = (first_fits c.first_lexeme-next.result c.blanks.remaining.now c.first_lexeme-next.ensures (search rules)).within

pub overflow_add-at : goal.overflow_add-at
overflow_add-at c =
    let fits : Fits c.blanks.remaining.now c.first_lexeme-next.result = first_fits c.first_lexeme-next.result c.blanks.remaining.now c.first_lexeme-next.ensures (search rules) in
    omega arith

pub blanks-smaller : goal.blanks-smaller
blanks-smaller c =
    let fits : Fits c.blanks.remaining.now c.first_lexeme-next.result = first_fits c.first_lexeme-next.result c.blanks.remaining.now c.first_lexeme-next.ensures (search rules) in
    omega (arith, ap length c.text_after-remaining.ensures, length-drop c.first_lexeme-next.result.len c.blanks.remaining.now)

pub blanks-preserved : goal.blanks-preserved
blanks-preserved c =
    let some : 0 < length c.blanks.remaining.now = search rules in
    let fits : Fits c.blanks.remaining.now c.first_lexeme-next.result = first_fits c.first_lexeme-next.result c.blanks.remaining.now c.first_lexeme-next.ensures some in (
      skipped_space c.args.file c.blanks.at c.first_lexeme-next.result c.blanks.remaining.now c.text_after-remaining.result.now c.first_lexeme-next.ensures some
          (sym c.same_kind.ensures ∙ c.if-not-same_kind.false) c.text_after-remaining.ensures ∙ c.blanks.invariant.0,
      omega (arith, ap length c.text_after-remaining.ensures, length-drop c.first_lexeme-next.result.len c.blanks.remaining.now),
    )
