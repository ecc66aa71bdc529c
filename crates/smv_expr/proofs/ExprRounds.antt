-- Each round of a loop over parts of expressions takes a token at least, within whatever limits.
use Rattle.std.proofs.Common.{ℕ, ◌≤◌, true, refl}
use Rattle.smv_expr.specs.Limits.{beside, nesting_bound}
use Rattle.smv_expr.specs.Heights.{height}
use Rattle.smv_ast.specs.declared.syntax.Expr.{Expr}
use Rattle.smv_expr.specs.Limits.Limit.{Below}
use Rattle.smv_expr.specs.ExprReaders.{read_expr, read_not, read_signed_expr, read_listed, read_branch, read_term_item, read_sum_item, read_in_choice, read_comparison_item, read_and_item, read_or_item, read_iff_item}
use Rattle.smv_expr.specs.Lexicon.{same_kind}
use Rattle.smv_expr.specs.Language.{kinds_of}
use Rattle.smv_expr.specs.ExprGrammar.{Operand, term_operators, sum_operators, comparisons, and_operators, or_operators, iff_operators}
use Rattle.smv_expr.proofs.Rounds.{Consumes, consumes}
use Rattle.smv_expr.proofs.Words.{starts_dep, starts_table}
use Rattle.smv_expr.proofs.Limited.{consumes_too}
use Rattle.smv_expr.proofs.ExprRules as rules
use Rattle.smv_expr.proofs.ExprRules.{expr_rules, signed_bars}
use Rattle.smv_expr.proofs.ExprLimited as limited
use Rattle.smv_expr.proofs.ExprLimited.{expr_obeys, left_over, left_small}

module _ (m b : ℕ) (small : b ≤ nesting_bound) where
  pub listed_consumes : Consumes (read_listed (read_expr m) (read_not m) (read_signed_expr m) (Below b))
  listed_consumes = let r = expr_rules true m in let o = expr_obeys true m in
      consumes_too (limited.listed_obeys true (read_expr m) (read_not m) (read_signed_expr m) o.whole o.negated o.signed b)
      (consumes (rules.listed_rule true m (read_expr m) (read_not m) (read_signed_expr m) r.whole r.negated r.signed (signed_bars true m)) (rules.starts_listed true))

  pub branch_consumes : Consumes (read_branch (read_expr m) (read_not m) (read_signed_expr m) (Below b))
  branch_consumes = let r = expr_rules true m in let o = expr_obeys true m in
      consumes_too (limited.branch_obeys true (read_expr m) (read_not m) (read_signed_expr m) o.whole o.negated o.signed b)
      (consumes (rules.branch_rule true m (read_expr m) (read_not m) (read_signed_expr m) r.whole r.negated r.signed (signed_bars true m)) (rules.starts_branch true))

  pub term_consumes : Consumes (read_term_item (read_expr m) (read_not m) (read_signed_expr m) (Below b))
  unfolding same_kind
  term_consumes = let r = expr_rules true m in let o = expr_obeys true m in
      consumes_too (limited.term_item_obeys true (read_expr m) (read_not m) (read_signed_expr m) o.whole o.negated o.signed b small)
      (consumes (rules.term_item_rule true m (read_expr m) (read_not m) (read_signed_expr m) r.whole r.negated r.signed (signed_bars true m)) (starts_dep _ (starts_table term_operators (kinds_of term_operators) refl)))

  pub sum_consumes : Consumes (read_sum_item (read_expr m) (read_not m) (read_signed_expr m) (Below b))
  unfolding same_kind
  sum_consumes = let r = expr_rules true m in let o = expr_obeys true m in
      consumes_too (limited.sum_item_obeys true (read_expr m) (read_not m) (read_signed_expr m) o.whole o.negated o.signed b small)
      (consumes (rules.sum_item_rule true m (read_expr m) (read_not m) (read_signed_expr m) r.whole r.negated r.signed (signed_bars true m)) (starts_dep _ (starts_table sum_operators (kinds_of sum_operators) refl)))

  pub in_consumes : Consumes (read_in_choice (read_expr m) (read_not m) (read_signed_expr m) (Below b))
  in_consumes = let r = expr_rules true m in let o = expr_obeys true m in
      consumes_too (limited.in_obeys true (read_expr m) (read_not m) (read_signed_expr m) o.whole o.negated o.signed b small)
      (consumes (rules.in_rule true m (read_expr m) (read_not m) (read_signed_expr m) r.whole r.negated r.signed (signed_bars true m)) (rules.starts_in_choice true))

  pub comparison_consumes : Consumes (read_comparison_item (read_expr m) (read_not m) (read_signed_expr m) (Below b))
  unfolding same_kind
  comparison_consumes = let r = expr_rules true m in let o = expr_obeys true m in
      consumes_too (limited.comparison_item_obeys true (read_expr m) (read_not m) (read_signed_expr m) o.whole o.negated o.signed b small)
      (consumes (rules.comparison_item_rule true m (read_expr m) (read_not m) (read_signed_expr m) r.whole r.negated r.signed (signed_bars true m)) (starts_dep _ (starts_table comparisons (kinds_of comparisons) refl)))

  pub and_consumes : Consumes (read_and_item (read_expr m) (read_not m) (read_signed_expr m) (Below b))
  unfolding same_kind
  and_consumes = let r = expr_rules true m in let o = expr_obeys true m in
      consumes_too (limited.and_item_obeys true (read_expr m) (read_not m) (read_signed_expr m) o.whole o.negated o.signed b small)
      (consumes (rules.and_item_rule true m (read_expr m) (read_not m) (read_signed_expr m) r.whole r.negated r.signed (signed_bars true m)) (starts_dep _ (starts_table and_operators (kinds_of and_operators) refl)))

  pub or_consumes : Consumes (read_or_item (read_expr m) (read_not m) (read_signed_expr m) (Below b))
  unfolding same_kind
  or_consumes = let r = expr_rules true m in let o = expr_obeys true m in
      consumes_too (limited.or_item_obeys true (read_expr m) (read_not m) (read_signed_expr m) o.whole o.negated o.signed b small)
      (consumes (rules.or_item_rule true m (read_expr m) (read_not m) (read_signed_expr m) r.whole r.negated r.signed (signed_bars true m)) (starts_dep _ (starts_table or_operators (kinds_of or_operators) refl)))

  pub iff_consumes : Consumes (read_iff_item (read_expr m) (read_not m) (read_signed_expr m) (Below b))
  unfolding same_kind
  iff_consumes = let r = expr_rules true m in let o = expr_obeys true m in
      consumes_too (limited.iff_item_obeys true (read_expr m) (read_not m) (read_signed_expr m) o.whole o.negated o.signed b small)
      (consumes (rules.iff_item_rule true m (read_expr m) (read_not m) (read_signed_expr m) r.whole r.negated r.signed (signed_bars true m)) (starts_dep _ (starts_table iff_operators (kinds_of iff_operators) refl)))

-- ---- beside what a row has read so far

module _ (m b : ℕ) (small : b ≤ nesting_bound) where
  pub term_rounds : (a : Operand) → Consumes (read_term_item (read_expr m) (read_not m) (read_signed_expr m) (beside (height a.0) (Below b)))
  term_rounds a = term_consumes m (left_over (height a.0) b) (left_small (height a.0) b small)

  pub sum_rounds : (a : Operand) → Consumes (read_sum_item (read_expr m) (read_not m) (read_signed_expr m) (beside (height a.0) (Below b)))
  sum_rounds a = sum_consumes m (left_over (height a.0) b) (left_small (height a.0) b small)

  pub in_rounds : (a : Operand) → Consumes (read_in_choice (read_expr m) (read_not m) (read_signed_expr m) (beside (height a.0) (Below b)))
  in_rounds a = in_consumes m (left_over (height a.0) b) (left_small (height a.0) b small)

  pub comparison_rounds : (a : Operand) → Consumes (read_comparison_item (read_expr m) (read_not m) (read_signed_expr m) (beside (height a.0) (Below b)))
  comparison_rounds a = comparison_consumes m (left_over (height a.0) b) (left_small (height a.0) b small)

  pub and_rounds : (a : Expr) → Consumes (read_and_item (read_expr m) (read_not m) (read_signed_expr m) (beside (height a) (Below b)))
  and_rounds a = and_consumes m (left_over (height a) b) (left_small (height a) b small)

  pub or_rounds : (a : Expr) → Consumes (read_or_item (read_expr m) (read_not m) (read_signed_expr m) (beside (height a) (Below b)))
  or_rounds a = or_consumes m (left_over (height a) b) (left_small (height a) b small)

  pub iff_rounds : (a : Expr) → Consumes (read_iff_item (read_expr m) (read_not m) (read_signed_expr m) (beside (height a) (Below b)))
  iff_rounds a = iff_consumes m (left_over (height a) b) (left_small (height a) b small)
