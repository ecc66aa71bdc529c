-- Each reader of a part of an expression decides by the tokens that it has read, whatever its limit.
use Rattle.std.proofs.Common.{◌≡◌, ℕ, zero, suc, ◌<◌, Bool, true, ◌&&◌, List, [], ◌∷◌, ◌++◌, length, refl, ap, arith}
use Rattle.smv_ast.specs.declared.syntax.Op.{Op}
use Rattle.smv_ast.specs.declared.syntax.Expr.{Expr}
use Rattle.smv_expr.specs.declared.kind.Kind.{Kind}
use Rattle.smv_expr.specs.declared.kind.Kind.TheVariants as k
use Rattle.smv_expr.specs.Language.{Tokens, of_kind, of_kinds, span_of, name_of, number_of, number_kinds, find_kind, kinds_of, followed_by, begins}
use Rattle.smv_expr.specs.Reading.{Reader, read_word, read_name, read_both, read_one_of}
use Rattle.smv_expr.specs.Reading.Cause.{Wide, Deep}
use Rattle.smv_expr.specs.Limits.{Limit, fits, inside, beside, fresh_limit, any_number}
use Rattle.smv_expr.specs.ExprGrammar as g
use Rattle.smv_expr.specs.ExprReaders as r
use Rattle.smv_expr.specs.Heights.{height}
use Rattle.smv_expr.proofs.Rounds.{Consumes}
use Rattle.smv_expr.proofs.Local.{Local, SameDots, leaf_local, nothing_local, then_local, mapped_local, dep_local, both_local, test_local, either_local, allowed_local, deep_local, many_local, more_local, leaf_consumes, mapped_consumes, both_consumes, later_consumes}

-- ---- one token

pub word_local : (kind : Kind) → Local (read_word kind)
word_local kind = leaf_local (of_kind kind span_of)

pub word_consumes : (kind : Kind) → Consumes (read_word kind)
word_consumes kind = leaf_consumes (of_kind kind span_of)

pub name_local : Local read_name
name_local = leaf_local (of_kind k.Name name_of)

pub name_consumes : Consumes read_name
name_consumes = leaf_consumes (of_kind k.Name name_of)

-- a word, and then the other
pub word_then_local : {B : Type 0} {q : Reader B} (kind : Kind) → Local q → Local (read_both (read_word kind) q)
word_then_local kind l = both_local (word_local kind) l

pub word_first : {B : Type 0} {q : Reader B} (kind : Kind) → Local q → Consumes (read_both (read_word kind) q)
word_first kind l = both_consumes (word_consumes kind) l

limited_local : (any : Bool) → Local (r.read_limited any)
unfolding r.read_limited
limited_local any = allowed_local any Wide (k.WideNumeral ∷ []) (leaf_local (of_kinds number_kinds number_of))

last_local : (any ok : Bool) → Local (r.read_last any ok)
unfolding r.read_last
last_local any ok = allowed_local ok Deep (k.Numeral ∷ []) (limited_local any)

close_local : (ok : Bool) (kind : Kind) → Local (r.read_close ok kind)
unfolding r.read_close
close_local ok kind = allowed_local ok Deep (kind ∷ []) (word_local kind)

too_deep_local : (any : Bool) (first : List Kind) → Local {A = Expr} (r.read_too_deep any first)
unfolding r.read_too_deep
too_deep_local any first = allowed_local any Wide (k.WideNumeral ∷ []) (deep_local first)

-- ---- numbers and paths

pub sign_local : (any ok : Bool) → Local (r.read_sign any ok)
unfolding r.read_sign
sign_local any ok = either_local (k.Minus ∷ []) (mapped_local _ (word_then_local k.Minus (last_local any ok))) (mapped_local _ (last_local any ok))

pub up_to_local : (any ok : Bool) → Local (r.read_up_to any ok)
unfolding r.read_up_to
up_to_local any ok = mapped_local _ (word_then_local k.DotDot (sign_local any ok))

interval_expr_local : (any ok : Bool) → Local (r.read_interval_expr any ok)
unfolding r.read_interval_expr
interval_expr_local any ok = mapped_local _ (both_local (limited_local any) (up_to_local any ok))

single_local : (any ok : Bool) → Local (r.read_single any ok)
unfolding r.read_single
single_local any ok = mapped_local _ (last_local any ok)

-- two tokens tell, or one and whether `..` comes
dots_keep : (c s s' : Tokens) → 0 < length c → SameDots s s' → followed_by k.DotDot (c ++ s) ≡ followed_by k.DotDot (c ++ s')
dots_keep [] s s' some dots = let none : 0 < 0 = some in absurd (omega (arith, none))
dots_keep (t ∷ []) s s' some dots = dots
dots_keep (t ∷ t' ∷ c) s s' some dots = refl

interval_keeps : (c s s' : Tokens) → 0 < length c → SameDots s s' → begins number_kinds (c ++ s) && followed_by k.DotDot (c ++ s) ≡ begins number_kinds (c ++ s') && followed_by k.DotDot (c ++ s')
interval_keeps [] s s' some dots = let none : 0 < 0 = some in absurd (omega (arith, none))
interval_keeps (t ∷ []) s s' some dots = ap (λ v. begins number_kinds (t ∷ []) && v) dots
interval_keeps (t ∷ t' ∷ c) s s' some dots = refl

number_local : (any ok : Bool) → Local (r.read_number any ok)
unfolding r.read_number
number_local any ok = test_local (followed_by k.DotDot) dots_keep (interval_expr_local any ok) (single_local any ok)

negative_interval_local : (any ok : Bool) → Local (r.read_negative_interval any ok)
unfolding r.read_negative_interval
negative_interval_local any ok = mapped_local _ (both_local (limited_local any) (up_to_local any ok))

dotted_local : Local r.read_dotted
unfolding r.read_dotted
dotted_local = mapped_local _ (word_then_local k.Dot name_local)

dotted_first : Consumes r.read_dotted
unfolding r.read_dotted
dotted_first = mapped_consumes _ (word_first k.Dot name_local)

pub dotted_names_local : Local r.read_dotted_names
unfolding r.read_dotted_names
dotted_names_local = many_local (k.Dot ∷ []) dotted_first dotted_local

path_local : (ok : Bool) → Local (r.read_path ok)
unfolding r.read_path r.read_first_name
path_local ok = mapped_local _ (both_local (allowed_local ok Deep (k.Name ∷ []) name_local) dotted_names_local)

-- ---- expressions, from readers of those one level deeper

module _ (w n u : Limit → Reader Expr) (lw : (l : Limit) → Local (w l)) (ln : (l : Limit) → Local (n l)) (lu : (l : Limit) → Local (u l)) where
  parens_local : (l : Limit) → Local (r.read_parens w n u l)
  unfolding r.read_parens
  parens_local l = mapped_local _ (word_then_local k.OpenParen (dep_local (lw (fresh_limit l)) (λ a. close_local _ k.CloseParen)))

  next_local : (l : Limit) → Local (r.read_next_value w n u l)
  unfolding r.read_next_value
  next_local l = mapped_local _ (word_then_local k.Next (parens_local (inside l)))

  listed_local : (l : Limit) → Local (r.read_listed w n u l)
  unfolding r.read_listed
  listed_local l = mapped_local _ (word_then_local k.Comma (lw (fresh_limit l)))

  listed_first : (l : Limit) → Consumes (r.read_listed w n u l)
  unfolding r.read_listed
  listed_first l = mapped_consumes _ (word_first k.Comma (lw (fresh_limit l)))

  braces_local : (l : Limit) → Local (r.read_braces w n u l)
  unfolding r.read_braces r.read_more_listed
  braces_local l = mapped_local _ (word_then_local k.OpenBrace (dep_local (both_local (lw (fresh_limit l)) (many_local (k.Comma ∷ []) (listed_first l) (listed_local l))) (λ parts. close_local _ k.CloseBrace)))

  interval_local : (l : Limit) → Local (r.read_interval w n u l)
  unfolding r.read_interval
  interval_local l = mapped_local _ (both_local (sign_local (any_number l) true) (up_to_local (any_number l) (fits l 0)))

  choice_local : (l : Limit) → Local (r.read_choice w n u l)
  unfolding r.read_choice
  choice_local l = either_local (k.OpenBrace ∷ []) (braces_local l) (interval_local l)

  branch_local : (l : Limit) → Local (r.read_branch w n u l)
  unfolding r.read_branch
  branch_local l = mapped_local _ (both_local (lw (fresh_limit l)) (word_then_local k.Colon (both_local (lw (fresh_limit l)) (word_local k.Semicolon))))

  branch_first : (l : Limit) → Consumes (r.read_branch w n u l)
  unfolding r.read_branch
  branch_first l = mapped_consumes _ (later_consumes (lw (fresh_limit l)) (word_first k.Colon (both_local (lw (fresh_limit l)) (word_local k.Semicolon))))

  cases_local : (l : Limit) → Local (r.read_cases w n u l)
  unfolding r.read_cases r.read_branches
  cases_local l = mapped_local _ (word_then_local k.Case (dep_local (branch_local l) (λ first. dep_local (many_local r.first_expr (branch_first l) (branch_local l)) (λ more. close_local _ k.Esac))))

  primary_local : (l : Limit) → Local (r.read_primary w n u l)
  unfolding r.read_primary
  primary_local l =
      either_local (k.True ∷ []) (mapped_local _ (close_local _ k.True)) (
      either_local (k.False ∷ []) (mapped_local _ (close_local _ k.False)) (
      either_local (k.Name ∷ []) (path_local _) (
      either_local (k.OpenParen ∷ []) (parens_local l) (
      either_local (k.OpenBrace ∷ []) (mapped_local _ (braces_local (inside l))) (
      either_local (k.Next ∷ []) (next_local l) (cases_local l))))))

  negated_local : (l : Limit) → Local (r.read_negated w n u l)
  unfolding r.read_negated
  negated_local l = test_local (λ ts. begins number_kinds ts && followed_by k.DotDot ts) interval_keeps (negative_interval_local (any_number l) (fits l 1)) (mapped_local _ (lu (inside l)))

  minus_local : (l : Limit) → Local (r.read_minus w n u l)
  unfolding r.read_minus
  minus_local l = mapped_local _ (word_then_local k.Minus (negated_local l))

  signed_local : (l : Limit) → Local (r.read_signed w n u l)
  unfolding r.read_signed
  signed_local l = either_local (k.Minus ∷ []) (minus_local l) (primary_local l)

  unary_local : (l : Limit) → Local (r.read_unary w n u l)
  unfolding r.read_unary
  unary_local l = either_local number_kinds (number_local (any_number l) (fits l 1)) (signed_local l)

  negatable_local : (l : Limit) → Local (r.read_negatable w n u l)
  unfolding r.read_negatable
  negatable_local l = either_local number_kinds (single_local (any_number l) (fits l 1)) (signed_local l)

  negation_local : (l : Limit) → Local (r.read_negation w n u l)
  unfolding r.read_negation
  negation_local l = mapped_local _ (word_then_local k.Not (ln (inside l)))

  right_local : {p : Reader g.Operand} (l : Limit) → Local p → Local (r.read_right_of w n u p l)
  unfolding r.read_closed
  right_local l lp = either_local (k.Not ∷ []) (mapped_local _ (negation_local l)) lp

  operand_local : (l : Limit) → Local (r.read_operand w n u l)
  unfolding r.read_operand
  operand_local l = mapped_local _ (unary_local l)

  -- an operator and its right operand
  item_local : {p : Reader g.Operand} (table : List (Kind × Op)) (l : Limit) → Local p → Local (read_both (read_one_of table) (r.read_right_of w n u p l))
  item_local table l lp = both_local (leaf_local (λ t. find_kind table t.kind)) (right_local l lp)

  item_first : {p : Reader g.Operand} (table : List (Kind × Op)) (l : Limit) → Local p → Consumes (read_both (read_one_of table) (r.read_right_of w n u p l))
  item_first table l lp = both_consumes (leaf_consumes (λ t. find_kind table t.kind)) (right_local l lp)

  term_local : (l : Limit) → Local (r.read_term w n u l)
  unfolding r.read_term r.read_more_term r.read_term_item
  term_local l = then_local (operand_local l) (λ a. more_local (kinds_of g.term_operators) g.is_closed _ g.joined_operand
      (λ b. item_first g.term_operators (beside (height b.0) l) (operand_local _)) (λ b. item_local g.term_operators (beside (height b.0) l) (operand_local _)) a)

  sum_local : (l : Limit) → Local (r.read_sum w n u l)
  unfolding r.read_sum r.read_more_sum r.read_sum_item
  sum_local l = then_local (term_local l) (λ a. more_local (kinds_of g.sum_operators) g.is_closed _ g.joined_operand
      (λ b. item_first g.sum_operators (beside (height b.0) l) (term_local _)) (λ b. item_local g.sum_operators (beside (height b.0) l) (term_local _)) a)

  in_local : (l : Limit) → Local (r.read_in_choice w n u l)
  unfolding r.read_in_choice
  in_local l = mapped_local _ (word_then_local k.In (choice_local l))

  in_first : (l : Limit) → Consumes (r.read_in_choice w n u l)
  unfolding r.read_in_choice
  in_first l = mapped_consumes _ (word_first k.In (choice_local l))

  within_local : (l : Limit) → Local (r.read_within w n u l)
  unfolding r.read_within r.read_more_within
  within_local l = then_local (sum_local l) (λ a. more_local (k.In ∷ []) g.is_closed _ g.within_operand (λ b. in_first (beside (height b.0) l)) (λ b. in_local (beside (height b.0) l)) a)

  comparison_local : (l : Limit) → Local (r.read_comparison w n u l)
  unfolding r.read_comparison r.read_more_comparison r.read_comparison_item
  comparison_local l = then_local (within_local l) (λ a. more_local (kinds_of g.comparisons) g.is_closed _ g.joined_operand
      (λ b. item_first g.comparisons (beside (height b.0) l) (within_local _)) (λ b. item_local g.comparisons (beside (height b.0) l) (within_local _)) a)

  not_local : (l : Limit) → Local (r.read_not_level w n u l)
  unfolding r.read_not_level
  not_local l = either_local (k.Not ∷ []) (negation_local l) (mapped_local _ (comparison_local l))

  -- an operator and an operand of the level below
  pair_local : {p : Reader Expr} (table : List (Kind × Op)) → Local p → Local (read_both (read_one_of table) p)
  pair_local table lp = both_local (leaf_local (λ t. find_kind table t.kind)) lp

  pair_first : {p : Reader Expr} (table : List (Kind × Op)) → Local p → Consumes (read_both (read_one_of table) p)
  pair_first table lp = both_consumes (leaf_consumes (λ t. find_kind table t.kind)) lp

  and_local : (l : Limit) → Local (r.read_and_level w n u l)
  unfolding r.read_and_level r.read_more_and r.read_and_item
  and_local l = then_local (not_local l) (λ a. more_local (kinds_of g.and_operators) g.never_ends _ g.joined
      (λ b. pair_first g.and_operators (not_local (beside (height b) l))) (λ b. pair_local g.and_operators (not_local (beside (height b) l))) a)

  or_local : (l : Limit) → Local (r.read_or_level w n u l)
  unfolding r.read_or_level r.read_more_or r.read_or_item
  or_local l = then_local (and_local l) (λ a. more_local (kinds_of g.or_operators) g.never_ends _ g.joined
      (λ b. pair_first g.or_operators (and_local (beside (height b) l))) (λ b. pair_local g.or_operators (and_local (beside (height b) l))) a)

  iff_local : (l : Limit) → Local (r.read_iff_level w n u l)
  unfolding r.read_iff_level r.read_more_iff r.read_iff_item
  iff_local l = then_local (or_local l) (λ a. more_local (kinds_of g.iff_operators) g.never_ends _ g.joined
      (λ b. pair_first g.iff_operators (or_local (beside (height b) l))) (λ b. pair_local g.iff_operators (or_local (beside (height b) l))) a)

  whole_local : (l : Limit) → Local (r.read_whole w n u l)
  unfolding r.read_whole r.read_conclusion
  whole_local l = mapped_local _ (dep_local (iff_local l) (λ a. either_local (k.Implies ∷ []) (mapped_local _ (mapped_local _ (word_then_local k.Implies (lw (beside (height a) l))))) (nothing_local _)))

-- ---- at every limit of open constructs

pub record ExprLocal (m : ℕ) : Type 0 where
  pub whole : (l : Limit) → Local (r.read_expr m l)
  pub negated : (l : Limit) → Local (r.read_not m l)
  pub signed : (l : Limit) → Local (r.read_signed_expr m l)

pub expr_local : (m : ℕ) → ExprLocal m
unfolding r.read_expr
expr_local zero = record {
  whole = λ l. too_deep_local (any_number l) r.first_expr;
  negated = λ l. too_deep_local (any_number l) r.first_expr;
  signed = λ l. too_deep_local (any_number l) r.first_unary;
}
expr_local (suc m) = let s = expr_local m in record {
  whole = λ l. whole_local (r.read_expr m) (r.read_not m) (r.read_signed_expr m) s.whole s.negated s.signed l;
  negated = λ l. not_local (r.read_expr m) (r.read_not m) (r.read_signed_expr m) s.whole s.negated s.signed l;
  signed = λ l. negatable_local (r.read_expr m) (r.read_not m) (r.read_signed_expr m) s.whole s.negated s.signed l;
}
