-- The readers within limits, evaluated on small texts with small limits: where each stops, counted from the end. The values
-- are worked out by hand from the rule: the first token before which more constructs are open than may be, or with which an
-- expression, taken as ending there, is too high.
use Rattle.std.proofs.Common.{◌≡◌, ℕ, List, [], ◌∷◌, length, map, Option, Some, None, refl}
use Rattle.smv_ast.specs.declared.syntax.Expr.{Expr}
use Rattle.smv_expr.specs.declared.kind.Kind.{Kind}
use Rattle.smv_expr.specs.declared.kind.Kind.TheVariants as k
use Rattle.smv_expr.specs.Lexicon.{same_kind}
use Rattle.smv_expr.specs.Reading.{Cause, Outcome, read_more, read_fold}
use Rattle.smv_expr.specs.Reading.Outcome.{Read, Stop}
use Rattle.smv_expr.specs.Reading.Cause.{UnexpectedToken, Wide, Deep}
use Rattle.smv_expr.specs.Limits.Limit.{Below}
use Rattle.smv_expr.specs.ExprReaders as r
use Rattle.smv_expr.proofs.Words.{some_token}

-- why a reader stopped, if it did, and how many tokens it left
abbrev stopped : Outcome Expr → Option Cause × ℕ
stopped (Read a remaining) = (None, length remaining)
stopped (Stop cause remaining) = (Some cause, length remaining)

-- an expression with fewer constructs open than the first number, of a tree lower than the second
abbrev reads : ℕ → ℕ → List Kind → Option Cause × ℕ
reads open_bound bound kinds = stopped (r.read_expr open_bound (Below bound) (map some_token kinds))

-- heights: `!!a` and `--1` are three high, and end with their last token
pub heights : (reads 4 3 (k.Not ∷ k.Not ∷ k.Name ∷ []) ≡ (Some Deep, 1))
    × (reads 4 4 (k.Not ∷ k.Not ∷ k.Name ∷ []) ≡ (None, 0))
    × (reads 4 3 (k.Minus ∷ k.Minus ∷ k.Numeral ∷ []) ≡ (Some Deep, 1))
    × (reads 4 1 (k.Name ∷ []) ≡ (Some Deep, 1))
    × (reads 4 2 (k.Name ∷ []) ≡ (None, 0))
unfolding r.read_expr r.read_whole r.read_iff_level r.read_more_iff r.read_or_level r.read_more_or r.read_and_level r.read_more_and r.read_and_item r.read_not_level r.read_negation r.read_comparison r.read_more_comparison r.read_within r.read_more_within r.read_sum r.read_more_sum r.read_term r.read_more_term r.read_operand r.read_unary r.read_number r.read_single r.read_last r.read_limited r.read_signed r.read_minus r.read_negated r.read_negatable r.read_primary r.read_path r.read_first_name r.read_dotted_names r.read_too_deep read_more read_fold same_kind
heights = (refl, refl, refl, refl, refl)

-- An interval ends with its upper end: `1..2` where no tree fits stops there and not at its lower end.
pub intervals : (reads 3 1 (k.Numeral ∷ k.DotDot ∷ k.Numeral ∷ []) ≡ (Some Deep, 1))
    × (reads 3 1 (k.Numeral ∷ []) ≡ (Some Deep, 1))
unfolding r.read_expr r.read_whole r.read_iff_level r.read_more_iff r.read_or_level r.read_more_or r.read_and_level r.read_more_and r.read_not_level r.read_comparison r.read_more_comparison r.read_within r.read_more_within r.read_sum r.read_more_sum r.read_term r.read_more_term r.read_operand r.read_unary r.read_number r.read_single r.read_interval_expr r.read_last r.read_limited r.read_up_to r.read_sign r.read_signed read_more read_fold same_kind
intervals = (refl, refl)

-- open constructs: `(((a)))` where two may be open stops at `a`, and so does `!!!a`; so does `---1` at its numeral, and `---1..2` does not,
-- since its last `-` belongs to the interval
pub open_constructs : (reads 3 9 (k.OpenParen ∷ k.OpenParen ∷ k.OpenParen ∷ k.Name ∷ k.CloseParen ∷ k.CloseParen ∷ k.CloseParen ∷ []) ≡ (Some Deep, 4))
    × (reads 3 9 (k.Not ∷ k.Not ∷ k.Not ∷ k.Name ∷ []) ≡ (Some Deep, 1))
    × (reads 4 9 (k.Not ∷ k.Not ∷ k.Not ∷ k.Name ∷ []) ≡ (None, 0))
    × (reads 3 9 (k.Minus ∷ k.Minus ∷ k.Minus ∷ k.Numeral ∷ []) ≡ (Some Deep, 1))
    × (reads 3 9 (k.Minus ∷ k.Minus ∷ k.Minus ∷ k.Numeral ∷ k.DotDot ∷ k.Numeral ∷ []) ≡ (None, 0))
unfolding r.read_expr r.read_whole r.read_iff_level r.read_more_iff r.read_or_level r.read_more_or r.read_and_level r.read_more_and r.read_not_level r.read_negation r.read_comparison r.read_more_comparison r.read_within r.read_more_within r.read_sum r.read_more_sum r.read_term r.read_more_term r.read_operand r.read_unary r.read_number r.read_single r.read_negative_interval r.read_last r.read_limited r.read_up_to r.read_sign r.read_signed r.read_minus r.read_negated r.read_negatable r.read_primary r.read_path r.read_first_name r.read_dotted_names r.read_parens r.read_close r.read_too_deep read_more read_fold same_kind
open_constructs = (refl, refl, refl, refl, refl)

-- causes at one token: a numeral over the limit goes before too many open constructs, and what fits in no text before both;
-- a numeral over the limit where none fits is only left
pub causes : (reads 3 9 (k.OpenParen ∷ k.OpenParen ∷ k.OpenParen ∷ k.WideNumeral ∷ []) ≡ (Some Wide, 1))
    × (reads 3 9 (k.OpenParen ∷ k.OpenParen ∷ k.OpenParen ∷ k.CloseParen ∷ []) ≡ (Some UnexpectedToken, 1))
    × (reads 3 9 (k.Name ∷ k.WideNumeral ∷ []) ≡ (None, 1))
    × (reads 3 9 (k.Minus ∷ k.WideNumeral ∷ k.Name ∷ []) ≡ (Some Wide, 2))
unfolding r.read_expr r.read_whole r.read_iff_level r.read_more_iff r.read_or_level r.read_more_or r.read_and_level r.read_more_and r.read_not_level r.read_negation r.read_comparison r.read_more_comparison r.read_within r.read_more_within r.read_sum r.read_more_sum r.read_sum_item r.read_term r.read_more_term r.read_operand r.read_unary r.read_number r.read_single r.read_last r.read_limited r.read_signed r.read_minus r.read_negated r.read_negatable r.read_primary r.read_path r.read_first_name r.read_dotted_names r.read_parens r.read_close r.read_too_deep read_more read_fold same_kind
causes = (refl, refl, refl, refl)
