-- The reader of each part of an expression. Within a limit a reader stops at the first token at which it is passed:
-- at a numeral over the limit for numbers, or where too many constructs are open before the token, or where the tree of
-- the expression that ends with the token is too high. Without a limit it reads what the grammar says.
use Rattle.std.specs.Prelude.{ℕ, zero, suc, Bool, true, ◌&&◌, if◌then◌else◌, ℤ, pos, neg_ℤ, List, [], ◌∷◌}
use Rattle.smv_ast.specs.declared.syntax.Span.{Span}
use Rattle.smv_ast.specs.declared.syntax.Op.{Op}
use Rattle.smv_ast.specs.declared.syntax.Choice.{Choice}
use Rattle.smv_ast.specs.declared.syntax.Choice.TheVariants as choice
use Rattle.smv_ast.specs.declared.syntax.Expr.{Expr}
use Rattle.smv_ast.specs.declared.syntax.Expr.TheVariants as e
use Rattle.smv_ast.specs.declared.syntax.Branch.{Branch}
use Rattle.smv_expr.specs.declared.kind.Kind.{Kind}
use Rattle.smv_expr.specs.declared.kind.Kind.TheVariants as k
use Rattle.smv_expr.specs.Lexicon.{Bytes}
use Rattle.smv_expr.specs.Language.{kinds_of, number_kinds, begins, followed_by}
use Rattle.smv_expr.specs.Reading.{Reader, and_then, read_word, read_name, read_digits, read_one_of, read_dep, read_both, read_mapped, read_either, read_opt, read_many, read_more, read_deep, read_allowed}
use Rattle.smv_expr.specs.Reading.Cause.{Wide, Deep}
use Rattle.smv_expr.specs.ExprGrammar.{number_expr, branch_of, cases_of}
use Rattle.smv_expr.specs.ExprGrammar.{term_operators, sum_operators, comparisons, and_operators, or_operators, iff_operators, joined, Operand, is_closed, open_operand, closed_operand, joined_operand, never_ends, within_operand, implied, path_of, negative_interval_of}
use Rattle.smv_expr.specs.Heights.{height, choice_height}
use Rattle.smv_expr.specs.Limits.{Limit, nesting_bound, any_number, fits, inside, beside, fresh_limit}

-- ---- what the parts begin with

-- what begins with no sign and no digit
abbrev pub first_primary : List Kind
first_primary = k.True ∷ k.False ∷ k.Name ∷ k.OpenParen ∷ k.OpenBrace ∷ k.Next ∷ k.Case ∷ []

-- what begins with no digit
abbrev pub first_signed : List Kind
first_signed = k.Minus ∷ first_primary

-- an operand of a product
abbrev pub first_unary : List Kind
first_unary = k.Numeral ∷ k.WideNumeral ∷ first_signed

-- an expression
abbrev pub first_expr : List Kind
first_expr = k.Not ∷ first_unary

-- ---- the limits

-- a numeral: of any size, or within the limit for numbers
unfoldable pub read_limited : Bool → Reader (ℕ × Span)
read_limited any = read_allowed any Wide (k.WideNumeral ∷ []) read_digits

-- the numeral with which a tree ends that fits, or does not
unfoldable pub read_last : Bool → Bool → Reader (ℕ × Span)
read_last any ok = read_allowed ok Deep (k.Numeral ∷ []) (read_limited any)

-- the word or mark with which a tree ends that fits, or does not
unfoldable pub read_close : Bool → Kind → Reader Span
read_close ok kind = read_allowed ok Deep (kind ∷ []) (read_word kind)

-- what begins with one of `first`, where too many constructs are open
unfoldable pub read_too_deep : {A : Type 0} → Bool → List Kind → Reader A
read_too_deep any first = read_allowed any Wide (k.WideNumeral ∷ []) (read_deep first)

-- ---- numbers and paths. `any` says that numbers may be of any size, `ok` that the tree that ends there fits.

-- [ - ] numeral
unfoldable pub read_sign : Bool → Bool → Reader ℤ
read_sign any ok = read_either (k.Minus ∷ [])
    (read_mapped (λ p. neg_ℤ (pos p.1.0)) (read_both (read_word k.Minus) (read_last any ok)))
    (read_mapped (λ n. pos n.0) (read_last any ok))

-- .. sign
unfoldable pub read_up_to : Bool → Bool → Reader ℤ
read_up_to any ok = read_mapped (λ p. p.1) (read_both (read_word k.DotDot) (read_sign any ok))

-- the interval that a numeral begins
abbrev pub interval_of : (ℕ × Span) × ℤ → Expr
interval_of p = e.Pick (choice.Between (pos p.0.0) p.1)

-- numeral .. sign
unfoldable pub read_interval_expr : Bool → Bool → Reader Expr
read_interval_expr any ok = read_mapped interval_of
    (read_both (read_limited any) (read_up_to any ok))

-- numeral
unfoldable pub read_single : Bool → Bool → Reader Expr
read_single any ok = read_mapped number_expr (read_last any ok)

-- numeral | numeral .. sign
unfoldable pub read_number : Bool → Bool → Reader Expr
read_number any ok ts = if followed_by k.DotDot ts then read_interval_expr any ok ts else
    read_single any ok ts

-- numeral .. sign, after a `-`
unfoldable pub read_negative_interval : Bool → Bool → Reader Expr
read_negative_interval any ok = read_mapped negative_interval_of
    (read_both (read_limited any) (read_up_to any ok))

-- . id
unfoldable pub read_dotted : Reader Bytes
read_dotted = read_mapped (λ p. p.1.0) (read_both (read_word k.Dot) read_name)

-- { . id }
unfoldable pub read_dotted_names : Reader (List Bytes)
read_dotted_names = read_many (k.Dot ∷ []) read_dotted

-- the name with which a tree ends that fits, or does not
unfoldable pub read_first_name : Bool → Reader (Bytes × Span)
read_first_name ok = read_allowed ok Deep (k.Name ∷ []) read_name

-- id { . id }
unfoldable pub read_path : Bool → Reader Expr
read_path ok = read_mapped path_of (read_both (read_first_name ok) read_dotted_names)

-- ---- expressions. `w` reads whole expressions, `n` what may follow `!`, `u` what may follow a `-` that negates.

module _ (w n u : Limit → Reader Expr) where
  -- ( expr )
  unfoldable pub read_parens : Limit → Reader Expr
  read_parens limit = read_mapped (λ p. p.1.0)
      (read_both (read_word k.OpenParen)
      (read_dep (w (fresh_limit limit)) (λ a. read_close (fits limit (height a)) k.CloseParen)))

  -- next ( expr )
  unfoldable pub read_next_value : Limit → Reader Expr
  read_next_value limit = read_mapped (λ p. e.Next p.1)
      (read_both (read_word k.Next) (read_parens (inside limit)))

  -- , expr
  unfoldable pub read_listed : Limit → Reader Expr
  read_listed limit = read_mapped (λ p. p.1) (read_both (read_word k.Comma) (w (fresh_limit limit)))

  -- { , expr }
  unfoldable pub read_more_listed : Limit → Reader (List Expr)
  read_more_listed limit = read_many (k.Comma ∷ []) (read_listed limit)

  -- { expr { , expr } }
  unfoldable pub read_braces : Limit → Reader Choice
  read_braces limit = read_mapped (λ p. choice.Each (p.1.0.0 ∷ p.1.0.1))
      (read_both (read_word k.OpenBrace)
      (read_dep (read_both (w (fresh_limit limit)) (read_more_listed limit))
      (λ parts. read_close (fits limit (choice_height (choice.Each (parts.0 ∷ parts.1))))
      k.CloseBrace)))

  -- sign .. sign
  unfoldable pub read_interval : Limit → Reader Choice
  read_interval limit = read_mapped (λ p. choice.Between p.0 p.1)
      (read_both (read_sign (any_number limit) true) (read_up_to (any_number limit) (fits limit 0)))

  -- a choice after `in`
  unfoldable pub read_choice : Limit → Reader Choice
  read_choice limit = read_either (k.OpenBrace ∷ []) (read_braces limit) (read_interval limit)

  -- expr : expr ;
  unfoldable pub read_branch : Limit → Reader Branch
  read_branch limit = read_mapped branch_of
      (read_both (w (fresh_limit limit))
      (read_both (read_word k.Colon) (read_both (w (fresh_limit limit)) (read_word k.Semicolon))))

  -- { branch }
  unfoldable pub read_branches : Limit → Reader (List Branch)
  read_branches limit = read_many first_expr (read_branch limit)

  -- case branch { branch } esac
  unfoldable pub read_cases : Limit → Reader Expr
  read_cases limit = read_mapped cases_of
      (read_both (read_word k.Case)
      (read_dep (read_branch limit)
      (λ first. read_dep (read_branches limit)
      (λ more. read_close (fits limit (height (e.Cases (first ∷ more)))) k.Esac))))

  -- what begins with no sign and no digit
  unfoldable pub read_primary : Limit → Reader Expr
  read_primary limit =
      read_either (k.True ∷ []) (read_mapped (λ at. e.True) (read_close (fits limit 1) k.True)) (
      read_either (k.False ∷ []) (read_mapped (λ at. e.False) (read_close (fits limit 1) k.False)) (
      read_either (k.Name ∷ []) (read_path (fits limit 1)) (
      read_either (k.OpenParen ∷ []) (read_parens limit) (
      read_either (k.OpenBrace ∷ []) (read_mapped e.Pick (read_braces (inside limit))) (
      read_either (k.Next ∷ []) (read_next_value limit) (read_cases limit))))))

  -- what may follow a `-`: numeral .. sign | unary
  unfoldable pub read_negated : Limit → Reader Expr
  read_negated limit ts = if begins number_kinds ts
      && followed_by k.DotDot ts then read_negative_interval (any_number limit) (fits limit 1) ts
      else read_mapped e.Neg (u (inside limit)) ts

  -- - numeral .. sign | - unary
  unfoldable pub read_minus : Limit → Reader Expr
  read_minus limit = read_mapped (λ p. p.1) (read_both (read_word k.Minus) (read_negated limit))

  -- what begins with no digit
  unfoldable pub read_signed : Limit → Reader Expr
  read_signed limit = read_either (k.Minus ∷ []) (read_minus limit) (read_primary limit)

  -- what may stand between the operators of products
  unfoldable pub read_unary : Limit → Reader Expr
  read_unary limit = read_either number_kinds (read_number (any_number limit) (fits limit 1))
      (read_signed limit)

  -- what may follow a `-` that negates: a numeral begins no interval there
  unfoldable pub read_negatable : Limit → Reader Expr
  read_negatable limit = read_either number_kinds (read_single (any_number limit) (fits limit 1))
      (read_signed limit)

  -- ! not
  unfoldable pub read_negation : Limit → Reader Expr
  read_negation limit = read_mapped (λ p. e.Not p.1)
      (read_both (read_word k.Not) (n (inside limit)))

  -- an operand that begins with `!`
  unfoldable pub read_closed : Limit → Reader Operand
  read_closed limit = read_mapped closed_operand (read_negation limit)

  -- an operand after an operator, which may begin with `!`
  abbrev pub read_right_of : Reader Operand → Limit → Reader Operand
  read_right_of p limit = read_either (k.Not ∷ []) (read_closed limit) p

  -- an operand of a product
  unfoldable pub read_operand : Limit → Reader Operand
  read_operand limit = read_mapped open_operand (read_unary limit)

  -- ( * | mod ) unary
  unfoldable pub read_term_item : Limit → Reader (Op × Operand)
  read_term_item limit = read_both (read_one_of term_operators)
      (read_right_of (read_operand limit) limit)

  -- { ( * | mod ) unary }, after a first operand
  unfoldable pub read_more_term : Limit → Operand → Reader Operand
  read_more_term limit a = read_more (kinds_of term_operators) is_closed
      (λ b. read_term_item (beside (height b.0) limit)) joined_operand a

  -- a product
  unfoldable pub read_term : Limit → Reader Operand
  read_term limit ts = and_then (read_operand limit ts) (read_more_term limit)

  -- ( + | - ) term
  unfoldable pub read_sum_item : Limit → Reader (Op × Operand)
  read_sum_item limit = read_both (read_one_of sum_operators)
      (read_right_of (read_term limit) limit)

  -- { ( + | - ) term }, after a first operand
  unfoldable pub read_more_sum : Limit → Operand → Reader Operand
  read_more_sum limit a = read_more (kinds_of sum_operators) is_closed
      (λ b. read_sum_item (beside (height b.0) limit)) joined_operand a

  -- a sum
  unfoldable pub read_sum : Limit → Reader Operand
  read_sum limit ts = and_then (read_term limit ts) (read_more_sum limit)

  -- in choice
  unfoldable pub read_in_choice : Limit → Reader Choice
  read_in_choice limit = read_mapped (λ p. p.1) (read_both (read_word k.In) (read_choice limit))

  -- { in choice }, after a first operand
  unfoldable pub read_more_within : Limit → Operand → Reader Operand
  read_more_within limit a = read_more (k.In ∷ []) is_closed
      (λ b. read_in_choice (beside (height b.0) limit)) within_operand a

  -- what may stand between comparisons
  unfoldable pub read_within : Limit → Reader Operand
  read_within limit ts = and_then (read_sum limit ts) (read_more_within limit)

  -- a comparison and its right operand
  unfoldable pub read_comparison_item : Limit → Reader (Op × Operand)
  read_comparison_item limit = read_both (read_one_of comparisons)
      (read_right_of (read_within limit) limit)

  -- comparisons after a first operand
  unfoldable pub read_more_comparison : Limit → Operand → Reader Operand
  read_more_comparison limit a = read_more (kinds_of comparisons) is_closed
      (λ b. read_comparison_item (beside (height b.0) limit)) joined_operand a

  -- a row of comparisons
  unfoldable pub read_comparison : Limit → Reader Operand
  read_comparison limit ts = and_then (read_within limit ts) (read_more_comparison limit)

  -- ! not | comparison
  unfoldable pub read_not_level : Limit → Reader Expr
  read_not_level limit = read_either (k.Not ∷ []) (read_negation limit)
      (read_mapped (λ p. p.0) (read_comparison limit))

  -- & not
  unfoldable pub read_and_item : Limit → Reader (Op × Expr)
  read_and_item limit = read_both (read_one_of and_operators) (read_not_level limit)

  -- { & not }, after a first operand
  unfoldable pub read_more_and : Limit → Expr → Reader Expr
  read_more_and limit a = read_more (kinds_of and_operators) never_ends
      (λ b. read_and_item (beside (height b) limit)) joined a

  -- a conjunction
  unfoldable pub read_and_level : Limit → Reader Expr
  read_and_level limit ts = and_then (read_not_level limit ts) (read_more_and limit)

  -- ( `|` | xor | xnor ) and
  unfoldable pub read_or_item : Limit → Reader (Op × Expr)
  read_or_item limit = read_both (read_one_of or_operators) (read_and_level limit)

  -- { ( `|` | xor | xnor ) and }, after a first operand
  unfoldable pub read_more_or : Limit → Expr → Reader Expr
  read_more_or limit a = read_more (kinds_of or_operators) never_ends
      (λ b. read_or_item (beside (height b) limit)) joined a

  -- a disjunction
  unfoldable pub read_or_level : Limit → Reader Expr
  read_or_level limit ts = and_then (read_and_level limit ts) (read_more_or limit)

  -- <-> or
  unfoldable pub read_iff_item : Limit → Reader (Op × Expr)
  read_iff_item limit = read_both (read_one_of iff_operators) (read_or_level limit)

  -- { <-> or }, after a first operand
  unfoldable pub read_more_iff : Limit → Expr → Reader Expr
  read_more_iff limit a = read_more (kinds_of iff_operators) never_ends
      (λ b. read_iff_item (beside (height b) limit)) joined a

  -- an equivalence
  unfoldable pub read_iff_level : Limit → Reader Expr
  read_iff_level limit ts = and_then (read_or_level limit ts) (read_more_iff limit)

  -- -> expr
  unfoldable pub read_conclusion : Limit → Reader Expr
  read_conclusion limit = read_mapped (λ p. p.1) (read_both (read_word k.Implies) (w limit))

  -- iff [ -> expr ]
  unfoldable pub read_whole : Limit → Reader Expr
  read_whole limit = read_mapped (λ p. implied p.0 p.1)
      (read_dep (read_iff_level limit)
      (λ a. read_opt (k.Implies ∷ []) (read_conclusion (beside (height a) limit))))

-- with fewer constructs open at any point than the number
unfoldable mutual
  -- a whole expression
  pub read_expr : ℕ → Limit → Reader Expr
  read_expr zero limit ts = read_too_deep (any_number limit) first_expr ts
  read_expr (suc m) limit ts = read_whole (read_expr m) (read_not m) (read_signed_expr m) limit ts

  -- what may follow a `!`
  pub read_not : ℕ → Limit → Reader Expr
  read_not zero limit ts = read_too_deep (any_number limit) first_expr ts
  read_not (suc m) limit ts = read_not_level (read_expr m) (read_not m) (read_signed_expr m) limit
      ts

  -- what may follow a `-` that negates
  pub read_signed_expr : ℕ → Limit → Reader Expr
  read_signed_expr zero limit ts = read_too_deep (any_number limit) first_unary ts
  read_signed_expr (suc m) limit ts = read_negatable (read_expr m) (read_not m) (read_signed_expr m)
      limit ts

-- an expression of a whole text, in which a thousand constructs may be open
abbrev pub read_whole_expr : Limit → Reader Expr
read_whole_expr = read_expr nesting_bound
