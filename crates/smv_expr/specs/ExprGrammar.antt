-- The grammar of expressions. Each value is the tree that a list of tokens stands for; a path has the span of its
-- first name.
use Rattle.std.specs.Prelude.{ℕ, zero, suc, Bool, true, false, ◌||◌, ℤ, pos, neg_ℤ, List, [], ◌∷◌, Option, Some, None, fold}
use Rattle.smv_ast.specs.declared.syntax.Span.{Span}
use Rattle.smv_ast.specs.declared.syntax.Op.{Op}
use Rattle.smv_ast.specs.declared.syntax.Op.TheVariants as op
use Rattle.smv_ast.specs.declared.syntax.Choice.{Choice}
use Rattle.smv_ast.specs.declared.syntax.Choice.TheVariants as choice
use Rattle.smv_ast.specs.declared.syntax.Expr.{Expr}
use Rattle.smv_ast.specs.declared.syntax.Expr.TheVariants as e
use Rattle.smv_ast.specs.declared.syntax.Branch.{Branch, roll-Branch}
use Rattle.smv_expr.specs.declared.kind.Kind.{Kind}
use Rattle.smv_expr.specs.declared.kind.Kind.TheVariants as k
use Rattle.smv_expr.specs.Lexicon.{Bytes}
use Rattle.smv_expr.specs.Language.{Lang, Tokens, word, name, digits, one_of, both, many, row, opt, either, mapped}

-- ---- operators, level by level

-- of products
abbrev pub term_operators : List (Kind × Op)
term_operators = (k.Star, op.Mul) ∷ (k.Mod, op.Mod) ∷ []

-- of sums
abbrev pub sum_operators : List (Kind × Op)
sum_operators = (k.Plus, op.Add) ∷ (k.Minus, op.Sub) ∷ []

-- of comparisons
abbrev pub comparisons : List (Kind × Op)
comparisons = (k.Equal, op.Eq) ∷ (k.NotEqual, op.Ne) ∷ (k.Less, op.Lt) ∷ (
  k.Greater,
  op.Gt,
) ∷ (k.LessEqual, op.Le) ∷ (k.GreaterEqual, op.Ge) ∷ []

-- of conjunctions
abbrev pub and_operators : List (Kind × Op)
and_operators = (k.And, op.And) ∷ []

-- of disjunctions, and of their kin
abbrev pub or_operators : List (Kind × Op)
or_operators = (k.Or, op.Or) ∷ (k.Xor, op.Xor) ∷ (k.Xnor, op.Xnor) ∷ []

-- of equivalences
abbrev pub iff_operators : List (Kind × Op)
iff_operators = (k.Iff, op.Iff) ∷ []

-- ---- the trees of the parts

-- an operator with its right operand
abbrev pub joined : Expr → Op × Expr → Expr
joined a b = e.Binary b.0 a b.1

-- An operand, and whether it ends in an operand that begins with `!`: no operator of the levels from the
-- comparisons down to the products follows one that does.
abbrev pub Operand : Type 0
Operand = Expr × Bool

-- the operand ends so
abbrev pub is_closed : Operand → Bool
is_closed a = a.1

-- an operand that does not end so
abbrev pub open_operand : Expr → Operand
open_operand a = (a, false)

-- an operand that begins with `!`
abbrev pub closed_operand : Expr → Operand
closed_operand a = (a, true)

-- the operand after the operator ends so
abbrev pub ends_closed : Op × Operand → Bool
ends_closed b = b.1.1

-- an operand, an operator and the operand after it
abbrev pub joined_operand : Operand → Op × Operand → Operand
joined_operand a b = (e.Binary b.0 a.0 b.1.0, a.1 || b.1.1)

-- no value ends its row
abbrev pub never_ends : {A : Type 0} → A → Bool
never_ends a = false

-- an operand, and the choice after its `in`
abbrev pub within_operand : Operand → Choice → Operand
within_operand a c = (e.Within a.0 c, a.1 || false)

-- a premise, and the conclusion where there is one
abbrev pub implied : Expr → Option Expr → Expr
implied a None = a
implied a (Some b) = e.Binary op.Implies a b

-- TRUE or FALSE
abbrev pub constant : Bool → Expr
constant true = e.True
constant false = e.False

-- the names of a path, which stands at the first of them
abbrev pub path_of : (Bytes × Span) × List Bytes → Expr
path_of p = e.Name (record { names = p.0.0 ∷ p.1; at = p.0.1 })

-- a numeral as an expression
abbrev pub number_expr : ℕ × Span → Expr
number_expr n = e.Number n.0

-- the tree of a branch
abbrev pub branch_of : Expr × (Span × (Expr × Span)) → Branch
branch_of p = roll-Branch (record { cond = p.0; value = p.1.1.0 })

-- the tree of a case
abbrev pub cases_of : Span × (Branch × (List Branch × Span)) → Expr
cases_of p = e.Cases (p.1.0 ∷ p.1.1.0)

-- a numeral, or an interval that begins with it
abbrev pub number_or_interval : ℕ → Option ℤ → Expr
number_or_interval n None = e.Number n
number_or_interval n (Some high) = e.Pick (choice.Between (pos n) high)

-- an interval that begins below zero, of the numeral after its `-` and of its upper end
abbrev pub negative_interval_of : (ℕ × Span) × ℤ → Expr
negative_interval_of p = e.Pick (choice.Between (neg_ℤ (pos p.0.0)) p.1)

-- ---- numbers and paths

-- [ - ] numeral
abbrev pub sign : Bool → ℤ → Tokens → Type 0
sign any = either (mapped (λ p. neg_ℤ (pos p.1.0)) (both (word k.Minus) (digits any)))
    (mapped (λ n. pos n.0) (digits any))

-- .. sign
abbrev pub up_to : Bool → ℤ → Tokens → Type 0
up_to any = mapped (λ p. p.1) (both (word k.DotDot) (sign any))

-- numeral | numeral .. sign
abbrev pub number : Bool → Expr → Tokens → Type 0
number any = mapped (λ p. number_or_interval p.0.0 p.1) (both (digits any) (opt (up_to any)))

-- with a `-` before it: numeral .. sign
abbrev pub negative_interval : Bool → Expr → Tokens → Type 0
negative_interval any = mapped negative_interval_of (both (digits any) (up_to any))

-- . id
abbrev pub dotted : Lang Bytes
dotted = mapped (λ p. p.1.0) (both (word k.Dot) name)

-- id { . id }
abbrev pub path : Lang Expr
path = mapped path_of (both name (many dotted))

-- ---- expressions. W stands for whole expressions, N for what may follow `!`, U for what may follow a `-` that negates.

module _ (any : Bool) (W N U : Expr → Tokens → Type 0) where
  -- ( expr )
  abbrev pub parens : Lang Expr
  parens = mapped (λ p. p.1.0) (both (word k.OpenParen) (both W (word k.CloseParen)))

  -- next ( expr )
  abbrev pub next_value : Lang Expr
  next_value = mapped (λ p. e.Next p.1) (both (word k.Next) parens)

  -- , expr
  abbrev pub listed : Lang Expr
  listed = mapped (λ p. p.1) (both (word k.Comma) W)

  -- { expr { , expr } }
  abbrev pub braces : Lang Choice
  braces = mapped (λ p. choice.Each (p.1.0.0 ∷ p.1.0.1))
      (both (word k.OpenBrace) (both (both W (many listed)) (word k.CloseBrace)))

  -- sign .. sign
  abbrev pub interval : Lang Choice
  interval = mapped (λ p. choice.Between p.0 p.1) (both (sign any) (up_to any))

  -- a choice after `in`
  abbrev pub some_choice : Lang Choice
  some_choice = either braces interval

  -- expr : expr ;
  abbrev pub branch : Lang Branch
  branch = mapped branch_of (both W (both (word k.Colon) (both W (word k.Semicolon))))

  -- case branch { branch } esac
  abbrev pub cases : Lang Expr
  cases = mapped cases_of (both (word k.Case) (both branch (both (many branch) (word k.Esac))))

  -- what begins with no sign and no digit
  abbrev pub primary : Lang Expr
  primary = either (mapped (λ at. e.True) (word k.True))
      (either (mapped (λ at. e.False) (word k.False)) (either path (
      either parens (either (mapped e.Pick braces) (either next_value cases)))))

  -- - numeral .. sign | - unary
  abbrev pub minus : Lang Expr
  minus = mapped (λ p. p.1) (both (word k.Minus) (either (negative_interval any) (mapped e.Neg U)))

  -- what begins with no digit
  abbrev pub minus_or_primary : Lang Expr
  minus_or_primary = either minus primary

  -- what may stand between the operators of products
  abbrev pub unary : Lang Expr
  unary = either (number any) minus_or_primary

  -- the same after a `-` that negates: a numeral begins no interval there
  abbrev pub negated : Lang Expr
  negated = either (mapped number_expr (digits any)) minus_or_primary

  -- ! not
  abbrev pub negation : Lang Expr
  negation = mapped (λ p. e.Not p.1) (both (word k.Not) N)

  -- a right operand, which may begin with `!`
  abbrev pub right_of : Lang Operand → Operand → Tokens → Type 0
  right_of L = either (mapped closed_operand negation) L

  -- unary { ( * | mod ) unary }, where an operand after an operator may begin with `!`
  abbrev pub term : Lang Operand
  term = row is_closed ends_closed joined_operand (mapped open_operand unary)
      (both (one_of term_operators) (right_of (mapped open_operand unary)))

  -- term { ( + | - ) term }, likewise
  abbrev pub sum : Lang Operand
  sum = row is_closed ends_closed joined_operand term (both (one_of sum_operators) (right_of term))

  -- in choice
  abbrev pub in_choice : Lang Choice
  in_choice = mapped (λ p. p.1) (both (word k.In) some_choice)

  -- sum { in choice }
  abbrev pub within : Lang Operand
  within = row is_closed never_ends within_operand sum in_choice

  -- within { ( = | != | < | > | <= | >= ) within }, likewise
  abbrev pub comparison : Lang Operand
  comparison = row is_closed ends_closed joined_operand within
      (both (one_of comparisons) (right_of within))

  -- ! not | comparison
  abbrev pub not_level : Lang Expr
  not_level = either negation (mapped (λ p. p.0) comparison)

  -- not { & not }
  abbrev pub and_level : Lang Expr
  and_level = mapped (λ v. fold joined v.0 v.1)
      (both not_level (many (both (one_of and_operators) not_level)))

  -- and { ( `|` | xor | xnor ) and }
  abbrev pub or_level : Lang Expr
  or_level = mapped (λ v. fold joined v.0 v.1)
      (both and_level (many (both (one_of or_operators) and_level)))

  -- or { <-> or }
  abbrev pub iff_level : Lang Expr
  iff_level = mapped (λ v. fold joined v.0 v.1)
      (both or_level (many (both (one_of iff_operators) or_level)))

  -- -> expr
  abbrev pub implied_expr : Lang Expr
  implied_expr = mapped (λ p. p.1) (both (word k.Implies) W)

  -- iff [ -> expr ]
  abbrev pub whole : Lang Expr
  whole = mapped (λ p. implied p.0 p.1) (both iff_level (opt implied_expr))

-- With fewer constructs open at any point than the number: `(`, `{`, `case`, `!`, `->`, and a `-` that negates.
abbrev mutual
  -- a whole expression
  pub expr : Bool → ℕ → Expr → Tokens → Type 0
  expr any zero a ts = ⊥
  expr any (suc m) a ts = whole any (expr any m) (not_expr any m) (signed_expr any m) a ts

  -- what may follow a `!`
  pub not_expr : Bool → ℕ → Expr → Tokens → Type 0
  not_expr any zero a ts = ⊥
  not_expr any (suc m) a ts = not_level any (expr any m) (not_expr any m) (signed_expr any m) a ts

  -- what may follow a `-` that negates
  pub signed_expr : Bool → ℕ → Expr → Tokens → Type 0
  signed_expr any zero a ts = ⊥
  signed_expr any (suc m) a ts = negated any (expr any m) (not_expr any m) (signed_expr any m) a ts
