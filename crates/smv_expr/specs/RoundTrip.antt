-- What is answered of the canonical text of an expression: the same tree again.
use Rattle.std.specs.Prelude.{◌≡◌, ℕ, suc, ◌≤◌, ℤ, Bool, true, false, ◌&&◌, nat_le, List, [], ◌∷◌, Result, Ok, Err}
use Rattle.std.specs.List.{list_all}
use Rattle.smv_ast.specs.declared.syntax.Expr.{Expr, fold-Expr, Expr-F}
use Rattle.smv_ast.specs.declared.syntax.Choice.{Choice, fold-Choice, Choice-F}
use Rattle.smv_ast.specs.declared.syntax.Branch.{Branch, fold-Branch, Branch-F}
use Rattle.smv_ast.specs.declared.fault.Fault.{Fault}
use Rattle.smv_ast.specs.declared.fault.Fault.TheVariants as fault
use Rattle.smv_ast.specs.IgnoringSpans.{SameExpr}
use Rattle.smv_expr.specs.declared.kind.Kind.TheVariants as k
use Rattle.smv_expr.specs.Lexicon.{Bytes, is_letter, is_name_part, words, find_word, same_kind, greatest_number, tokens}
use Rattle.smv_expr.specs.ExprGrammar.{expr}
use Rattle.smv_expr.specs.ExprAnswer.{is_low}
use Rattle.smv_expr.specs.Limits.{nesting_bound}

-- ---- which trees have a text that can be read

-- a letter and then name parts, and no reserved word
abbrev pub is_name : Bytes → Bool
is_name [] = false
is_name (b ∷ more) = (is_letter b && list_all is_name_part more)
    && same_kind (find_word words (b ∷ more)) k.Name

-- one name at least, and names alone
abbrev pub is_path : List Bytes → Bool
is_path [] = false
is_path (name ∷ more) = is_name name && list_all is_name more

-- a number for which a numeral may stand
abbrev pub is_small : ℕ → Bool
is_small n = nat_le n greatest_number

-- the same of a number with a sign
abbrev pub is_small_sign : ℤ → Bool
is_small_sign (ℤ.pos n) = is_small n
is_small_sign (ℤ.negsuc n) = is_small (suc n)

-- each part is printable
abbrev pub all_are : List Bool → Bool
all_are [] = true
all_are (one ∷ more) = one && all_are more

-- there is a part, and each is printable
abbrev pub some_are : List Bool → Bool
some_are [] = false
some_are (one ∷ more) = one && all_are more

-- of a set of values: some parts, or two ends
abbrev pub choice_layer : Choice-F Bool Bool Bool → Bool
choice_layer (Choice-F.Each parts) = some_are parts
choice_layer (Choice-F.Between low high) = is_small_sign low && is_small_sign high

-- of a branch: both parts
abbrev pub branch_layer : Branch-F Bool Bool Bool → Bool
branch_layer branch = branch.cond && branch.value

-- of an expression: its names, numbers and parts
abbrev pub expr_layer : Expr-F Bool Bool Bool → Bool
expr_layer Expr-F.True = true
expr_layer Expr-F.False = true
expr_layer (Expr-F.Number n) = is_small n
expr_layer (Expr-F.Name path) = is_path path.names
expr_layer (Expr-F.Neg a) = a
expr_layer (Expr-F.Not a) = a
expr_layer (Expr-F.Binary op a b) = a && b
expr_layer (Expr-F.Within a choice) = a && choice
expr_layer (Expr-F.Cases branches) = some_are branches
expr_layer (Expr-F.Next a) = a
expr_layer (Expr-F.Pick choice) = choice

-- whether names are names, numbers are within the limit, and paths, sets and cases have parts
abbrev pub is_printable : Expr → Bool
is_printable = fold-Expr Bool Bool Bool choice_layer expr_layer branch_layer

-- the same of a set of values
abbrev pub is_printable_choice : Choice → Bool
is_printable_choice = fold-Choice Bool Bool Bool choice_layer expr_layer branch_layer

-- the same of a branch
abbrev pub is_printable_branch : Branch → Bool
is_printable_branch = fold-Branch Bool Bool Bool choice_layer expr_layer branch_layer

-- an expression whose canonical text can be read
abbrev pub Printable : Expr → Type 0
Printable e = is_printable e ≡ true

-- ---- what is answered of its text

-- the bytes of the file are no text within the limits of nesting
abbrev pub IsTooDeep : ℕ → Bytes → Type 0
IsTooDeep file bytes = (m : ℕ) (a : Expr) → m ≤ nesting_bound → expr true m a (tokens file bytes)
    → is_low a ≡ true → ⊥

-- The tree is answered, ignoring spans; unless the text is not within the limits of nesting, or memory runs out.
abbrev pub IsRoundTrip : ℕ → Bytes → Expr → Result Expr Fault → Type 0
IsRoundTrip file bytes e (Ok a) = SameExpr a e
IsRoundTrip file bytes e (Err fault.NoMemory) = Unit {0}
IsRoundTrip file bytes e (Err (fault.TooNested at)) = IsTooDeep file bytes
IsRoundTrip file bytes e (Err _) = ⊥
