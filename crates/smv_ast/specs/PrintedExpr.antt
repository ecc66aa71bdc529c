-- The canonical text of expressions: compound operands stand in parentheses, and nothing else does.
use Rattle.std.specs.Prelude.{ℕ, Bool, true, false, if◌then◌else◌, List, [], ◌∷◌, ◌++◌, codes}
use Rattle.std.specs.Fmt.{decimal, signed_decimal}
use Rattle.smv_ast.specs.declared.syntax.Op.{Op}
use Rattle.smv_ast.specs.declared.syntax.Op.TheVariants as op
use Rattle.smv_ast.specs.declared.syntax.Expr.{Expr, fold-Expr, Expr-F}
use Rattle.smv_ast.specs.declared.syntax.Choice.{Choice, fold-Choice, Choice-F}
use Rattle.smv_ast.specs.declared.syntax.Branch.{Branch, fold-Branch, Branch-F}

-- ---- texts joined

-- each text with the separator before it
abbrev pub each_after : List ℕ → List (List ℕ) → List ℕ
each_after separator [] = []
each_after separator (text ∷ more) = separator ++ text ++ each_after separator more

-- the texts with the separator between them
abbrev pub joined : List ℕ → List (List ℕ) → List ℕ
joined separator [] = []
joined separator (text ∷ more) = text ++ each_after separator more

-- the texts one after another
abbrev pub concatenated : List (List ℕ) → List ℕ
concatenated [] = []
concatenated (text ∷ more) = text ++ concatenated more

-- `a, b, c`
abbrev pub listed : List (List ℕ) → List ℕ
listed = joined (codes ", ")

-- ---- expressions

-- the text of an expression, and whether it needs no parentheses as an operand
pub record Piece : Type 0 where
  pub text : List ℕ
  pub primary : Bool

-- TRUE, FALSE, numerals, paths, cases and `next(e)` need no parentheses
abbrev pub primary_piece : List ℕ → Piece
primary_piece text = record { text = text; primary = true }

-- every other operand stands in parentheses
abbrev pub compound_piece : List ℕ → Piece
compound_piece text = record { text = text; primary = false }

-- the text of an operand
abbrev pub operand : Piece → List ℕ
operand piece = if piece.primary then piece.text else codes "(" ++ piece.text ++ codes ")"

-- the texts of these pieces
abbrev pub texts : List Piece → List (List ℕ)
texts [] = []
texts (piece ∷ more) = piece.text ∷ texts more

-- an operator, with a space on each side
abbrev pub op_text : Op → List ℕ
op_text op.Add = codes " + "
op_text op.Sub = codes " - "
op_text op.Mul = codes " * "
op_text op.Mod = codes " mod "
op_text op.Eq = codes " = "
op_text op.Ne = codes " != "
op_text op.Lt = codes " < "
op_text op.Gt = codes " > "
op_text op.Le = codes " <= "
op_text op.Ge = codes " >= "
op_text op.And = codes " & "
op_text op.Or = codes " | "
op_text op.Xor = codes " xor "
op_text op.Xnor = codes " xnor "
op_text op.Iff = codes " <-> "
op_text op.Implies = codes " -> "

-- `{a, b}` or `low..high`, given the pieces of the parts
abbrev pub choice_layer : Choice-F (List ℕ) Piece (List ℕ) → List ℕ
choice_layer (Choice-F.Each parts) = codes "{" ++ listed (texts parts) ++ codes "}"
choice_layer (Choice-F.Between low high) = signed_decimal low ++ codes ".." ++ signed_decimal high

-- `cond : value; `, given the pieces of the parts
abbrev pub branch_layer : Branch-F (List ℕ) Piece (List ℕ) → List ℕ
branch_layer branch = branch.cond.text ++ codes " : " ++ branch.value.text ++ codes "; "

-- an expression, given the pieces of its parts
abbrev pub expr_layer : Expr-F (List ℕ) Piece (List ℕ) → Piece
expr_layer Expr-F.True = primary_piece (codes "TRUE")
expr_layer Expr-F.False = primary_piece (codes "FALSE")
expr_layer (Expr-F.Number n) = primary_piece (decimal n)
expr_layer (Expr-F.Name path) = primary_piece (joined (codes ".") path.names)
expr_layer (Expr-F.Neg a) = compound_piece (codes "-" ++ operand a)
expr_layer (Expr-F.Not a) = compound_piece (codes "!" ++ operand a)
expr_layer (Expr-F.Binary op a b) = compound_piece (operand a ++ op_text op ++ operand b)
expr_layer (Expr-F.Within a choice) = compound_piece (operand a ++ codes " in " ++ choice)
expr_layer (Expr-F.Cases branches) = primary_piece (codes "case " ++ concatenated branches ++ codes "esac")
expr_layer (Expr-F.Next a) = primary_piece (codes "next(" ++ a.text ++ codes ")")
expr_layer (Expr-F.Pick choice) = compound_piece choice

-- the piece of an expression, by recursion on its parts
abbrev pub piece_of : Expr → Piece
piece_of = fold-Expr (List ℕ) Piece (List ℕ) choice_layer expr_layer branch_layer

-- the canonical text of a set of values
abbrev pub printed_choice : Choice → List ℕ
printed_choice = fold-Choice (List ℕ) Piece (List ℕ) choice_layer expr_layer branch_layer

-- the canonical text of a branch
abbrev pub printed_branch : Branch → List ℕ
printed_branch = fold-Branch (List ℕ) Piece (List ℕ) choice_layer expr_layer branch_layer

-- the canonical text of an expression
abbrev pub printed_expr : Expr → List ℕ
printed_expr e = (piece_of e).text
