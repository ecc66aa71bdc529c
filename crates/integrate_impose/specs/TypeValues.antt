-- The values of a type, as a choice in a right side.
use Rattle.std.specs.Prelude.{ℕ, ◌+◌, ◌-◌, ◌^◌, min, ℤ, pos, negsuc, List, [], ◌∷◌, map}
use Rattle.smv_ast.specs.declared.syntax.Span.{Span}
use Rattle.smv_ast.specs.declared.syntax.SmvType.{SmvType}
use Rattle.smv_ast.specs.declared.syntax.SmvType.TheVariants as type
use Rattle.smv_ast.specs.declared.syntax.Expr.{Expr}
use Rattle.smv_ast.specs.declared.syntax.Expr.TheVariants as expr
use Rattle.smv_ast.specs.declared.syntax.Choice.{Choice}
use Rattle.smv_ast.specs.declared.syntax.Choice.TheVariants as choice

-- a number of a type as an expression; a number beyond `u32`, which no model has, is cut to its end
abbrev pub number : ℤ → Expr
number (pos n) = expr.Number (min n (2 ^ 32 - 1))
number (negsuc n) = expr.Neg (expr.Number (min (n + 1) (2 ^ 32 - 1)))

-- a symbol of a type as an expression
abbrev pub symbol : Span → List ℕ → Expr
symbol at name = expr.Name (record { names = name ∷ []; at = at })

-- `FALSE, TRUE`
abbrev pub truth_values : List Expr
truth_values = expr.False ∷ expr.True ∷ []

-- the set of all values of a type: `{FALSE, TRUE}`, the list in braces, or `low..high`
abbrev pub all_values : Span → SmvType → Choice
all_values at type.Boolean = choice.Each truth_values
all_values at (type.Range low high) = choice.Between low high
all_values at (type.Numbers numbers) = choice.Each (map number numbers)
all_values at (type.Symbols names) = choice.Each (map (symbol at) names)
