-- The first values of introduced variables, as expressions. A variable stands at its first value in
-- each product without its feature.
use Rattle.std.specs.Prelude.{ℤ, List, [], ◌∷◌}
use Rattle.smv_ast.specs.declared.syntax.SmvType.{SmvType}
use Rattle.smv_ast.specs.declared.syntax.SmvType.TheVariants as type
use Rattle.smv_ast.specs.declared.syntax.Expr.{Expr}
use Rattle.smv_ast.specs.declared.syntax.Expr.TheVariants as expr
use Rattle.integrate_impose.specs.TypeValues.{number, symbol}
use Rattle.smv_meaning.specs.Value.{Name}
use Rattle.fsmv_lift.specs.LiftNames.{added_at}

-- the first of these numbers; FALSE where there is none, as no text declares such a type
abbrev pub first_number : List ℤ → Expr
first_number [] = expr.False
first_number (n ∷ more) = number n

-- the first of these symbols; FALSE where there is none, as no text declares such a type
abbrev pub first_symbol : List Name → Expr
first_symbol [] = expr.False
first_symbol (name ∷ more) = symbol added_at name

-- the first value of a type: `FALSE`, a symbol, a numeral, or `-n`
abbrev pub first_of : SmvType → Expr
first_of type.Boolean = expr.False
first_of (type.Range low high) = number low
first_of (type.Numbers numbers) = first_number numbers
first_of (type.Symbols names) = first_symbol names
