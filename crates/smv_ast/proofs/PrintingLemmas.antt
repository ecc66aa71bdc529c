-- Texts in parentheses.
use Rattle.std.proofs.Common.{◌≡◌, ◌<◌, List, [], ◌∷◌, ◌++◌, codes, map, length, refl, arith}
use Rattle.smv_ast.specs.declared.syntax.Expr.{Expr}
use Rattle.smv_ast.specs.PrintedExpr.{listed, texts, piece_of}
use Rattle.smv_ast.specs.PrintedProgram.{in_parentheses}

pub some_actuals : (actuals : List Expr) → 0 < length actuals → in_parentheses (texts (map piece_of actuals)) ≡ codes "(" ++ listed (texts (map piece_of actuals)) ++ codes ")"
some_actuals [] some = absurd (omega arith)
some_actuals (actual ∷ more) some = refl
