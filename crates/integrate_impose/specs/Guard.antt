-- Guarded values.
use Rattle.std.specs.Prelude.{[], ◌∷◌}
use Rattle.smv_ast.specs.declared.syntax.Expr.{Expr}
use Rattle.smv_ast.specs.declared.syntax.Expr.TheVariants as expr
use Rattle.smv_ast.specs.declared.syntax.Branch.{roll-Branch}

-- `case c : e; TRUE : old; esac`: the new value where the condition is true, else the old one
abbrev pub guarded : Expr → Expr → Expr → Expr
guarded cond value old = expr.Cases
    (roll-Branch (record { cond = cond; value = value }) ∷ roll-Branch
    (record { cond = expr.True; value = old }) ∷ [])
