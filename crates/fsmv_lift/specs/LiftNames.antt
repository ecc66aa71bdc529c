-- The names that a lift adds to a model. A family declares none of them: names that begin with
-- `fsmv_` are reserved.
use Rattle.std.specs.Prelude.{List, [], ◌∷◌, codes}
use Rattle.smv_ast.specs.declared.syntax.Span.{Span}
use Rattle.smv_ast.specs.declared.syntax.Path.{Path}
use Rattle.smv_ast.specs.declared.syntax.Expr.{Expr}
use Rattle.smv_ast.specs.declared.syntax.Expr.TheVariants as expr
use Rattle.smv_meaning.specs.Value.{Name}

-- the module that has a variable for each feature
abbrev pub features_module : Name
features_module = codes "fsmv_features"

-- the instance of that module in `main`, and the formal under which other modules know it
abbrev pub features_instance : Name
features_instance = codes "fsmv_fm"

-- the span of all that a lift adds by itself: the start of the feature model's file
abbrev pub added_at : Span
added_at = record { file = 1; at = 0 }

-- the path `fsmv_fm`
abbrev pub features_path : Path
features_path = record { names = features_instance ∷ []; at = added_at }

-- `fsmv_fm`, as an expression
abbrev pub features_actual : Expr
features_actual = expr.Name features_path

-- a name of a module, as an expression that the lift adds
abbrev pub name : Name → Expr
name n = expr.Name (record { names = n ∷ []; at = added_at })

-- the path `fsmv_fm.F` of a feature's variable
abbrev pub feature_path : Name → Path
feature_path feature = record { names = features_instance ∷ feature ∷ []; at = added_at }

-- the guard of a feature: its variable
abbrev pub guard : Name → Expr
guard feature = expr.Name (feature_path feature)
