-- Short constructors of models of declarations. Each declaration and module has the span of its number.
use Rattle.std.specs.Prelude.{ℕ, List, [], ◌∷◌, codes}
use Rattle.smv_ast.specs.declared.syntax.Span.{Span}
use Rattle.smv_ast.specs.declared.syntax.Expr.{Expr}
use Rattle.smv_ast.specs.declared.syntax.SmvType.{SmvType}
use Rattle.smv_ast.specs.declared.program.Declared.TheVariants as declared
use Rattle.smv_ast.specs.declared.program.Section.{Section}
use Rattle.smv_ast.specs.declared.program.Section.TheVariants as section
use Rattle.smv_ast.specs.declared.program.Module.{Module}
use Rattle.smv_ast.specs.declared.program.Program.{Program}
use Rattle.smv_meaning.specs.Value.{Name}

-- the span of the item with this number
abbrev pub span : ℕ → Span
span n = record { file = 0; at = n }

-- a variable of this type
abbrev pub var : ℕ → Name → SmvType → Section
var n name type = section.Vars
    (record { name = name; what = declared.Plain type; at = span n } ∷ [])

-- an instance of a module with these actuals
abbrev pub instance : ℕ → Name → Name → List Expr → Section
instance n name called actuals = section.Vars
    (record { name = name; what = declared.Instance called actuals; at = span n } ∷ [])

abbrev pub module_of : ℕ → Name → List Name → List Section → Module
module_of n name formals sections = record
    { name = name; formals = formals; sections = sections; at = span n }

abbrev pub main_of : List Section → Module
main_of sections = module_of 0 (codes "main") [] sections

-- a model of one module
abbrev pub model : List Section → Program
model sections = record { modules = main_of sections ∷ [] }
