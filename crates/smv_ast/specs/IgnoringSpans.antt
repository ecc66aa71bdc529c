-- Trees ignoring spans: two trees are equal so if they differ in spans alone.
use Rattle.std.specs.Prelude.{◌≡◌, map}
use Rattle.smv_ast.specs.declared.syntax.Span.{Span}
use Rattle.smv_ast.specs.declared.syntax.Expr.{Expr, fold-Expr, roll-Expr, Expr-F}
use Rattle.smv_ast.specs.declared.syntax.Choice.{Choice, roll-Choice}
use Rattle.smv_ast.specs.declared.syntax.Branch.{Branch, roll-Branch}
use Rattle.smv_ast.specs.declared.program.Declared.{Declared}
use Rattle.smv_ast.specs.declared.program.Declared.TheVariants.{Plain, Instance}
use Rattle.smv_ast.specs.declared.program.Declaration.{Declaration}
use Rattle.smv_ast.specs.declared.program.Assignment.{Assignment}
use Rattle.smv_ast.specs.declared.program.Definition.{Definition}
use Rattle.smv_ast.specs.declared.program.Section.{Section}
use Rattle.smv_ast.specs.declared.program.Section.TheVariants as section
use Rattle.smv_ast.specs.declared.program.Module.{Module}
use Rattle.smv_ast.specs.declared.program.Program.{Program}

-- the span of every node without a span of its own
abbrev pub no_span : Span
no_span = record { file = 0; at = 0 }

-- a layer of an expression without its span: only a path has one
abbrev pub spanless_layer : Expr-F Choice Expr Branch → Expr-F Choice Expr Branch
spanless_layer (Expr-F.Name path) = Expr-F.Name (record path { at = no_span })
spanless_layer e = e

-- the expression without spans
abbrev pub spanless_expr : Expr → Expr
spanless_expr = fold-Expr Choice Expr Branch roll-Choice (λ e. roll-Expr (spanless_layer e))
    roll-Branch

-- a declared entity without spans
abbrev pub spanless_declared : Declared → Declared
spanless_declared (Plain type) = Plain type
spanless_declared (Instance name actuals) = Instance name (map spanless_expr actuals)

-- a declaration without spans
abbrev pub spanless_declaration : Declaration → Declaration
spanless_declaration d = record d { what = spanless_declared d.what; at = no_span }

-- an assignment without spans
abbrev pub spanless_assignment : Assignment → Assignment
spanless_assignment a = record a { right = spanless_expr a.right; at = no_span }

-- a definition without spans
abbrev pub spanless_definition : Definition → Definition
spanless_definition d = record d { right = spanless_expr d.right; at = no_span }

-- a section without spans
abbrev pub spanless_section : Section → Section
spanless_section (section.Vars declarations) = section.Vars (map spanless_declaration declarations)
spanless_section (section.Assigns assignments) = section.Assigns
    (map spanless_assignment assignments)
spanless_section (section.Defines definitions) = section.Defines
    (map spanless_definition definitions)
spanless_section (section.Init e at) = section.Init (spanless_expr e) no_span
spanless_section (section.Invar e at) = section.Invar (spanless_expr e) no_span
spanless_section (section.Trans e at) = section.Trans (spanless_expr e) no_span
spanless_section (section.InvarSpec e at) = section.InvarSpec (spanless_expr e) no_span

-- a module without spans
abbrev pub spanless_module : Module → Module
spanless_module m = record m { sections = map spanless_section m.sections; at = no_span }

-- the model without spans
abbrev pub spanless_program : Program → Program
spanless_program p = record p { modules = map spanless_module p.modules }

-- two expressions that differ in spans alone
abbrev pub SameExpr : Expr → Expr → Type 0
SameExpr a b = spanless_expr a ≡ spanless_expr b

-- two models that differ in spans alone
abbrev pub SameProgram : Program → Program → Type 0
SameProgram a b = spanless_program a ≡ spanless_program b
