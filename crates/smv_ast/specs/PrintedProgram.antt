-- The canonical text of models: modules in their order, then their sections; each declaration,
-- assignment and definition has a line of its own.
use Rattle.std.specs.Prelude.{ℕ, List, [], ◌∷◌, ◌++◌, codes, map}
use Rattle.std.specs.Fmt.{signed_decimal}
use Rattle.smv_ast.specs.declared.syntax.SmvType.{SmvType}
use Rattle.smv_ast.specs.declared.syntax.SmvType.TheVariants.{Boolean, Range, Numbers, Symbols}
use Rattle.smv_ast.specs.declared.program.Declared.{Declared}
use Rattle.smv_ast.specs.declared.program.Declared.TheVariants.{Plain, Instance}
use Rattle.smv_ast.specs.declared.program.Declaration.{Declaration}
use Rattle.smv_ast.specs.declared.program.Left.{Left}
use Rattle.smv_ast.specs.declared.program.Left.TheVariants as left
use Rattle.smv_ast.specs.declared.program.Assignment.{Assignment}
use Rattle.smv_ast.specs.declared.program.Definition.{Definition}
use Rattle.smv_ast.specs.declared.program.Section.{Section}
use Rattle.smv_ast.specs.declared.program.Section.TheVariants as section
use Rattle.smv_ast.specs.declared.program.Module.{Module}
use Rattle.smv_ast.specs.declared.program.Program.{Program}
use Rattle.smv_ast.specs.PrintedExpr.{concatenated, listed, texts, piece_of, printed_expr}

-- ` (a, b)` after a name; nothing for an empty list
abbrev pub in_parentheses : List (List ℕ) → List ℕ
in_parentheses [] = []
in_parentheses (text ∷ more) = codes "(" ++ listed (text ∷ more) ++ codes ")"

-- `boolean`, `low..high`, `{a, b}`
abbrev pub printed_type : SmvType → List ℕ
printed_type Boolean = codes "boolean"
printed_type (Range low high) = signed_decimal low ++ codes ".." ++ signed_decimal high
printed_type (Numbers numbers) = codes "{" ++ listed (map signed_decimal numbers) ++ codes "}"
printed_type (Symbols names) = codes "{" ++ listed names ++ codes "}"

-- a type, or `module(a, b)`
abbrev pub printed_declared : Declared → List ℕ
printed_declared (Plain type) = printed_type type
printed_declared (Instance name actuals) = name ++ in_parentheses (texts (map piece_of actuals))

-- an item of a section: two spaces, its text, and a semicolon at the end of its line
abbrev pub item_line : List ℕ → List ℕ
item_line text = codes "  " ++ text ++ codes ";\n"

-- `x : 0..3;`
abbrev pub declaration_line : Declaration → List ℕ
declaration_line d = item_line (d.name ++ codes " : " ++ printed_declared d.what)

-- `init(x)`, `next(x)`, `x`
abbrev pub printed_left : Left → List ℕ → List ℕ
printed_left left.Init name = codes "init(" ++ name ++ codes ")"
printed_left left.Next name = codes "next(" ++ name ++ codes ")"
printed_left left.Now name = name

-- `init(x) := e;`
abbrev pub assignment_line : Assignment → List ℕ
assignment_line a = item_line (printed_left a.left a.name ++ codes " := " ++ printed_expr a.right)

-- `d := e;`
abbrev pub definition_line : Definition → List ℕ
definition_line d = item_line (d.name ++ codes " := " ++ printed_expr d.right)

-- a constraint: its word, its expression, and a semicolon at the end of its line
abbrev pub constraint_line : List ℕ → List ℕ → List ℕ
constraint_line word text = word ++ text ++ codes ";\n"

-- an empty section is its word alone
abbrev pub printed_section : Section → List ℕ
printed_section (section.Vars declarations) = codes "VAR\n" ++ concatenated (map declaration_line declarations)
printed_section (section.Assigns assignments) = codes "ASSIGN\n" ++ concatenated (map assignment_line assignments)
printed_section (section.Defines definitions) = codes "DEFINE\n" ++ concatenated (map definition_line definitions)
printed_section (section.Init e at) = constraint_line (codes "INIT ") (printed_expr e)
printed_section (section.Invar e at) = constraint_line (codes "INVAR ") (printed_expr e)
printed_section (section.Trans e at) = constraint_line (codes "TRANS ") (printed_expr e)
printed_section (section.InvarSpec e at) = constraint_line (codes "INVARSPEC ") (printed_expr e)

-- `MODULE m(a, b)`, and its sections in their order
abbrev pub printed_module : Module → List ℕ
printed_module m = codes "MODULE " ++ m.name ++ in_parentheses m.formals ++ codes "\n" ++ concatenated (map printed_section m.sections)

-- the canonical text of a model
abbrev pub printed_program : Program → List ℕ
printed_program p = concatenated (map printed_module p.modules)
