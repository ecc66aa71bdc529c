-- The grammar of models, over the language W of their expressions. Each value is the tree that a list of tokens stands for,
-- with its spans: an item's is that of its first token.
use Rattle.std.specs.Prelude.{◌≡◌, ℕ, ℤ, Bool, false, List, [], ◌∷◌, ◌++◌, fold, codes}
use Rattle.smv_ast.specs.declared.syntax.Span.{Span}
use Rattle.smv_ast.specs.declared.syntax.Expr.{Expr}
use Rattle.smv_ast.specs.declared.syntax.SmvType.{SmvType}
use Rattle.smv_ast.specs.declared.syntax.SmvType.TheVariants as type
use Rattle.smv_ast.specs.declared.program.Declared.{Declared}
use Rattle.smv_ast.specs.declared.program.Declared.TheVariants as declared
use Rattle.smv_ast.specs.declared.program.Declaration.{Declaration}
use Rattle.smv_ast.specs.declared.program.Left.{Left}
use Rattle.smv_ast.specs.declared.program.Left.TheVariants as left
use Rattle.smv_ast.specs.declared.program.Assignment.{Assignment}
use Rattle.smv_ast.specs.declared.program.Definition.{Definition}
use Rattle.smv_ast.specs.declared.program.Section.{Section}
use Rattle.smv_ast.specs.declared.program.Section.TheVariants as section
use Rattle.smv_ast.specs.declared.program.Skipped.{Skipped}
use Rattle.smv_expr.specs.declared.kind.Kind.{Kind}
use Rattle.smv_expr.specs.declared.kind.Kind.TheVariants as k
use Rattle.smv_expr.specs.Lexicon.{Bytes}
use Rattle.smv_expr.specs.Language.{Lang, Tokens, word, name, both, many, opt, either, mapped, nothing, has}
use Rattle.smv_expr.specs.Names.{names}
use Rattle.smv_expr.specs.ExprGrammar.{sign, up_to, expr}
use Rattle.smv_parse.specs.declared.names.LeftSide.{LeftSide}
use Rattle.smv_parse.specs.declared.sections.Part.{Part}
use Rattle.smv_parse.specs.declared.sections.Part.TheVariants as part
use Rattle.smv_parse.specs.declared.sections.Parts.{Parts}
use Rattle.smv_parse.specs.declared.program.ModuleReading.{ModuleReading}
use Rattle.smv_parse.specs.declared.program.Reading.{Reading}

-- ---- lists

-- ( [ id { , id } ] )
abbrev pub formals : Lang (List Bytes)
formals = mapped (λ p. p.1.0)
    (both (word k.OpenParen) (both (either names (nothing [])) (word k.CloseParen)))

-- ---- types

-- , sign
abbrev pub next_sign : Bool → ℤ → Tokens → Type 0
next_sign any = mapped (λ p. p.1) (both (word k.Comma) (sign any))

-- sign { , sign }
abbrev pub numbers : Bool → SmvType → Tokens → Type 0
numbers any = mapped (λ p. type.Numbers (p.0 ∷ p.1)) (both (sign any) (many (next_sign any)))

-- id { , id }
abbrev pub symbols : Lang SmvType
symbols = mapped type.Symbols names

-- { sign { , sign } } | { id { , id } }
abbrev pub enumeration : Bool → SmvType → Tokens → Type 0
enumeration any = mapped (λ p. p.1.0)
    (both (word k.OpenBrace) (both (either (numbers any) symbols) (word k.CloseBrace)))

-- sign .. sign
abbrev pub range : Bool → SmvType → Tokens → Type 0
range any = mapped (λ p. type.Range p.0 p.1) (both (sign any) (up_to any))

-- boolean | { .. } | sign .. sign
abbrev pub smv_type : Bool → SmvType → Tokens → Type 0
smv_type any = either (mapped (λ at. type.Boolean) (word k.Boolean)) (either (enumeration any) (range any))

-- ---- left sides

-- ( id )
abbrev pub name_in_parens : Lang Bytes
name_in_parens = mapped (λ p. p.1.0.0) (both (word k.OpenParen) (both name (word k.CloseParen)))

-- the tree of a left side, which stands at its first word
abbrev pub side_of : Left → Span × Bytes → LeftSide
side_of of p = record { left = of; name = p.1; at = p.0 }

-- the tree of a left side that is a name alone
abbrev pub current_side_of : Bytes × Span → LeftSide
current_side_of n = record { left = left.Now; name = n.0; at = n.1 }

-- init ( id ) | next ( id ) | id
abbrev pub left_side : Lang LeftSide
left_side = either (mapped (side_of left.Init) (both (word k.Init) name_in_parens)) (
    either (mapped (side_of left.Next) (both (word k.Next) name_in_parens))
    (mapped current_side_of name))

-- ---- skipped text

-- the words that end skipped text: those of sections and of skipped sections, and those that begin or end greater parts
abbrev pub skip_ends : List Kind
skip_ends =
    k.Var ∷ k.Assign ∷ k.Define ∷ k.InitSection ∷ k.InvarSection ∷ k.TransSection ∷ k.InvarSpec
    ∷ k.Spec ∷ k.CtlSpec ∷ k.LtlSpec ∷ k.Fairness ∷ k.Justice ∷ k.Compassion
    ∷ k.Module ∷ k.Feature ∷ k.Require ∷ k.Introduce ∷ k.Change ∷ k.End ∷ []

-- any tokens but these words
abbrev pub skipped_text : Lang (Unit {0})
skipped_text u [] = Unit {0}
skipped_text u (t ∷ ts) = (has skip_ends t.kind ≡ false) × skipped_text u ts

-- a skipped section by its word
abbrev pub skipped_as : Bytes → Span → Skipped
skipped_as text at = record { word = text; at = at }

-- SPEC | CTLSPEC | LTLSPEC | FAIRNESS | JUSTICE | COMPASSION
abbrev pub skip_word : Lang Skipped
skip_word =
    either (mapped (skipped_as (codes "SPEC")) (word k.Spec)) (
    either (mapped (skipped_as (codes "CTLSPEC")) (word k.CtlSpec)) (
    either (mapped (skipped_as (codes "LTLSPEC")) (word k.LtlSpec)) (
    either (mapped (skipped_as (codes "FAIRNESS")) (word k.Fairness)) (
    either (mapped (skipped_as (codes "JUSTICE")) (word k.Justice)) (mapped (skipped_as (codes "COMPASSION")) (word k.Compassion))))))

-- a skipped section, which stands at its word
abbrev pub skipped : Lang Skipped
skipped = mapped (λ p. p.0) (both skip_word skipped_text)

-- ---- the trees of the parts

-- the tree of an instance
abbrev pub instance_of : (Bytes × Span) × List Expr → Declared
instance_of p = declared.Instance p.0.0 p.1

-- the tree of a declaration, which stands at its name
abbrev pub declaration_of : (Bytes × Span) × (Span × (Declared × Span)) → Declaration
declaration_of p = record { name = p.0.0; what = p.1.1.0; at = p.0.1 }

-- the tree of an assignment, which stands at its left side
abbrev pub assignment_of : LeftSide × (Span × (Expr × Span)) → Assignment
assignment_of p = record { left = p.0.left; name = p.0.name; right = p.1.1.0; at = p.0.at }

-- the tree of a definition, which stands at its name
abbrev pub definition_of : (Bytes × Span) × (Span × (Expr × Span)) → Definition
definition_of p = record { name = p.0.0; right = p.1.1.0; at = p.0.1 }

-- no sections at all
abbrev pub no_parts : Parts
no_parts = record { sections = []; skipped = [] }

-- one more section, or one more that is skipped
abbrev pub with_part : Parts → Part → Parts
with_part parts (part.Section s) = record parts { sections = parts.sections ++ s ∷ [] }
with_part parts (part.Skipped s) = record parts { skipped = parts.skipped ++ s ∷ [] }

-- the sections in their order, and those that are skipped in theirs
abbrev pub parts_of : List Part → Parts
parts_of = fold with_part no_parts

-- the tree of a module, which stands at its word MODULE
abbrev pub module_of : Span × ((Bytes × Span) × (List Bytes × Parts)) → ModuleReading
module_of p = record {
  «module» = record { name = p.1.0.0; formals = p.1.1.0; sections = p.1.1.1.sections; at = p.0 };
  skipped = p.1.1.1.skipped;
}

-- a model of one module
abbrev pub single_module : ModuleReading → Reading
single_module m = record { program = record { modules = m.«module» ∷ [] }; skipped = m.skipped }

-- the model with one more module after the others
abbrev pub with_module : Reading → ModuleReading → Reading
with_module r m = record {
  program = record { modules = r.program.modules ++ m.«module» ∷ [] };
  skipped = r.skipped ++ m.skipped;
}

-- ---- sections. W stands for expressions.

module _ (any : Bool) (W : Expr → Tokens → Type 0) where
  -- , expr
  abbrev pub next_expr : Lang Expr
  next_expr = mapped (λ p. p.1) (both (word k.Comma) W)

  -- expr { , expr }
  abbrev pub exprs : Lang (List Expr)
  exprs = mapped (λ p. p.0 ∷ p.1) (both W (many next_expr))

  -- ( [ expr { , expr } ] )
  abbrev pub actuals : Lang (List Expr)
  actuals = mapped (λ p. p.1.0)
      (both (word k.OpenParen) (both (either exprs (nothing [])) (word k.CloseParen)))

  -- id [ ( [ expr { , expr } ] ) ]
  abbrev pub instance : Lang Declared
  instance = mapped instance_of (both name (either actuals (nothing [])))

  -- type | instance
  abbrev pub declared_as : Lang Declared
  declared_as = either (mapped declared.Plain (smv_type any)) instance

  -- id : ( type | instance ) ;
  abbrev pub declaration : Lang Declaration
  declaration = mapped declaration_of
      (both name (both (word k.Colon) (both declared_as (word k.Semicolon))))

  -- left side := expr ;
  abbrev pub assignment : Lang Assignment
  assignment = mapped assignment_of
      (both left_side (both (word k.Becomes) (both W (word k.Semicolon))))

  -- id := expr ;
  abbrev pub definition : Lang Definition
  definition = mapped definition_of (both name (both (word k.Becomes) (both W (word k.Semicolon))))

  -- a word, then expr [ ; ]
  abbrev pub constraint : Kind → Span × Expr → Tokens → Type 0
  constraint kind = mapped (λ p. (p.0, p.1.0)) (both (word kind) (both W (opt (word k.Semicolon))))

  -- VAR { declaration } | ASSIGN { assignment } | DEFINE { definition } | ( INIT | INVAR | TRANS | INVARSPEC ) expr [ ; ]
  abbrev pub one_section : Lang Section
  one_section =
      either (mapped (λ p. section.Vars p.1) (both (word k.Var) (many declaration))) (
      either (mapped (λ p. section.Assigns p.1) (both (word k.Assign) (many assignment))) (
      either (mapped (λ p. section.Defines p.1) (both (word k.Define) (many definition))) (
      either (mapped (λ p. section.Init p.1 p.0) (constraint k.InitSection)) (
      either (mapped (λ p. section.Invar p.1 p.0) (constraint k.InvarSection)) (
      either (mapped (λ p. section.Trans p.1 p.0) (constraint k.TransSection))
      (mapped (λ p. section.InvarSpec p.1 p.0) (constraint k.InvarSpec)))))))

  -- a section, or one that is skipped
  abbrev pub one_part : Lang Part
  one_part = either (mapped part.Section one_section) (mapped part.Skipped skipped)

  -- { section }
  abbrev pub all_parts : Lang Parts
  all_parts = mapped parts_of (many one_part)

  -- MODULE id [ ( [ id { , id } ] ) ] { section }
  abbrev pub one_module : Lang ModuleReading
  one_module = mapped module_of
      (both (word k.Module) (both name (both (either formals (nothing [])) all_parts)))

  -- module { module }
  abbrev pub program_of : Lang Reading
  program_of = mapped (λ p. fold with_module p.0 p.1)
      (both (mapped single_module one_module) (many one_module))

-- a model with fewer constructs open at any point of an expression than the number
abbrev pub program : Bool → ℕ → Reading → Tokens → Type 0
program any m = program_of any (expr any m)
