-- The reader of each part of a model. Within the limit, an expression or a number that passes it stops the reader.
use Rattle.std.specs.Prelude.{ℤ, true, if◌then◌else◌, List, [], ◌∷◌, codes}
use Rattle.smv_ast.specs.declared.syntax.Span.{Span}
use Rattle.smv_ast.specs.declared.syntax.Expr.{Expr}
use Rattle.smv_ast.specs.declared.syntax.SmvType.{SmvType}
use Rattle.smv_ast.specs.declared.syntax.SmvType.TheVariants as type
use Rattle.smv_ast.specs.declared.program.Declared.{Declared}
use Rattle.smv_ast.specs.declared.program.Declared.TheVariants as declared
use Rattle.smv_ast.specs.declared.program.Declaration.{Declaration}
use Rattle.smv_ast.specs.declared.program.Left.TheVariants as left
use Rattle.smv_ast.specs.declared.program.Assignment.{Assignment}
use Rattle.smv_ast.specs.declared.program.Definition.{Definition}
use Rattle.smv_ast.specs.declared.program.Section.{Section}
use Rattle.smv_ast.specs.declared.program.Section.TheVariants as section
use Rattle.smv_ast.specs.declared.program.Skipped.{Skipped}
use Rattle.smv_expr.specs.declared.kind.Kind.{Kind}
use Rattle.smv_expr.specs.declared.kind.Kind.TheVariants as k
use Rattle.smv_expr.specs.Lexicon.{Bytes}
use Rattle.smv_expr.specs.Language.{Tokens, has, number_kinds}
use Rattle.smv_expr.specs.Reading.{Reader, and_then, read_word, read_name, read_both, read_mapped, read_either, read_nothing, read_opt, read_many, read_fold}
use Rattle.smv_expr.specs.Reading.Outcome.{Read}
use Rattle.smv_expr.specs.Names.{read_names}
use Rattle.smv_expr.specs.ExprReaders.{first_expr, read_sign, read_up_to}
use Rattle.smv_expr.specs.ExprReaders as exprs
use Rattle.smv_expr.specs.Limits.{Limit, any_number}
use Rattle.smv_expr.specs.Limits as limits
use Rattle.smv_parse.specs.declared.names.LeftSide.{LeftSide}
use Rattle.smv_parse.specs.declared.sections.Part.{Part}
use Rattle.smv_parse.specs.declared.sections.Part.TheVariants as part
use Rattle.smv_parse.specs.declared.sections.Parts.{Parts}
use Rattle.smv_parse.specs.declared.program.ModuleReading.{ModuleReading}
use Rattle.smv_parse.specs.declared.program.Reading.{Reading}
use Rattle.smv_parse.specs.Grammar.{side_of, current_side_of, skip_ends, skipped_as, instance_of, declaration_of, assignment_of, definition_of, no_parts, with_part, module_of, single_module, with_module}

-- ---- what the parts begin with

-- a number with its sign
abbrev pub first_sign : List Kind
first_sign = k.Minus ∷ number_kinds

-- a type
abbrev pub first_type : List Kind
first_type = k.Boolean ∷ k.OpenBrace ∷ first_sign

-- a left side
abbrev pub first_side : List Kind
first_side = k.Init ∷ k.Next ∷ k.Name ∷ []

-- a section
abbrev pub first_section : List Kind
first_section = k.Var ∷ k.Assign ∷ k.Define ∷ k.InitSection ∷ k.InvarSection ∷ k.TransSection ∷ k.InvarSpec ∷ []

-- a section that is skipped
abbrev pub first_skipped : List Kind
first_skipped = k.Spec ∷ k.CtlSpec ∷ k.LtlSpec ∷ k.Fairness ∷ k.Justice ∷ k.Compassion ∷ []

-- a section of either sort
abbrev pub first_part : List Kind
first_part =
    k.Var ∷ k.Assign ∷ k.Define ∷ k.InitSection ∷ k.InvarSection ∷ k.TransSection ∷ k.InvarSpec
    ∷ k.Spec ∷ k.CtlSpec ∷ k.LtlSpec ∷ k.Fairness ∷ k.Justice ∷ k.Compassion ∷ []

-- ---- names and left sides

-- [ id { , id } ]
unfoldable pub read_some_names : Reader (List Bytes)
read_some_names = read_either (k.Name ∷ []) read_names (read_nothing [])

-- ( [ id { , id } ] )
unfoldable pub read_formals : Reader (List Bytes)
read_formals = read_mapped (λ p. p.1.0)
    (read_both (read_word k.OpenParen) (read_both read_some_names (read_word k.CloseParen)))

-- [ ( [ id { , id } ] ) ]
unfoldable pub read_some_formals : Reader (List Bytes)
read_some_formals = read_either (k.OpenParen ∷ []) read_formals (read_nothing [])

-- ( id )
unfoldable pub read_name_in_parens : Reader Bytes
read_name_in_parens = read_mapped (λ p. p.1.0.0)
    (read_both (read_word k.OpenParen) (read_both read_name (read_word k.CloseParen)))

-- init ( id ) | next ( id ) | id
unfoldable pub read_left_side : Reader LeftSide
read_left_side =
    read_either (k.Init ∷ []) (read_mapped (side_of left.Init)
    (read_both (read_word k.Init) read_name_in_parens)) (
    read_either (k.Next ∷ []) (read_mapped (side_of left.Next)
    (read_both (read_word k.Next) read_name_in_parens)) (read_mapped current_side_of read_name))

-- ---- skipped text

-- what is left after skipped text: all from the first word on that ends it
abbrev pub after_skipped : Tokens → Tokens
after_skipped [] = []
after_skipped (t ∷ ts) = if has skip_ends t.kind then t ∷ ts else after_skipped ts

-- any tokens but the words that end it
unfoldable pub read_skipped_text : Reader (Unit {0})
read_skipped_text ts = Read (tt {0}) (after_skipped ts)

-- SPEC | CTLSPEC | LTLSPEC | FAIRNESS | JUSTICE | COMPASSION
unfoldable pub read_skip_word : Reader Skipped
read_skip_word =
    read_either (k.Spec ∷ []) (read_mapped (skipped_as (codes "SPEC")) (read_word k.Spec)) (
    read_either (k.CtlSpec ∷ []) (read_mapped (skipped_as (codes "CTLSPEC")) (read_word k.CtlSpec)) (
    read_either (k.LtlSpec ∷ []) (read_mapped (skipped_as (codes "LTLSPEC")) (read_word k.LtlSpec)) (
    read_either (k.Fairness ∷ []) (read_mapped (skipped_as (codes "FAIRNESS")) (read_word k.Fairness)) (
    read_either (k.Justice ∷ []) (read_mapped (skipped_as (codes "JUSTICE")) (read_word k.Justice)) (read_mapped (skipped_as (codes "COMPASSION")) (read_word k.Compassion))))))

-- a skipped section
unfoldable pub read_skipped : Reader Skipped
read_skipped = read_mapped (λ p. p.0) (read_both read_skip_word read_skipped_text)

-- ---- within a limit, or without

-- the limit within which models are read: that of all texts
abbrev pub the_limit : Limit
the_limit = limits.the_limit

module _ (limit : Limit) where
  -- , sign
  unfoldable pub read_next_sign : Reader ℤ
  read_next_sign = read_mapped (λ p. p.1)
      (read_both (read_word k.Comma) (read_sign (any_number limit) true))

  -- { , sign }
  unfoldable pub read_more_signs : Reader (List ℤ)
  read_more_signs = read_many (k.Comma ∷ []) read_next_sign

  -- sign { , sign }
  unfoldable pub read_numbers : Reader SmvType
  read_numbers = read_mapped (λ p. type.Numbers (p.0 ∷ p.1))
      (read_both (read_sign (any_number limit) true) read_more_signs)

  -- sign { , sign } | id { , id }
  unfoldable pub read_values : Reader SmvType
  read_values = read_either first_sign read_numbers (read_mapped type.Symbols read_names)

  -- { sign { , sign } } | { id { , id } }
  unfoldable pub read_enumeration : Reader SmvType
  read_enumeration = read_mapped (λ p. p.1.0)
      (read_both (read_word k.OpenBrace) (read_both read_values (read_word k.CloseBrace)))

  -- sign .. sign
  unfoldable pub read_range : Reader SmvType
  read_range = read_mapped (λ p. type.Range p.0 p.1)
      (read_both (read_sign (any_number limit) true) (read_up_to (any_number limit) true))

  -- boolean | { .. } | sign .. sign
  unfoldable pub read_smv_type : Reader SmvType
  read_smv_type = read_either (k.Boolean ∷ [])
      (read_mapped (λ at. type.Boolean) (read_word k.Boolean))
      (read_either (k.OpenBrace ∷ []) read_enumeration read_range)

  -- a whole expression
  abbrev pub read_whole_expr : Reader Expr
  read_whole_expr = exprs.read_whole_expr limit

  -- , expr
  unfoldable pub read_next_expr : Reader Expr
  read_next_expr = read_mapped (λ p. p.1) (read_both (read_word k.Comma) read_whole_expr)

  -- { , expr }
  unfoldable pub read_more_exprs : Reader (List Expr)
  read_more_exprs = read_many (k.Comma ∷ []) read_next_expr

  -- expr { , expr }
  unfoldable pub read_exprs : Reader (List Expr)
  read_exprs = read_mapped (λ p. p.0 ∷ p.1) (read_both read_whole_expr read_more_exprs)

  -- [ expr { , expr } ]
  unfoldable pub read_some_exprs : Reader (List Expr)
  read_some_exprs = read_either first_expr read_exprs (read_nothing [])

  -- ( [ expr { , expr } ] )
  unfoldable pub read_actuals : Reader (List Expr)
  read_actuals = read_mapped (λ p. p.1.0)
      (read_both (read_word k.OpenParen) (read_both read_some_exprs (read_word k.CloseParen)))

  -- [ ( [ expr { , expr } ] ) ]
  unfoldable pub read_some_actuals : Reader (List Expr)
  read_some_actuals = read_either (k.OpenParen ∷ []) read_actuals (read_nothing [])

  -- id [ ( [ expr { , expr } ] ) ]
  unfoldable pub read_instance : Reader Declared
  read_instance = read_mapped instance_of (read_both read_name read_some_actuals)

  -- type | instance
  unfoldable pub read_declared : Reader Declared
  read_declared = read_either first_type (read_mapped declared.Plain read_smv_type) read_instance

  -- id : ( type | instance ) ;
  unfoldable pub read_declaration : Reader Declaration
  read_declaration = read_mapped declaration_of
      (read_both read_name (read_both (read_word k.Colon)
      (read_both read_declared (read_word k.Semicolon))))

  -- { declaration }
  unfoldable pub read_declarations : Reader (List Declaration)
  read_declarations = read_many (k.Name ∷ []) read_declaration

  -- left side := expr ;
  unfoldable pub read_assignment : Reader Assignment
  read_assignment = read_mapped assignment_of
      (read_both read_left_side (read_both (read_word k.Becomes)
      (read_both read_whole_expr (read_word k.Semicolon))))

  -- { assignment }
  unfoldable pub read_assignments : Reader (List Assignment)
  read_assignments = read_many first_side read_assignment

  -- id := expr ;
  unfoldable pub read_definition : Reader Definition
  read_definition = read_mapped definition_of
      (read_both read_name (read_both (read_word k.Becomes)
      (read_both read_whole_expr (read_word k.Semicolon))))

  -- { definition }
  unfoldable pub read_definitions : Reader (List Definition)
  read_definitions = read_many (k.Name ∷ []) read_definition

  -- a word, then expr [ ; ]
  unfoldable pub read_constraint : Kind → Reader (Span × Expr)
  read_constraint kind = read_mapped (λ p. (p.0, p.1.0))
      (read_both (read_word kind)
      (read_both read_whole_expr (read_opt (k.Semicolon ∷ []) (read_word k.Semicolon))))

  -- the section that begins with the next word
  unfoldable pub read_section : Reader Section
  read_section =
      read_either (k.Var ∷ []) (read_mapped (λ p. section.Vars p.1)
      (read_both (read_word k.Var) read_declarations)) (
      read_either (k.Assign ∷ [])
      (read_mapped (λ p. section.Assigns p.1) (read_both (read_word k.Assign) read_assignments))
      (
      read_either (k.Define ∷ [])
      (read_mapped (λ p. section.Defines p.1) (read_both (read_word k.Define) read_definitions))
      (
      read_either (k.InitSection ∷ [])
      (read_mapped (λ p. section.Init p.1 p.0) (read_constraint k.InitSection)) (
      read_either (k.InvarSection ∷ [])
      (read_mapped (λ p. section.Invar p.1 p.0) (read_constraint k.InvarSection)) (
      read_either (k.TransSection ∷ [])
      (read_mapped (λ p. section.Trans p.1 p.0) (read_constraint k.TransSection))
      (read_mapped (λ p. section.InvarSpec p.1 p.0) (read_constraint k.InvarSpec)))))))

  -- a section, or one that is skipped
  unfoldable pub read_part : Reader Part
  read_part = read_either first_section (read_mapped part.Section read_section)
      (read_mapped part.Skipped read_skipped)

  -- { section }
  unfoldable pub read_parts : Reader Parts
  read_parts = read_fold first_part read_part with_part no_parts

  -- MODULE id [ formals ] { section }
  unfoldable pub read_module : Reader ModuleReading
  read_module = read_mapped module_of
      (read_both (read_word k.Module)
      (read_both read_name (read_both read_some_formals read_parts)))

  -- { module }, after those that are there
  unfoldable pub read_more_modules : Reading → Reader Reading
  read_more_modules r = read_fold (k.Module ∷ []) read_module with_module r

  -- the first module
  unfoldable pub read_first_module : Reader Reading
  read_first_module = read_mapped single_module read_module

  -- module { module }
  unfoldable pub read_program : Reader Reading
  read_program ts = and_then (read_first_module ts) read_more_modules
