-- The reader of each part of the text of a feature model.
use Rattle.std.specs.Prelude.{Bool, if◌then◌else◌, List, [], ◌∷◌, ◌++◌, Some, None, is_some}
use Rattle.smv_ast.specs.declared.syntax.Span.{Span}
use Rattle.smv_ast.specs.declared.syntax.Expr.{Expr}
use Rattle.smv_expr.specs.declared.kind.Kind.TheVariants as k
use Rattle.smv_expr.specs.Reading.{Reader, and_then, read_word, read_name, read_one_of, read_both, read_mapped, read_either, read_many, read_more}
use Rattle.smv_expr.specs.Reading.Outcome.{Read, Stop}
use Rattle.smv_expr.specs.Reading.Cause.{UnexpectedToken}
use Rattle.smv_expr.specs.Limits.{Limit, nesting_bound}
use Rattle.smv_expr.specs.ExprReaders.{read_expr}
use Rattle.smv_expr.specs.ExprAnswer.{limited_expr}
use Rattle.feature_model.specs.Propositional.{is_propositional}
use Rattle.feature_model.specs.TextGrammar.{group_kinds, first_line, name_at, group_of, constraint_of, text_of}
use Rattle.feature_model.specs.declared.text.FeatureName.{FeatureName}
use Rattle.feature_model.specs.declared.text.TextLine.{TextLine}
use Rattle.feature_model.specs.declared.text.TextLine.TheVariants.{Constraint}
use Rattle.feature_model.specs.declared.text.ModelText.{ModelText}
use Rattle.feature_model.specs.declared.text.LineReading.{LineReading}
use Rattle.feature_model.specs.declared.text.LineReading.TheVariants.{Line, Refused}
use Rattle.feature_model.specs.declared.text.LinesReading.{LinesReading}
use Rattle.feature_model.specs.declared.text.TextReading.{TextReading}

-- ---- names, groups and the header

-- id
unfoldable pub read_feature_name : Reader FeatureName
read_feature_name = read_mapped name_at read_name

-- , id
unfoldable pub read_next_feature_name : Reader FeatureName
read_next_feature_name = read_mapped (λ p. p.1) (read_both (read_word k.Comma) read_feature_name)

-- { , id }
unfoldable pub read_more_feature_names : Reader (List FeatureName)
read_more_feature_names = read_many (k.Comma ∷ []) read_next_feature_name

-- id { , id }
unfoldable pub read_feature_names : Reader (List FeatureName)
read_feature_names = read_mapped (λ p. p.0 ∷ p.1)
    (read_both read_feature_name read_more_feature_names)

-- kind id : id { , id } ;
unfoldable pub read_group : Reader TextLine
read_group = read_mapped group_of
    (read_both (read_one_of group_kinds)
    (read_both read_feature_name
    (read_both (read_word k.Colon) (read_both read_feature_names (read_word k.Semicolon)))))

-- FEATUREMODEL ROOT id ;
unfoldable pub read_header : Reader FeatureName
read_header = read_mapped (λ p. p.1.1.0)
    (read_both (read_word k.FeatureModel)
    (read_both (read_word k.Root) (read_both read_feature_name (read_word k.Semicolon))))

-- ---- texts in which constraints are any expressions

module _ (limit : Limit) where
  -- CONSTRAINT expr ;
  unfoldable pub read_constraint : Reader TextLine
  read_constraint = read_mapped constraint_of
      (read_both (read_word k.Constraint)
      (read_both (read_expr nesting_bound limit) (read_word k.Semicolon)))

  -- constraint | group
  unfoldable pub read_line : Reader TextLine
  read_line = read_either (k.Constraint ∷ []) read_constraint read_group

  -- { line }
  unfoldable pub read_lines : Reader (List TextLine)
  read_lines = read_many first_line read_line

  -- FEATUREMODEL ROOT id ; { line } END
  unfoldable pub read_text : Reader ModelText
  read_text = read_mapped text_of
      (read_both read_header (read_both read_lines (read_word k.End)))

-- ---- texts whose reading ends with the first expression of a constraint that is not propositional

-- the start of the next token, which is not taken
unfoldable pub read_start : Reader Span
read_start [] = Stop UnexpectedToken []
read_start (t ∷ ts) = Read t.at (t ∷ ts)

-- what follows the expression of a constraint, which begins at the span
unfoldable pub read_constraint_end : Span → Expr → Reader LineReading
read_constraint_end at e ts = if is_propositional e then
    read_mapped (λ end. Line (Constraint e)) (read_word k.Semicolon) ts else Read (Refused at) ts

-- CONSTRAINT expr ;
unfoldable pub read_strict_constraint : Reader LineReading
read_strict_constraint ts = and_then
    (read_both (read_word k.Constraint) (read_both read_start limited_expr) ts)
    (λ p. read_constraint_end p.1.0 p.1.1)

-- constraint | group
unfoldable pub read_strict_line : Reader LineReading
read_strict_line = read_either (k.Constraint ∷ []) read_strict_constraint
    (read_mapped Line read_group)

-- the lines with one more
abbrev pub with_line : LinesReading → LineReading → LinesReading
with_line found (Line line) = record found { lines = found.lines ++ line ∷ [] }
with_line found (Refused at) = record found { refused = Some at }

-- no line
abbrev pub no_lines : LinesReading
no_lines = record { lines = []; refused = None }

-- the reading has ended
abbrev pub is_refused : LinesReading → Bool
is_refused found = is_some found.refused

-- { line }
unfoldable pub read_strict_lines : Reader LinesReading
read_strict_lines = read_more first_line is_refused (λ found. read_strict_line) with_line no_lines

-- what is read of a text, given its root and lines
abbrev pub reading_of : FeatureName → LinesReading → TextReading
reading_of root found = record { text = record { root = root; lines = found.lines }; refused = found.refused }

-- END, unless the reading has ended
unfoldable pub read_text_end : FeatureName → LinesReading → Reader TextReading
read_text_end root found ts = if is_refused found then Read (reading_of root found) ts else
    read_mapped (λ at. reading_of root found) (read_word k.End) ts

-- FEATUREMODEL ROOT id ; { line } END
unfoldable pub read_strict_text : Reader TextReading
read_strict_text ts = and_then (read_both read_header read_strict_lines ts)
    (λ p. read_text_end p.0 p.1)
