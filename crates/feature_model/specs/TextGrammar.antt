-- The grammar of the texts of feature models.
use Rattle.std.specs.Prelude.{ℕ, Bool, true, List, [], ◌∷◌}
use Rattle.std.specs.List.{list_all}
use Rattle.smv_ast.specs.declared.syntax.Span.{Span}
use Rattle.smv_ast.specs.declared.syntax.Expr.{Expr}
use Rattle.smv_ast.specs.declared.model.GroupKind.{GroupKind}
use Rattle.smv_ast.specs.declared.model.GroupKind.TheVariants as group
use Rattle.smv_expr.specs.declared.kind.Kind.{Kind}
use Rattle.smv_expr.specs.declared.kind.Kind.TheVariants as k
use Rattle.smv_expr.specs.Lexicon.{Bytes}
use Rattle.smv_expr.specs.Language.{Lang, Tokens, word, name, one_of, kinds_of, both, many, mapped, either}
use Rattle.smv_expr.specs.ExprGrammar.{expr}
use Rattle.smv_expr.specs.ExprAnswer.{is_low}
use Rattle.feature_model.specs.Propositional.{is_propositional}
use Rattle.feature_model.specs.declared.text.FeatureName.{FeatureName}
use Rattle.feature_model.specs.declared.text.TextLine.{TextLine}
use Rattle.feature_model.specs.declared.text.TextLine.TheVariants.{Group, Constraint}
use Rattle.feature_model.specs.declared.text.ModelText.{ModelText}

-- ---- words

-- the words of groups
abbrev pub group_kinds : List (Kind × GroupKind)
group_kinds = (k.Mandatory, group.Mandatory) ∷ (k.Optional, group.Optional) ∷ (k.OrGroup, group.Or) ∷ (k.Alternative, group.Alternative) ∷ []

-- what a group begins with
abbrev pub first_group : List Kind
first_group = kinds_of group_kinds

-- what a line begins with
abbrev pub first_line : List Kind
first_line = k.Constraint ∷ first_group

-- ---- trees

-- the name of a feature
abbrev pub name_at : Bytes × Span → FeatureName
name_at p = record { name = p.0; at = p.1 }

-- the line of a group, given the parts of its text
abbrev pub group_of : GroupKind × (FeatureName × (Span × (List FeatureName × Span))) → TextLine
group_of p = Group p.0 p.1.0 p.1.1.1.0

-- the line of a constraint, given the parts of its text
abbrev pub constraint_of : Span × (Expr × Span) → TextLine
constraint_of p = Constraint p.1.0

-- the text of these parts
abbrev pub text_of : FeatureName × (List TextLine × Span) → ModelText
text_of p = record { root = p.0; lines = p.1.0 }

-- ---- the grammar

-- id
abbrev pub feature_name : Lang FeatureName
feature_name = mapped name_at name

-- , id
abbrev pub next_feature_name : Lang FeatureName
next_feature_name = mapped (λ p. p.1) (both (word k.Comma) feature_name)

-- id { , id }
abbrev pub feature_names : Lang (List FeatureName)
feature_names = mapped (λ p. p.0 ∷ p.1) (both feature_name (many next_feature_name))

-- ( MANDATORY | OPTIONAL | OR | ALTERNATIVE ) id : id { , id } ;
abbrev pub group_line : Lang TextLine
group_line = mapped group_of
    (both (one_of group_kinds)
    (both feature_name (both (word k.Colon) (both feature_names (word k.Semicolon)))))

-- FEATUREMODEL ROOT id ;
abbrev pub header : Lang FeatureName
header = mapped (λ p. p.1.1.0)
    (both (word k.FeatureModel) (both (word k.Root) (both feature_name (word k.Semicolon))))

-- W stands for expressions
module _ (W : Expr → Tokens → Type 0) where
  -- CONSTRAINT expr ;
  abbrev pub constraint_line : Lang TextLine
  constraint_line = mapped constraint_of (both (word k.Constraint) (both W (word k.Semicolon)))

  -- constraint | group
  abbrev pub line : Lang TextLine
  line = either constraint_line group_line

  -- FEATUREMODEL ROOT id ; { line } END
  abbrev pub text_form : Lang ModelText
  text_form = mapped text_of (both header (both (many line) (word k.End)))

-- A text with fewer constructs open at any point of an expression than the number. Its constraints are any expressions; the
-- truth value tells whether their numerals may be of any size.
abbrev pub model_text : Bool → ℕ → ModelText → Tokens → Type 0
model_text any m = text_form (expr any m)

-- ---- limits

-- the expression of a constraint is no higher than a thousand
abbrev pub low_line : TextLine → Bool
low_line (Group kind parent children) = true
low_line (Constraint e) = is_low e

-- each expression of the text is low
abbrev pub low_text : ModelText → Bool
low_text t = list_all low_line t.lines

-- ---- constraints

-- the expression of a constraint is propositional
abbrev pub is_logical_line : TextLine → Bool
is_logical_line (Group kind parent children) = true
is_logical_line (Constraint e) = is_propositional e

-- each constraint of the text is propositional
abbrev pub has_formulas : ModelText → Bool
has_formulas t = list_all is_logical_line t.lines
