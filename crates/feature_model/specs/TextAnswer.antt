-- What the tokens of a file are that is to be the text of a feature model.
use Rattle.std.specs.Prelude.{◌≡◌, true, false, List, ◌++◌, Option, Some, None}
use Rattle.std.specs.List.{list_all}
use Rattle.smv_ast.specs.declared.syntax.Span.{Span}
use Rattle.smv_ast.specs.declared.syntax.Expr.{Expr}
use Rattle.smv_expr.specs.declared.kind.Kind.TheVariants as k
use Rattle.smv_expr.specs.Lexicon.{Token}
use Rattle.smv_expr.specs.Language.{Tokens, next_of, word, many}
use Rattle.smv_expr.specs.Reading.{Outcome}
use Rattle.smv_expr.specs.Reading.Outcome.{Read, Stop}
use Rattle.smv_expr.specs.Limits.{nesting_bound}
use Rattle.smv_expr.specs.ExprGrammar.{expr}
use Rattle.smv_expr.specs.ExprAnswer.{is_low}
use Rattle.smv_expr.specs.Answer.{unlimited, IsText, GoesOn, Verdict}
use Rattle.feature_model.specs.Propositional.{is_propositional}
use Rattle.feature_model.specs.TextGrammar.{header, line, model_text, low_line, low_text, is_logical_line, has_formulas}
use Rattle.feature_model.specs.declared.text.TextLine.{TextLine}
use Rattle.feature_model.specs.declared.text.ModelText.{ModelText}
use Rattle.feature_model.specs.declared.text.TextReading.{TextReading}

-- The tokens are this text and no other, within the limits of numerals and nesting, and its constraints are propositional.
pub record IsModelText (ts : Tokens) (t : ModelText) : Type 0 where
  pub reads : IsText model_text low_text ts t
  pub formulas : has_formulas t ≡ true

-- The tokens begin with CONSTRAINT and an expression within the limits that is not propositional. The expression begins at
-- the span, and no expression begins with its tokens and the next one.
pub record IsOtherConstraint (ts : Tokens) (at : Span) : Type 0 where
  pub constraint : Tokens
  pub place : Span
  pub is_word : word k.Constraint place constraint
  pub text : Tokens
  pub more : Tokens
  pub split : ts ≡ constraint ++ (text ++ more)
  pub formula : Expr
  pub reads : expr false nesting_bound formula text
  pub low : is_low formula ≡ true
  pub other : is_propositional formula ≡ false
  pub start : (first : Token) × (next_of text ≡ Some first) × (first.at ≡ at)
  pub ends : (next : Token) → next_of more ≡ Some next → GoesOn (unlimited expr) text more → ⊥

-- The tokens begin with these lines, whose constraints are propositional, and then with a constraint that is not.
pub record EndsLines (ts : Tokens) (lines : List TextLine) (at : Span) : Type 0 where
  pub before : Tokens
  pub remaining : Tokens
  pub split : ts ≡ before ++ remaining
  pub reads : many (line (expr false nesting_bound)) lines before
  pub low : list_all low_line lines ≡ true
  pub formulas : list_all is_logical_line lines ≡ true
  pub stop : IsOtherConstraint remaining at

-- The tokens begin with the header and these lines, and then with a constraint that is not propositional.
pub record EndsText (ts : Tokens) (t : ModelText) (at : Span) : Type 0 where
  pub before : Tokens
  pub remaining : Tokens
  pub split : ts ≡ before ++ remaining
  pub reads : header t.root before
  pub stop : EndsLines remaining t.lines at

-- what a reading says of the whole list, where it has ended at an expression or not
abbrev pub ReadVerdict : Tokens → ModelText → Option Span → Tokens → Type 0
ReadVerdict ts t None remaining = Verdict model_text low_text ts (Read t remaining) × (has_formulas t ≡ true)
ReadVerdict ts t (Some at) remaining = EndsText ts t at

-- what a reading says of the whole list
abbrev pub TextVerdict : Tokens → Outcome TextReading → Type 0
TextVerdict ts (Read found remaining) = ReadVerdict ts found.text found.refused remaining
TextVerdict ts (Stop cause remaining) = Verdict model_text low_text ts (Stop cause remaining)
