-- From the reading of a text to what is answered of a file.
use Rattle.std.proofs.Common.{◌≡◌, ℕ, Bool, true, false, ◌&&◌, List, [], ◌∷◌, length, Option, Some, None, Ok, Err, inl, inr, refl, sym, ◌∙◌, ap, subst}
use Rattle.std.specs.Prelude.{Result, IfOk}
use Rattle.std.specs.List.{list_all}
use Rattle.smv_ast.specs.declared.syntax.Span.{Span}
use Rattle.smv_ast.specs.declared.syntax.Expr.{Expr}
use Rattle.smv_ast.specs.declared.model.FeatureModel.{FeatureModel}
use Rattle.smv_ast.specs.declared.fault.Fault.{Fault}
use Rattle.smv_ast.specs.declared.fault.Fault.TheVariants as fault
use Rattle.smv_expr.specs.Lexicon.{Bytes, tokens}
use Rattle.smv_expr.specs.Language.{Tokens, many}
use Rattle.smv_expr.specs.Reading.{Outcome, Gives}
use Rattle.smv_expr.specs.Reading.Outcome.{Read, Stop}
use Rattle.smv_expr.specs.Reading.Cause.{UnexpectedToken, Wide, Deep}
use Rattle.smv_expr.specs.Limits.{nesting_bound}
use Rattle.smv_expr.specs.ExprGrammar.{expr}
use Rattle.smv_expr.specs.declared.error.ReadError.{ReadError}
use Rattle.smv_expr.specs.declared.error.ReadError.TheVariants as error
use Rattle.smv_expr.specs.Answer.{IsAnswered, IsResultOf, result_of}
use Rattle.feature_model.specs.WellFormed.{IsFeatureModel}
use Rattle.feature_model.specs.TextGrammar as g
use Rattle.feature_model.specs.TextGrammar.{is_logical_line}
use Rattle.feature_model.specs.TextReaders.{read_strict_text}
use Rattle.feature_model.specs.TextAnswer.{IsModelText, TextVerdict, ReadVerdict}
use Rattle.feature_model.specs.NameFaults.{names_fault, count_fault, text_fault, declared_names, or_else, ReportsFirst}
use Rattle.feature_model.specs.ModelOfText.{model_of, IsCounted}
use Rattle.feature_model.specs.ModelAnswer.{read_result, text_result, numbered_result, model_result, Is, ModelAnswer, ReadsModel}
use Rattle.feature_model.specs.declared.text.FeatureName.{FeatureName}
use Rattle.feature_model.specs.declared.text.TextLine.{TextLine}
use Rattle.feature_model.specs.declared.text.TextLine.TheVariants.{Group, Constraint}
use Rattle.feature_model.specs.declared.text.ModelText.{ModelText}
use Rattle.feature_model.specs.declared.text.TextReading.{TextReading}
use Rattle.feature_model.proofs.FormulaNames.{both_true}
use Rattle.feature_model.proofs.StrictTexts as strict
use Rattle.feature_model.proofs.TextModels.{has_some, is_sound_line, well_formed}

-- ---- the lines of a text

true_both : (a b : Bool) → a ≡ true → b ≡ true → (a && b) ≡ true
true_both a b h k = ap (λ x. x && b) h ∙ k

sound_line : (W : Expr → Tokens → Type 0) (line : TextLine) (ts : Tokens) → g.line W line ts → is_logical_line line ≡ true → is_sound_line line ≡ true
sound_line W (Constraint e) ts h l = l
sound_line W (Group kind parent children) ts (inl h) l = let none = h.2 in cc
sound_line W (Group kind parent children) ts (inr h) l =
    let names = h.1.second.second.second.first in
    let same : h.0.1.1.1.0 ≡ children = let e = h.2 in cc in
    subst (λ (c : List FeatureName). has_some c ≡ true) (names.2 ∙ same) refl

sound_lines : (W : Expr → Tokens → Type 0) (lines : List TextLine) (ts : Tokens) → many (g.line W) lines ts → list_all is_logical_line lines ≡ true → list_all is_sound_line lines ≡ true
sound_lines W [] ts h l = refl
sound_lines W (line ∷ more) ts h l =
    let parts = both_true (is_logical_line line) (list_all is_logical_line more) l in
    true_both (is_sound_line line) (list_all is_sound_line more) (sound_line W line h.0 h.3 parts.0) (sound_lines W more h.1 h.4 parts.1)

sound : (ts : Tokens) (t : ModelText) → IsModelText ts t → list_all is_sound_line t.lines ≡ true
sound ts t x =
    let reads = x.reads.reads in
    let same : reads.0.1.0 ≡ t.lines = ap (λ (u : ModelText). u.lines) reads.2 in
    let lines : list_all is_logical_line reads.0.1.0 ≡ true = subst (λ (ls : List TextLine). list_all is_logical_line ls ≡ true) (sym same) x.formulas in
    subst (λ (ls : List TextLine). list_all is_sound_line ls ≡ true) same (sound_lines (expr false nesting_bound) reads.0.1.0 _ reads.1.second.first lines)

-- ---- how a text is reported

module _ (file : ℕ) (bytes : Bytes) where
  read_text : (ts : Tokens) (t u : ModelText) (refused : Option Span) (rest : Tokens) → Ok t ≡ read_result file bytes u refused rest → ReadVerdict ts u refused rest → IsModelText ts t
  read_text ts t u (Some at) rest e v = cc
  read_text ts t u None (y ∷ ys) e v = cc
  read_text ts t u None [] e v = let same : u ≡ t = cc in subst (λ (x : ModelText). IsModelText ts x) same (record { reads = v.0; formulas = v.1 })

  text_reported : (ts : Tokens) (t : ModelText) (o : Outcome TextReading) → Ok t ≡ text_result file bytes o → TextVerdict ts o → IsModelText ts t
  text_reported ts t (Stop UnexpectedToken rest) e v = cc
  text_reported ts t (Stop Wide rest) e v = cc
  text_reported ts t (Stop Deep rest) e v = cc
  text_reported ts t (Read got rest) e v = read_text ts t got.text got.refused rest e v

  -- the answer that is due
  abbrev pub due : Result FeatureModel Fault
  due = model_result (text_result file bytes (read_strict_text (tokens file bytes)))

  pub answered : (result : Result FeatureModel Fault) → Is due result → ModelAnswer file bytes result
  answered (Ok m) h = record { is = h; verdict = strict.verdict (tokens file bytes) }
  answered (Err fault.NoMemory) h = tt
  answered (Err _) h = record { is = h; verdict = strict.verdict (tokens file bytes) }

  due_model : (m : FeatureModel) → ReadsModel file bytes m → due ≡ Ok m
  due_model m x =
      ap (λ o. model_result (text_result file bytes o)) (strict.complete (tokens file bytes) x.text x.reads)
      ∙ ap (numbered_result x.text) x.faultless
      ∙ ap Ok (sym x.is)

  pub completed : (result : Result FeatureModel Fault) → Is due result → (m : FeatureModel) → ReadsModel file bytes m → IsAnswered m result
  completed (Ok n) h m x = h ∙ due_model m x
  completed (Err fault.NoMemory) h m x = tt
  completed (Err _) h m x = h ∙ due_model m x

  well_formed_of : (m : FeatureModel) (t : ModelText) (v : Option Fault) → text_fault t ≡ v → IsModelText (tokens file bytes) t → Ok m ≡ numbered_result t v → IsFeatureModel m
  well_formed_of m t (Some f) e x h = cc
  well_formed_of m t None e x h = let same : model_of t ≡ m = cc in subst IsFeatureModel same (well_formed t (sound (tokens file bytes) t x) e)

  model_due : (m : FeatureModel) (e : Result ModelText Fault) → text_result file bytes (read_strict_text (tokens file bytes)) ≡ e → Ok m ≡ model_result e → IsFeatureModel m
  model_due m (Err f) e h = cc
  model_due m (Ok t) e h = well_formed_of m t (text_fault t) refl (text_reported (tokens file bytes) t (read_strict_text (tokens file bytes)) (sym e) (strict.verdict (tokens file bytes))) h

  pub modelled : (result : Result FeatureModel Fault) → Is due result → IfOk result IsFeatureModel
  modelled (Ok m) h = model_due m (text_result file bytes (read_strict_text (tokens file bytes))) refl h
  modelled (Err f) h = tt

-- ---- the steps of the answer

pub text_refused : (e : Result ModelText Fault) (f : Fault) → Is e (Err f) → Is (model_result e) (Err f)
text_refused e fault.NoMemory h = tt
text_refused e _ h = ap model_result h

pub text_checked : (e : Result ModelText Fault) (t : ModelText) (result : Result FeatureModel Fault) → Is e (Ok t) → Is (numbered_result t (text_fault t)) result → Is (model_result e) result
text_checked e t result h k = subst (λ (x : Result ModelText Fault). Is (model_result x) result) h k

pub names_refused : (t : ModelText) (f : Fault) → ReportsFirst (names_fault t) (Err f) → Is (numbered_result t (text_fault t)) (Err f)
names_refused t fault.NoMemory k = tt
names_refused t _ k = sym (ap (λ v. numbered_result t (or_else v (count_fault (length (declared_names t))))) k)

pub counted : (t : ModelText) (result : Result FeatureModel Fault) → names_fault t ≡ None → IsCounted t result → Is (numbered_result t (text_fault t)) result
counted t (Ok m) k c = ap Ok c.1 ∙ sym (ap (λ v. numbered_result t (or_else v (count_fault (length (declared_names t))))) k ∙ ap (numbered_result t) c.0)
counted t (Err fault.NoMemory) k c = tt
counted t (Err _) k c = sym (ap (λ v. numbered_result t (or_else v (count_fault (length (declared_names t))))) k ∙ ap (numbered_result t) c)

-- ---- how an outcome is reported

module _ {A : Type 0} (file : ℕ) (bytes : Bytes) where
  is_of : (o : Outcome A) (result : Result A Fault) → IsResultOf file bytes o result → Is (result_of file bytes o) result
  is_of o (Ok a) h = h
  is_of o (Err fault.NoMemory) h = tt
  is_of o (Err _) h = h

  -- where nothing is known of the outcome, memory has run out
  ran_out : (expected result : Result A Fault) → ((o : Outcome A) → IsResultOf file bytes o result) → Is expected result
  ran_out expected (Ok a) h = let none = h (Stop UnexpectedToken []) in cc
  ran_out expected (Err fault.NoMemory) h = tt
  ran_out expected (Err _) h = let syntax = h (Stop UnexpectedToken []) in let wide = h (Stop Wide []) in cc

pub stop_reported : (file : ℕ) (bytes : Bytes) (failure : ReadError) (new : Tokens) (result : Result ModelText Fault) → ((o : Outcome ModelText) → Gives o (Err failure) new → IsResultOf file bytes o result)
    → (o : Outcome TextReading) → Gives o (Err failure) new → Is (text_result file bytes o) result
stop_reported file bytes error.NoMemory new result h o g = ran_out file bytes (text_result file bytes o) result (λ o'. h o' tt)
stop_reported file bytes error.Unexpected new result h o g = subst (λ (x : Outcome TextReading). Is (text_result file bytes x) result) (sym g) (is_of file bytes (Stop UnexpectedToken new) result (h (Stop UnexpectedToken new) refl))
stop_reported file bytes error.WideNumber new result h o g = subst (λ (x : Outcome TextReading). Is (text_result file bytes x) result) (sym g) (is_of file bytes (Stop Wide new) result (h (Stop Wide new) refl))
stop_reported file bytes error.TooNested new result h o g = subst (λ (x : Outcome TextReading). Is (text_result file bytes x) result) (sym g) (is_of file bytes (Stop Deep new) result (h (Stop Deep new) refl))

pub read_reported : (file : ℕ) (bytes : Bytes) (got : TextReading) (new : Tokens) (result : Result ModelText Fault) → got.refused ≡ None → IsResultOf file bytes (Read got.text new) result → Is (text_result file bytes (Read got new)) result
read_reported file bytes got new result e h = subst (λ (v : Option Span). Is (read_result file bytes got.text v new) result) (sym e) (is_of file bytes (Read got.text new) result h)
