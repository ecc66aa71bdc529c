-- Each model that is read from a file is printable: its names are names, its numbers are within the limit, and it has modules.
use Rattle.std.proofs.Common.{◌≡◌, ℕ, Bool, true, false, List, [], ◌∷◌, ◌++◌, map, refl}
use Rattle.std.specs.Prelude.{Result, Ok, Err, IfOk}
use Rattle.smv_ast.specs.declared.fault.Fault.{Fault}
use Rattle.smv_ast.specs.declared.syntax.Expr.{Expr}
use Rattle.smv_ast.specs.declared.syntax.SmvType.TheVariants as type
use Rattle.smv_ast.specs.declared.program.Declared.TheVariants as declared
use Rattle.smv_ast.specs.declared.program.Left.TheVariants as left
use Rattle.smv_expr.specs.declared.kind.Kind.{Kind}
use Rattle.smv_expr.specs.Lexicon.{Bytes, tokens}
use Rattle.smv_expr.specs.Language.{Tokens}
use Rattle.smv_expr.specs.Limits.{nesting_bound}
use Rattle.smv_expr.specs.ExprGrammar.{expr}
use Rattle.smv_expr.specs.RoundTrip.{is_name, is_small_sign, is_printable, all_are, some_are}
use Rattle.smv_expr.proofs.Booleans.{both_left, both_right}
use Rattle.smv_expr.proofs.ReadTrees.{Keeps, IsOk, both_true, file_spelled, text_read, all_true, folded, keeps_name, keeps_names, keeps_all, keeps_both, keeps_first, keeps_second, keeps_mapped, keeps_either, keeps_nothing, keeps_many, keeps_chain, keeps_sign, keeps_up_to, keeps_expr}
use Rattle.smv_parse.specs.declared.sections.Part.{Part}
use Rattle.smv_parse.specs.declared.sections.Part.TheVariants as part
use Rattle.smv_parse.specs.declared.sections.Parts.{Parts}
use Rattle.smv_parse.specs.declared.program.ModuleReading.{ModuleReading}
use Rattle.smv_parse.specs.declared.program.Reading.{Reading}
use Rattle.smv_parse.specs.Grammar as g
use Rattle.smv_parse.specs.Grammar.{program}
use Rattle.smv_parse.specs.Low.{low_reading}
use Rattle.smv_parse.specs.Answer.{limited_program, ProgramAnswer}
use Rattle.smv_parse.specs.RoundTrip.{PrintableProgram, is_printable_type, is_printable_declared, is_printable_declaration, is_printable_assignment, is_printable_definition, is_printable_section, is_printable_module}

-- ---- lists

all_append : {A : Type 0} (test : A → Bool) (items : List A) (a : A) → all_are (map test items) ≡ true → test a ≡ true → all_are (map test (items ++ a ∷ [])) ≡ true
all_append test [] a h i = both_true _ _ i refl
all_append test (x ∷ items) a h i = both_true _ _ (both_left _ _ h) (all_append test items a (both_right _ _ h) i)

some_append : {A : Type 0} (test : A → Bool) (items : List A) (a : A) → some_are (map test items) ≡ true → test a ≡ true → some_are (map test (items ++ a ∷ [])) ≡ true
some_append test [] a h i = cc
some_append test (x ∷ items) a h i = both_true _ _ (both_left _ _ h) (all_append test items a (both_right _ _ h) i)

some_all : {A : Type 0} (test : A → Bool) (items : List A) → some_are (map test items) ≡ true → all_are (map test items) ≡ true
some_all test [] h = refl
some_all test (a ∷ items) h = h

weaker : {A : Type 0} {P Q : A → Type 0} {L : A → Tokens → Type 0} → ((a : A) → P a → Q a) → Keeps P L → Keeps Q L
weaker f p = record { at = λ a ts s h. f a (p.at a ts s h) }

-- ---- names and types

abbrev AreNames : List Bytes → Type 0
AreNames names = all_are (map is_name names) ≡ true

keeps_formals : Keeps AreNames g.formals
keeps_formals = keeps_mapped _ (λ v h. h) (keeps_second (keeps_first (keeps_either (weaker (some_all is_name) keeps_names) (keeps_nothing [] refl))))

keeps_in_parens : Keeps (λ n. is_name n ≡ true) g.name_in_parens
keeps_in_parens = keeps_mapped _ (λ v h. h) (keeps_second (keeps_first keeps_name))

pub keeps_left_side : Keeps (λ s. is_name s.name ≡ true) g.left_side
keeps_left_side = keeps_either (keeps_mapped (g.side_of left.Init) (λ v h. h) (keeps_second keeps_in_parens))
    (keeps_either (keeps_mapped (g.side_of left.Next) (λ v h. h) (keeps_second keeps_in_parens)) (keeps_mapped g.current_side_of (λ v h. h) keeps_name))

keeps_numbers : Keeps (λ t. is_printable_type t ≡ true) (g.numbers false)
keeps_numbers = keeps_mapped _ (λ v h. both_true _ _ h.0 (all_true is_small_sign v.1 h.1)) (keeps_both keeps_sign (keeps_many (keeps_mapped _ (λ v h. h) (keeps_second keeps_sign))))

pub keeps_type : Keeps (λ t. is_printable_type t ≡ true) (g.smv_type false)
keeps_type = keeps_either (keeps_mapped _ (λ at h. refl) keeps_all) (keeps_either
    (keeps_mapped _ (λ v h. h) (keeps_second (keeps_first (keeps_either keeps_numbers (keeps_mapped type.Symbols (λ names h. h) keeps_names)))))
    (keeps_mapped _ (λ v h. both_true _ _ h.0 h.1) (keeps_both keeps_sign keeps_up_to)))

-- ---- sections

abbrev IsOkPart : Part → Type 0
IsOkPart (part.Section s) = is_printable_section s ≡ true
IsOkPart (part.Skipped s) = Unit {0}

abbrev pub AreOk : Parts → Type 0
AreOk parts = all_are (map is_printable_section parts.sections) ≡ true

with_ok : (parts : Parts) (one : Part) → AreOk parts → IsOkPart one → AreOk (g.with_part parts one)
with_ok parts (part.Section s) h i = all_append is_printable_section parts.sections s h i
with_ok parts (part.Skipped s) h i = h

abbrev IsOkModule : ModuleReading → Type 0
IsOkModule m = is_printable_module m.«module» ≡ true

abbrev AreExprs : List Expr → Type 0
AreExprs exprs = all_are (map is_printable exprs) ≡ true

module _ (W : Expr → Tokens → Type 0) (w : Keeps IsOk W) where
  keeps_exprs : Keeps AreExprs (g.exprs false W)
  keeps_exprs = keeps_mapped _ (λ v h. both_true _ _ h.0 (all_true is_printable v.1 h.1)) (keeps_both w (keeps_many (keeps_mapped _ (λ v h. h) (keeps_second w))))

  keeps_actuals : Keeps AreExprs (g.actuals false W)
  keeps_actuals = keeps_mapped _ (λ v h. h) (keeps_second (keeps_first {P = AreExprs} (keeps_either keeps_exprs (keeps_nothing [] refl))))

  keeps_instance : Keeps (λ d. is_printable_declared d ≡ true) (g.instance false W)
  keeps_instance = keeps_mapped g.instance_of (λ v h. both_true _ _ h.0 h.1) (keeps_both keeps_name (keeps_either keeps_actuals (keeps_nothing [] refl)))

  keeps_declaration : Keeps (λ d. is_printable_declaration d ≡ true) (g.declaration false W)
  keeps_declaration = keeps_mapped g.declaration_of (λ v h. both_true _ _ h.0 h.1) (keeps_both keeps_name (keeps_second (keeps_first (keeps_either (keeps_mapped declared.Plain (λ t h. h) keeps_type) keeps_instance))))

  keeps_assignment : Keeps (λ a. is_printable_assignment a ≡ true) (g.assignment false W)
  keeps_assignment = keeps_mapped g.assignment_of (λ v h. both_true _ _ h.0 h.1) (keeps_both keeps_left_side (keeps_second (keeps_first w)))

  keeps_definition : Keeps (λ d. is_printable_definition d ≡ true) (g.definition false W)
  keeps_definition = keeps_mapped g.definition_of (λ v h. both_true _ _ h.0 h.1) (keeps_both keeps_name (keeps_second (keeps_first w)))

  keeps_constraint : (kind : Kind) → Keeps (λ v. IsOk v.1) (g.constraint false W kind)
  keeps_constraint kind = keeps_mapped _ (λ v h. h) (keeps_second (keeps_first w))

  keeps_section : Keeps (λ s. is_printable_section s ≡ true) (g.one_section false W)
  keeps_section =
      keeps_either (keeps_mapped _ (λ v h. all_true is_printable_declaration v.1 h) (keeps_second (keeps_many keeps_declaration))) (
      keeps_either (keeps_mapped _ (λ v h. all_true is_printable_assignment v.1 h) (keeps_second (keeps_many keeps_assignment))) (
      keeps_either (keeps_mapped _ (λ v h. all_true is_printable_definition v.1 h) (keeps_second (keeps_many keeps_definition))) (
      keeps_either (keeps_mapped _ (λ v h. h) (keeps_constraint _)) (keeps_either (keeps_mapped _ (λ v h. h) (keeps_constraint _))
      (keeps_either (keeps_mapped _ (λ v h. h) (keeps_constraint _)) (keeps_mapped _ (λ v h. h) (keeps_constraint _)))))))

  pub keeps_parts : Keeps AreOk (g.all_parts false W)
  keeps_parts = keeps_mapped g.parts_of (λ items h. folded AreOk IsOkPart g.with_part with_ok g.no_parts items refl h)
      (keeps_many (keeps_either (keeps_mapped part.Section (λ s h. h) keeps_section) (keeps_mapped part.Skipped (λ s h. tt) keeps_all)))

  keeps_module : Keeps IsOkModule (g.one_module false W)
  keeps_module = keeps_mapped g.module_of (λ v h. both_true _ _ h.0 (both_true _ _ h.1.0 h.1.1)) (keeps_second (keeps_both keeps_name (keeps_both (keeps_either keeps_formals (keeps_nothing [] refl)) keeps_parts)))

  keeps_program : Keeps (λ r. PrintableProgram r.program) (g.program_of false W)
  keeps_program = keeps_chain {P = λ r. PrintableProgram r.program} {Q = IsOkModule} g.with_module (λ r m h i. some_append is_printable_module r.program.modules m.«module» h i)
      (keeps_mapped g.single_module (λ m h. both_true _ _ h refl) keeps_module) keeps_module

-- ---- what is answered

pub answer_printable : (file : ℕ) (bytes : Bytes) (result : Result Reading Fault) → ProgramAnswer file bytes result → IfOk result (λ r. PrintableProgram r.program)
answer_printable file bytes (Ok r) x = (keeps_program (expr false nesting_bound) (keeps_expr nesting_bound)).at r (tokens file bytes) (file_spelled file bytes) (text_read program low_reading file bytes r (limited_program (tokens file bytes)) x.is x.verdict)
answer_printable file bytes (Err f) x = tt
