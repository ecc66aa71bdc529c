-- Each reader of a part of a model, within limits and without.
use Rattle.std.proofs.Common.{◌≡◌, Bool, true, ◌&&◌, [], ◌∷◌, Some, None, refl, sym}
use Rattle.std.specs.List.{list_all}
use Rattle.smv_ast.specs.declared.syntax.SmvType.TheVariants as type
use Rattle.smv_ast.specs.declared.program.Declared.TheVariants as declared
use Rattle.smv_ast.specs.declared.program.Left.TheVariants as left
use Rattle.smv_expr.specs.declared.kind.Kind.{Kind}
use Rattle.smv_expr.specs.declared.kind.Kind.TheVariants as k
use Rattle.smv_expr.specs.Limits.Limit.{AnyHeight}
use Rattle.smv_expr.specs.ExprReaders.{first_expr}
use Rattle.smv_expr.specs.ExprAnswer.{is_low}
use Rattle.smv_expr.proofs.Limited.{Obeys, always_fits, nothing_obeys, mapped_obeys, either_obeys, gather_obeys, gather_from_obeys, and_true}
use Rattle.smv_expr.proofs.ExprLimited.{word_then, both_then, sign_obeys, up_to_obeys}
use Rattle.smv_expr.proofs.ExprAnswering.{limited_obeys}
use Rattle.smv_expr.proofs.NameRules.{all_pushed, list_obeys, free_list, names_obeys, name_obeys, word_obeys}
use Rattle.smv_parse.specs.declared.sections.Part.{Part}
use Rattle.smv_parse.specs.declared.sections.Part.TheVariants as part
use Rattle.smv_parse.specs.declared.sections.Parts.{Parts}
use Rattle.smv_parse.specs.declared.program.ModuleReading.{ModuleReading}
use Rattle.smv_parse.specs.declared.program.Reading.{Reading}
use Rattle.smv_parse.specs.Grammar as g
use Rattle.smv_parse.specs.Low.{low_declared, low_declaration, low_assignment, low_definition, low_section, low_module, low_reading}
use Rattle.smv_parse.specs.Readers as r
use Rattle.smv_parse.specs.Readers.{the_limit}
use Rattle.smv_parse.proofs.SkipRule.{skip_obeys}

-- ---- names

some_formals_obeys : {any : Bool} → Obeys any always_fits r.read_some_formals r.read_some_formals
unfolding r.read_some_formals r.read_formals r.read_some_names
some_formals_obeys = either_obeys (k.OpenParen ∷ []) (mapped_obeys _ _ always_fits (λ v. refl) (word_then k.OpenParen (both_then (either_obeys (k.Name ∷ []) names_obeys (nothing_obeys always_fits [] refl)) (word_obeys k.CloseParen)))) (nothing_obeys always_fits [] refl)

pub name_in_parens_obeys : {any : Bool} → Obeys any always_fits r.read_name_in_parens r.read_name_in_parens
unfolding r.read_name_in_parens
name_in_parens_obeys = mapped_obeys _ _ always_fits (λ v. refl) (word_then k.OpenParen (both_then name_obeys (word_obeys k.CloseParen)))

pub left_side_obeys : {any : Bool} → Obeys any always_fits r.read_left_side r.read_left_side
unfolding r.read_left_side
left_side_obeys =
    either_obeys (k.Init ∷ []) (mapped_obeys (g.side_of left.Init) _ always_fits (λ v. refl) (word_then k.Init name_in_parens_obeys)) (
    either_obeys (k.Next ∷ []) (mapped_obeys (g.side_of left.Next) _ always_fits (λ v. refl) (word_then k.Next name_in_parens_obeys)) (mapped_obeys g.current_side_of _ always_fits (λ v. refl) name_obeys))

-- ---- types

pub next_sign_obeys : {any : Bool} → Obeys any always_fits (r.read_next_sign the_limit) (r.read_next_sign (AnyHeight any))
unfolding r.read_next_sign
next_sign_obeys = mapped_obeys _ _ always_fits (λ v. refl) (word_then k.Comma (sign_obeys _ true))

numbers_obeys : {any : Bool} → Obeys any always_fits (r.read_numbers the_limit) (r.read_numbers (AnyHeight any))
unfolding r.read_numbers r.read_more_signs
numbers_obeys = mapped_obeys _ _ always_fits (λ v. refl) (both_then (sign_obeys _ true) (free_list (k.Comma ∷ []) next_sign_obeys))

enumeration_obeys : {any : Bool} → Obeys any always_fits (r.read_enumeration the_limit) (r.read_enumeration (AnyHeight any))
unfolding r.read_enumeration r.read_values
enumeration_obeys = mapped_obeys _ _ always_fits (λ v. refl) (word_then k.OpenBrace (both_then (either_obeys r.first_sign numbers_obeys (mapped_obeys type.Symbols _ always_fits (λ v. refl) names_obeys)) (word_obeys k.CloseBrace)))

pub type_obeys : {any : Bool} → Obeys any always_fits (r.read_smv_type the_limit) (r.read_smv_type (AnyHeight any))
unfolding r.read_smv_type r.read_range
type_obeys =
    either_obeys (k.Boolean ∷ []) (mapped_obeys _ _ always_fits (λ v. refl) (word_obeys k.Boolean)) (
    either_obeys (k.OpenBrace ∷ []) enumeration_obeys (mapped_obeys _ _ always_fits (λ v. refl) (both_then (sign_obeys _ true) (up_to_obeys _ true))))

-- ---- what is declared

pub next_expr_obeys : {any : Bool} → Obeys any is_low (r.read_next_expr the_limit) (r.read_next_expr (AnyHeight any))
unfolding r.read_next_expr
next_expr_obeys = mapped_obeys _ _ is_low (λ v. refl) (word_then k.Comma (limited_obeys _))

exprs_obey : {any : Bool} → Obeys any (list_all is_low) (r.read_exprs the_limit) (r.read_exprs (AnyHeight any))
unfolding r.read_exprs r.read_more_exprs
exprs_obey = mapped_obeys _ _ (list_all is_low) (λ v. refl) (both_then (limited_obeys _) (list_obeys (k.Comma ∷ []) next_expr_obeys))

actuals_obey : {any : Bool} → Obeys any (list_all is_low) (r.read_actuals the_limit) (r.read_actuals (AnyHeight any))
unfolding r.read_actuals r.read_some_exprs
actuals_obey = mapped_obeys _ _ (list_all is_low) (λ v. sym (and_true (list_all is_low v.1.0)))
    (word_then k.OpenParen (both_then (either_obeys first_expr exprs_obey (nothing_obeys (list_all is_low) [] refl)) (word_obeys k.CloseParen)))

instance_obeys : {any : Bool} → Obeys any low_declared (r.read_instance the_limit) (r.read_instance (AnyHeight any))
unfolding r.read_instance r.read_some_actuals
instance_obeys = mapped_obeys g.instance_of _ low_declared (λ v. refl) (both_then name_obeys (either_obeys (k.OpenParen ∷ []) actuals_obey (nothing_obeys (list_all is_low) [] refl)))

declared_obeys : {any : Bool} → Obeys any low_declared (r.read_declared the_limit) (r.read_declared (AnyHeight any))
unfolding r.read_declared
declared_obeys = either_obeys r.first_type (mapped_obeys declared.Plain always_fits low_declared (λ v. refl) type_obeys) instance_obeys

-- ---- items

pub declaration_obeys : {any : Bool} → Obeys any low_declaration (r.read_declaration the_limit) (r.read_declaration (AnyHeight any))
unfolding r.read_declaration
declaration_obeys = mapped_obeys g.declaration_of _ low_declaration (λ v. sym (and_true (low_declared v.1.1.0))) (both_then name_obeys (word_then k.Colon (both_then declared_obeys (word_obeys k.Semicolon))))

pub assignment_obeys : {any : Bool} → Obeys any low_assignment (r.read_assignment the_limit) (r.read_assignment (AnyHeight any))
unfolding r.read_assignment
assignment_obeys = mapped_obeys g.assignment_of _ low_assignment (λ v. sym (and_true (is_low v.1.1.0))) (both_then left_side_obeys (word_then k.Becomes (both_then (limited_obeys _) (word_obeys k.Semicolon))))

pub definition_obeys : {any : Bool} → Obeys any low_definition (r.read_definition the_limit) (r.read_definition (AnyHeight any))
unfolding r.read_definition
definition_obeys = mapped_obeys g.definition_of _ low_definition (λ v. sym (and_true (is_low v.1.1.0))) (both_then name_obeys (word_then k.Becomes (both_then (limited_obeys _) (word_obeys k.Semicolon))))

constraint_obeys : {any : Bool} (kind : Kind) → Obeys any (λ p. is_low p.1) (r.read_constraint the_limit kind) (r.read_constraint (AnyHeight any) kind)
unfolding r.read_constraint
constraint_obeys kind = mapped_obeys _ _ (λ p. is_low p.1) (λ v. sym (and_true (is_low v.1.0)))
    (word_then kind (both_then (limited_obeys _) (either_obeys (k.Semicolon ∷ []) (mapped_obeys Some _ always_fits (λ v. refl) (word_obeys k.Semicolon)) (nothing_obeys always_fits None refl))))

-- ---- sections and modules

section_obeys : {any : Bool} → Obeys any low_section (r.read_section the_limit) (r.read_section (AnyHeight any))
unfolding r.read_section r.read_declarations r.read_assignments r.read_definitions
section_obeys =
    either_obeys (k.Var ∷ []) (mapped_obeys _ _ low_section (λ v. refl) (word_then k.Var (list_obeys (k.Name ∷ []) declaration_obeys))) (
    either_obeys (k.Assign ∷ []) (mapped_obeys _ _ low_section (λ v. refl) (word_then k.Assign (list_obeys r.first_side assignment_obeys))) (
    either_obeys (k.Define ∷ []) (mapped_obeys _ _ low_section (λ v. refl) (word_then k.Define (list_obeys (k.Name ∷ []) definition_obeys))) (
    either_obeys (k.InitSection ∷ []) (mapped_obeys _ _ low_section (λ v. refl) (constraint_obeys k.InitSection)) (
    either_obeys (k.InvarSection ∷ []) (mapped_obeys _ _ low_section (λ v. refl) (constraint_obeys k.InvarSection)) (
    either_obeys (k.TransSection ∷ []) (mapped_obeys _ _ low_section (λ v. refl) (constraint_obeys k.TransSection)) (mapped_obeys _ _ low_section (λ v. refl) (constraint_obeys k.InvarSpec)))))))

abbrev pub low_part : Part → Bool
low_part (part.Section s) = low_section s
low_part (part.Skipped s) = true

abbrev pub low_parts : Parts → Bool
low_parts parts = list_all low_section parts.sections

skip_word_obeys : {any : Bool} → Obeys any always_fits r.read_skip_word r.read_skip_word
unfolding r.read_skip_word
skip_word_obeys =
    either_obeys (k.Spec ∷ []) (mapped_obeys _ _ always_fits (λ v. refl) (word_obeys k.Spec)) (
    either_obeys (k.CtlSpec ∷ []) (mapped_obeys _ _ always_fits (λ v. refl) (word_obeys k.CtlSpec)) (
    either_obeys (k.LtlSpec ∷ []) (mapped_obeys _ _ always_fits (λ v. refl) (word_obeys k.LtlSpec)) (
    either_obeys (k.Fairness ∷ []) (mapped_obeys _ _ always_fits (λ v. refl) (word_obeys k.Fairness)) (
    either_obeys (k.Justice ∷ []) (mapped_obeys _ _ always_fits (λ v. refl) (word_obeys k.Justice)) (mapped_obeys _ _ always_fits (λ v. refl) (word_obeys k.Compassion))))))

pub part_obeys : {any : Bool} → Obeys any low_part (r.read_part the_limit) (r.read_part (AnyHeight any))
unfolding r.read_part r.read_skipped
part_obeys = either_obeys r.first_section (mapped_obeys part.Section low_section low_part (λ v. refl) section_obeys)
    (mapped_obeys part.Skipped always_fits low_part (λ v. refl) (mapped_obeys _ _ always_fits (λ v. refl) (both_then skip_word_obeys skip_obeys)))

parts_grow : (parts : Parts) (one : Part) → low_parts (g.with_part parts one) ≡ (low_parts parts && low_part one)
parts_grow parts (part.Section s) = all_pushed low_section parts.sections s
parts_grow parts (part.Skipped s) = sym (and_true (list_all low_section parts.sections))

pub parts_obey : {any : Bool} → Obeys any low_parts (r.read_parts the_limit) (r.read_parts (AnyHeight any))
unfolding r.read_parts
parts_obey = gather_obeys r.first_part g.with_part low_parts g.no_parts parts_grow refl part_obeys

abbrev pub low_module_reading : ModuleReading → Bool
low_module_reading m = low_module m.«module»

pub module_obeys : {any : Bool} → Obeys any low_module_reading (r.read_module the_limit) (r.read_module (AnyHeight any))
unfolding r.read_module
module_obeys = mapped_obeys g.module_of _ low_module_reading (λ v. refl) (word_then k.Module (both_then name_obeys (both_then some_formals_obeys parts_obey)))

-- ---- models

modules_grow : (reading : Reading) (m : ModuleReading) → low_reading (g.with_module reading m) ≡ (low_reading reading && low_module_reading m)
modules_grow reading m = all_pushed low_module reading.program.modules m.«module»

pub program_obeys : {any : Bool} → Obeys any low_reading (r.read_program the_limit) (r.read_program (AnyHeight any))
unfolding r.read_program r.read_first_module r.read_more_modules
program_obeys = gather_from_obeys (k.Module ∷ []) g.with_module low_reading modules_grow (mapped_obeys g.single_module low_module_reading low_reading (λ m. and_true (low_module m.«module»)) module_obeys) module_obeys
