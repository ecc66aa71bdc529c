-- Each reader of a part of a model decides by the tokens that it has read.
use Rattle.std.proofs.Common.{◌≡◌, ◌<◌, Bool, true, false, [], ◌∷◌, ◌++◌, length, ap, arith, length-append, cond}
use Rattle.std.proofs.lemmas.List.{append_cancel_right}
use Rattle.smv_ast.specs.declared.syntax.SmvType.TheVariants as type
use Rattle.smv_ast.specs.declared.program.Declared.TheVariants as declared
use Rattle.smv_ast.specs.declared.program.Left.TheVariants as left
use Rattle.smv_expr.specs.declared.kind.Kind.{Kind}
use Rattle.smv_expr.specs.declared.kind.Kind.TheVariants as k
use Rattle.smv_expr.specs.Language.{Tokens, has}
use Rattle.smv_expr.specs.Reading.Outcome.{Read}
use Rattle.smv_expr.specs.ExprReaders.{first_expr}
use Rattle.smv_expr.proofs.ExprAnswering.{limited_local}
use Rattle.smv_expr.proofs.ExprLocal.{word_local, name_local, word_then_local, sign_local, up_to_local}
use Rattle.smv_expr.proofs.NameRules.{names_local}
use Rattle.smv_expr.proofs.Local.{Local, nothing_local, then_local, mapped_local, both_local, either_local, many_local, fold_local}
use Rattle.smv_parse.specs.declared.sections.Part.TheVariants as part
use Rattle.smv_parse.specs.Grammar as g
use Rattle.smv_parse.specs.Grammar.{skip_ends}
use Rattle.smv_parse.specs.Readers as r
use Rattle.smv_parse.specs.Readers.{the_limit, after_skipped}
use Rattle.smv_parse.proofs.SkipRule.{text_before_end, split_prefix}
use Rattle.smv_parse.proofs.Consuming as c

-- ---- skipped text

skip_same : (c r r' left : Tokens) → 0 < length left → after_skipped (c ++ r) ≡ left ++ r → after_skipped (c ++ r') ≡ left ++ r'
skip_same [] r r' left some e = absurd (omega (arith, some, ap length (split_prefix r), length-append (text_before_end r) (after_skipped r), ap length e, length-append left r))
skip_same (t ∷ c) r r' left some e = by_end (has skip_ends t.kind) e (skip_same c r r' left some) where
  by_end : (v : Bool) → cond v (t ∷ c ++ r) (after_skipped (c ++ r)) ≡ left ++ r → (after_skipped (c ++ r) ≡ left ++ r → after_skipped (c ++ r') ≡ left ++ r') → cond v (t ∷ c ++ r') (after_skipped (c ++ r')) ≡ left ++ r'
  by_end true e next = ap (λ z. z ++ r') (append_cancel_right (t ∷ c) left r e)
  by_end false e next = next e

skipped_text_local : Local r.read_skipped_text
unfolding r.read_skipped_text
skipped_text_local = record { near = λ ts. (text_before_end ts, split_prefix ts); same = λ c r r' mid left dots s some e. ap (λ z. Read tt z) (skip_same c r r' left some e); ends = λ ts e. cc }

skip_word_local : Local r.read_skip_word
unfolding r.read_skip_word
skip_word_local =
    either_local (k.Spec ∷ []) (mapped_local _ (word_local k.Spec)) (
    either_local (k.CtlSpec ∷ []) (mapped_local _ (word_local k.CtlSpec)) (
    either_local (k.LtlSpec ∷ []) (mapped_local _ (word_local k.LtlSpec)) (
    either_local (k.Fairness ∷ []) (mapped_local _ (word_local k.Fairness)) (
    either_local (k.Justice ∷ []) (mapped_local _ (word_local k.Justice)) (mapped_local _ (word_local k.Compassion))))))

-- ---- names

some_formals_local : Local r.read_some_formals
unfolding r.read_some_formals r.read_formals r.read_some_names
some_formals_local = either_local (k.OpenParen ∷ []) (mapped_local _ (word_then_local k.OpenParen (both_local (either_local (k.Name ∷ []) names_local (nothing_local [])) (word_local k.CloseParen)))) (nothing_local [])

pub name_in_parens_local : Local r.read_name_in_parens
unfolding r.read_name_in_parens
name_in_parens_local = mapped_local _ (word_then_local k.OpenParen (both_local name_local (word_local k.CloseParen)))

pub left_side_local : Local r.read_left_side
unfolding r.read_left_side
left_side_local =
    either_local (k.Init ∷ []) (mapped_local (g.side_of left.Init) (word_then_local k.Init name_in_parens_local)) (
    either_local (k.Next ∷ []) (mapped_local (g.side_of left.Next) (word_then_local k.Next name_in_parens_local)) (mapped_local g.current_side_of name_local))

-- ---- types

numbers_local : Local (r.read_numbers the_limit)
unfolding r.read_numbers r.read_more_signs r.read_next_sign
numbers_local = mapped_local _ (both_local (sign_local _ true) (many_local (k.Comma ∷ []) c.next_sign_consumes (mapped_local _ (word_then_local k.Comma (sign_local _ true)))))

pub type_local : Local (r.read_smv_type the_limit)
unfolding r.read_smv_type r.read_enumeration r.read_values r.read_range
type_local =
    either_local (k.Boolean ∷ []) (mapped_local _ (word_local k.Boolean)) (
    either_local (k.OpenBrace ∷ []) (mapped_local _ (word_then_local k.OpenBrace (both_local (either_local r.first_sign numbers_local (mapped_local type.Symbols names_local)) (word_local k.CloseBrace))))
    (mapped_local _ (both_local (sign_local _ true) (up_to_local _ true))))

-- ---- what is declared

exprs_local : Local (r.read_exprs the_limit)
unfolding r.read_exprs r.read_more_exprs r.read_next_expr
exprs_local = mapped_local _ (both_local limited_local (many_local (k.Comma ∷ []) c.next_expr_consumes (mapped_local _ (word_then_local k.Comma limited_local))))

instance_local : Local (r.read_instance the_limit)
unfolding r.read_instance r.read_some_actuals r.read_actuals r.read_some_exprs
instance_local = mapped_local _ (both_local name_local (either_local (k.OpenParen ∷ [])
    (mapped_local _ (word_then_local k.OpenParen (both_local (either_local first_expr exprs_local (nothing_local [])) (word_local k.CloseParen)))) (nothing_local [])))

declared_local : Local (r.read_declared the_limit)
unfolding r.read_declared
declared_local = either_local r.first_type (mapped_local declared.Plain type_local) instance_local

-- ---- items

declaration_local : Local (r.read_declaration the_limit)
unfolding r.read_declaration
declaration_local = mapped_local _ (both_local name_local (word_then_local k.Colon (both_local declared_local (word_local k.Semicolon))))

assignment_local : Local (r.read_assignment the_limit)
unfolding r.read_assignment
assignment_local = mapped_local _ (both_local left_side_local (word_then_local k.Becomes (both_local limited_local (word_local k.Semicolon))))

definition_local : Local (r.read_definition the_limit)
unfolding r.read_definition
definition_local = mapped_local _ (both_local name_local (word_then_local k.Becomes (both_local limited_local (word_local k.Semicolon))))

constraint_local : (kind : Kind) → Local (r.read_constraint the_limit kind)
unfolding r.read_constraint
constraint_local kind = mapped_local _ (word_then_local kind (both_local limited_local (either_local (k.Semicolon ∷ []) (mapped_local _ (word_local k.Semicolon)) (nothing_local _))))

-- ---- sections and modules

section_local : Local (r.read_section the_limit)
unfolding r.read_section r.read_declarations r.read_assignments r.read_definitions
section_local =
    either_local (k.Var ∷ []) (mapped_local _ (word_then_local k.Var (many_local (k.Name ∷ []) c.declaration_consumes declaration_local))) (
    either_local (k.Assign ∷ []) (mapped_local _ (word_then_local k.Assign (many_local r.first_side c.assignment_consumes assignment_local))) (
    either_local (k.Define ∷ []) (mapped_local _ (word_then_local k.Define (many_local (k.Name ∷ []) c.definition_consumes definition_local))) (
    either_local (k.InitSection ∷ []) (mapped_local _ (constraint_local k.InitSection)) (
    either_local (k.InvarSection ∷ []) (mapped_local _ (constraint_local k.InvarSection)) (
    either_local (k.TransSection ∷ []) (mapped_local _ (constraint_local k.TransSection)) (mapped_local _ (constraint_local k.InvarSpec)))))))

part_local : Local (r.read_part the_limit)
unfolding r.read_part r.read_skipped
part_local = either_local r.first_section (mapped_local part.Section section_local) (mapped_local part.Skipped (mapped_local _ (both_local skip_word_local skipped_text_local)))

pub parts_local : Local (r.read_parts the_limit)
unfolding r.read_parts
parts_local = fold_local r.first_part g.with_part g.no_parts c.part_consumes part_local

module_local : Local (r.read_module the_limit)
unfolding r.read_module
module_local = mapped_local _ (word_then_local k.Module (both_local name_local (both_local some_formals_local parts_local)))

pub program_local : Local (r.read_program the_limit)
unfolding r.read_program r.read_first_module r.read_more_modules
program_local = then_local (mapped_local g.single_module module_local) (λ m. fold_local (k.Module ∷ []) g.with_module m c.module_consumes module_local)
