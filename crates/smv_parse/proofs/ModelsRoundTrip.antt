-- The canonical text of a printable model stands for the same model.
use Rattle.std.proofs.Common.{◌≡◌, ℕ, Bool, true, List, [], ◌∷◌, ◌++◌, map, fold, codes, Some, refl, sym, ◌∙◌, ap, append_assoc, append-nil, inl, inr}
use Rattle.smv_ast.specs.declared.syntax.Span.{Span}
use Rattle.smv_ast.specs.declared.syntax.Expr.{Expr}
use Rattle.smv_ast.specs.declared.program.Section.{Section}
use Rattle.smv_ast.specs.declared.program.Section.TheVariants as section
use Rattle.smv_ast.specs.declared.program.Skipped.{Skipped}
use Rattle.smv_ast.specs.declared.program.Module.{Module}
use Rattle.smv_ast.specs.declared.program.Program.{Program}
use Rattle.smv_ast.specs.PrintedExpr.{printed_expr, concatenated}
use Rattle.smv_ast.specs.PrintedProgram.{in_parentheses, declaration_line, assignment_line, definition_line, printed_section, printed_module, printed_program}
use Rattle.smv_ast.specs.IgnoringSpans.{spanless_expr, spanless_declaration, spanless_assignment, spanless_definition, spanless_section, spanless_module, no_span}
use Rattle.smv_expr.specs.declared.kind.Kind.{Kind}
use Rattle.smv_expr.specs.declared.kind.Kind.TheVariants as k
use Rattle.smv_expr.specs.Lexicon.{Bytes}
use Rattle.smv_expr.specs.Language.{Tokens, word, many, opt, mapped}
use Rattle.smv_expr.specs.ExprGrammar.{expr}
use Rattle.smv_expr.specs.RoundTrip.{Printable, all_are}
use Rattle.smv_expr.proofs.Booleans.{both_left, both_right}
use Rattle.smv_expr.proofs.Cuts.{Spells, then, spelled_as, spelled_mapped, retext, in_row, many_spells}
use Rattle.smv_expr.proofs.CutWords.{any, name_spells}
use Rattle.smv_expr.proofs.RoundTrip.{expr_spells}
use Rattle.smv_parse.specs.declared.sections.Part.{Part}
use Rattle.smv_parse.specs.declared.sections.Part.TheVariants as part
use Rattle.smv_parse.specs.declared.sections.Parts.{Parts}
use Rattle.smv_parse.specs.declared.program.ModuleReading.{ModuleReading}
use Rattle.smv_parse.specs.declared.program.Reading.{Reading}
use Rattle.smv_parse.specs.Grammar as g
use Rattle.smv_parse.specs.Grammar.{with_part, no_parts, parts_of, with_module, single_module, program}
use Rattle.smv_parse.specs.RoundTrip.{is_printable_declaration, is_printable_assignment, is_printable_definition, is_printable_section, is_printable_module, PrintableProgram, IsSameModel}
use Rattle.smv_parse.proofs.Marks.{line_end, on_new_line, module_word, var_word, assign_word, define_word, init_section_word, invar_word, trans_word, invarspec_word}
use Rattle.smv_parse.proofs.ModelPieces.{formals_spell, parens_before, declaration_spells, assignment_spells, definition_spells}

-- ---- rows of lines

row_texts : {X : Type 0} (text : X → Bytes) (xs : List X) → in_row text xs ≡ concatenated (map text xs)
row_texts text [] = refl
row_texts text (x ∷ xs) = ap (λ t. text x ++ t) (row_texts text xs)

-- any number of texts, with anything after them
rows_spell : {A K X : Type 0} {L : ℕ → A → Tokens → Type 0} (u : A → K) (w : X → K) (ok : X → Bool) (text : X → Bytes) → ((x : X) → ok x ≡ true → Spells L (λ v. u v ≡ w x) any (text x))
    → (xs : List X) → all_are (map ok xs) ≡ true → Spells (λ m. many (L m)) (λ vs. map u vs ≡ map w xs) any (concatenated (map text xs))
rows_spell u w ok text each xs h = retext (row_texts text xs) (many_spells u w ok text (λ xs remaining e. refl) each xs h)

-- ---- sections

-- the expression of a constraint
constraint_spells : {text : Bytes} (kind : Kind) (of : Expr → Span → Section) (e : Expr) → Spells (λ m. word kind) (λ at. Unit {0}) any text → Printable e
    → Spells (λ m. mapped (λ p. of p.1 p.0) (g.constraint true (expr true m) kind)) (λ s. (p : Span × Expr) × (s ≡ of p.1 p.0) × (spanless_expr p.1 ≡ spanless_expr e)) any (text ++ (printed_expr e ++ codes ";\n"))
constraint_spells kind of e prefix h = spelled_mapped (λ p. of p.1 p.0) (λ p same. (p, refl, same))
    (spelled_mapped (λ p. (p.0, p.1.0)) (λ p same. same.1.0) (then prefix (then (expr_spells e h) semicolon (λ remaining r. refl)) (λ remaining r. refl))) where
      semicolon : Spells (λ m. opt (word k.Semicolon)) (λ o. Unit {0}) any (codes ";\n")
      semicolon = spelled_as (λ at. Some at) (λ m at ts r. inl (at, r, refl)) (λ at same. tt) line_end

-- the same section, ignoring spans
abbrev IsSection : Section → Section → Type 0
IsSection s t = spanless_section t ≡ spanless_section s

section_spells : (s : Section) → is_printable_section s ≡ true → Spells (λ m. g.one_section true (expr true m)) (IsSection s) any (printed_section s)
section_spells (section.Vars ds) h = spelled_as (λ p. section.Vars p.1) (λ m p ts r. inl (p, r, refl)) (λ p same. ap section.Vars same.1)
    (then var_word (rows_spell spanless_declaration spanless_declaration is_printable_declaration declaration_line declaration_spells ds h) (λ remaining e. refl))
section_spells (section.Assigns assigned) h = spelled_as (λ p. section.Assigns p.1) (λ m p ts r. inr (inl (p, r, refl))) (λ p same. ap section.Assigns same.1)
    (then assign_word (rows_spell spanless_assignment spanless_assignment is_printable_assignment assignment_line assignment_spells assigned h) (λ remaining e. refl))
section_spells (section.Defines ds) h = spelled_as (λ p. section.Defines p.1) (λ m p ts r. inr (inr (inl (p, r, refl)))) (λ p same. ap section.Defines same.1)
    (then define_word (rows_spell spanless_definition spanless_definition is_printable_definition definition_line definition_spells ds h) (λ remaining e. refl))
section_spells (section.Init e at) h = spelled_as (λ s. s) (λ m s ts r. inr (inr (inr (inl r)))) (λ s same. ap spanless_section same.1 ∙ ap (λ x. section.Init x no_span) same.2)
    (constraint_spells k.InitSection section.Init e init_section_word h)
section_spells (section.Invar e at) h = spelled_as (λ s. s) (λ m s ts r. inr (inr (inr (inr (inl r))))) (λ s same. ap spanless_section same.1 ∙ ap (λ x. section.Invar x no_span) same.2)
    (constraint_spells k.InvarSection section.Invar e invar_word h)
section_spells (section.Trans e at) h = spelled_as (λ s. s) (λ m s ts r. inr (inr (inr (inr (inr (inl r)))))) (λ s same. ap spanless_section same.1 ∙ ap (λ x. section.Trans x no_span) same.2)
    (constraint_spells k.TransSection section.Trans e trans_word h)
section_spells (section.InvarSpec e at) h = spelled_as (λ s. s) (λ m s ts r. inr (inr (inr (inr (inr (inr r)))))) (λ s same. ap spanless_section same.1 ∙ ap (λ x. section.InvarSpec x no_span) same.2)
    (constraint_spells k.InvarSpec section.InvarSpec e invarspec_word h)

-- ---- modules

-- a part without spans
abbrev spanless_part : Part → Part
spanless_part (part.Section s) = part.Section (spanless_section s)
spanless_part (part.Skipped s) = part.Skipped s

abbrev part_as : Section → Part
part_as s = part.Section (spanless_section s)

part_spells : (s : Section) → is_printable_section s ≡ true → Spells (λ m. g.one_part true (expr true m)) (λ v. spanless_part v ≡ part_as s) any (printed_section s)
part_spells s h = spelled_as part.Section (λ m v ts r. inl (v, r, refl)) (λ v same. ap part.Section same) (section_spells s h)

map_append : {A B : Type 0} (f : A → B) (xs ys : List A) → map f (xs ++ ys) ≡ map f xs ++ map f ys
map_append f [] ys = refl
map_append f (x ∷ xs) ys = ap (λ zs. f x ∷ zs) (map_append f xs ys)

-- the parts so far, and these sections after them
record IsKept (so_far : Parts) (ss : List Section) (parts : Parts) : Type 0 where
  sections : map spanless_section parts.sections ≡ map spanless_section so_far.sections ++ map spanless_section ss
  skipped : parts.skipped ≡ so_far.skipped

abbrev section_in : Part → Section
section_in (part.Section s) = s
section_in (part.Skipped s) = section.Vars []

abbrev first_of : {A : Type 0} → A → List A → A
first_of a [] = a
first_of a (b ∷ bs) = b

abbrev remaining_of : {A : Type 0} → List A → List A
remaining_of [] = []
remaining_of (b ∷ bs) = bs

kept_section : (so_far : Parts) (s t : Section) (ss : List Section) (parts : Parts) → spanless_section s ≡ spanless_section t → IsKept (with_part so_far (part.Section s)) ss parts → IsKept so_far (t ∷ ss) parts
kept_section so_far s t ss parts same kept = record {
  sections = kept.sections ∙ ap (λ xs. xs ++ map spanless_section ss) (map_append spanless_section so_far.sections (s ∷ []))
      ∙ append_assoc (map spanless_section so_far.sections) (spanless_section s ∷ []) (map spanless_section ss)
      ∙ ap (λ x. map spanless_section so_far.sections ++ x ∷ map spanless_section ss) same;
  skipped = kept.skipped;
}

all_kept : (so_far : Parts) (vs : List Part) (ss : List Section) → map spanless_part vs ≡ map part_as ss → IsKept so_far ss (fold with_part so_far vs)
all_kept so_far [] [] h = record { sections = sym (append-nil (map spanless_section so_far.sections)); skipped = refl }
all_kept so_far [] (s ∷ ss) h = cc
all_kept so_far (v ∷ vs) [] h = cc
all_kept so_far (part.Skipped v ∷ vs) (s ∷ ss) h = cc
all_kept so_far (part.Section v ∷ vs) (s ∷ ss) h = kept_section so_far v s ss (fold with_part (with_part so_far (part.Section v)) vs)
    (ap (λ xs. section_in (first_of (part_as s) xs)) h) (all_kept (with_part so_far (part.Section v)) vs ss (ap remaining_of h))

parts_spell : (ss : List Section) → all_are (map is_printable_section ss) ≡ true → Spells (λ m. g.all_parts true (expr true m)) (IsKept no_parts ss) any (concatenated (map printed_section ss))
parts_spell ss h = spelled_mapped parts_of (λ vs same. all_kept no_parts vs ss same) (rows_spell spanless_part part_as is_printable_section printed_section part_spells ss h)

-- the same module, ignoring spans, and nothing skipped
abbrev module_key : ModuleReading → Module × List Skipped
module_key r = (spanless_module r.«module», r.skipped)

abbrev module_as : Module → Module × List Skipped
module_as m = (spanless_module m, [])

module_text : (m : Module) → codes "MODULE " ++ (m.name ++ (in_parentheses m.formals ++ (codes "\n" ++ concatenated (map printed_section m.sections)))) ≡ printed_module m
module_text m = let prefix = codes "MODULE " ++ m.name in let formals = in_parentheses m.formals in let sections = concatenated (map printed_section m.sections) in
    sym (append_assoc (prefix ++ formals) (codes "\n") sections ∙ append_assoc prefix formals (codes "\n" ++ sections))

module_spells : (m : Module) → is_printable_module m ≡ true → Spells (λ n. g.one_module true (expr true n)) (λ v. module_key v ≡ module_as m) any (printed_module m)
module_spells m h = spelled_mapped g.module_of
    (λ p same. ap (λ x. (record { name = x; formals = p.1.1.0; sections = map spanless_section p.1.1.1.sections; at = no_span }, p.1.1.1.skipped)) same.1.0
    ∙ ap (λ x. (record { name = m.name; formals = x; sections = map spanless_section p.1.1.1.sections; at = no_span }, p.1.1.1.skipped)) same.1.1.0
    ∙ ap (λ x. (record { name = m.name; formals = m.formals; sections = x; at = no_span }, p.1.1.1.skipped)) same.1.1.1.sections
    ∙ ap (λ x. (spanless_module m, x)) same.1.1.1.skipped)
    (retext (module_text m) (then module_word (then (name_spells m.name (both_left _ _ h)) (then (formals_spell m.formals (both_left _ _ (both_right _ _ h)))
    (on_new_line (parts_spell m.sections (both_right _ _ (both_right _ _ h)))) (λ remaining e. refl)) (λ remaining e. parens_before m.formals _ remaining refl)) (λ remaining e. refl)))

-- ---- models

-- the modules so far, and these after them
record AreKept (so_far : Reading) (ms : List Module) (r : Reading) : Type 0 where
  modules : map spanless_module r.program.modules ≡ map spanless_module so_far.program.modules ++ map spanless_module ms
  skipped : r.skipped ≡ so_far.skipped

kept_module : (so_far : Reading) (v : ModuleReading) (m : Module) (ms : List Module) (r : Reading) → module_key v ≡ module_as m → AreKept (with_module so_far v) ms r → AreKept so_far (m ∷ ms) r
kept_module so_far v m ms r same kept = record {
  modules = kept.modules ∙ ap (λ xs. xs ++ map spanless_module ms) (map_append spanless_module so_far.program.modules (v.«module» ∷ []))
      ∙ append_assoc (map spanless_module so_far.program.modules) (spanless_module v.«module» ∷ []) (map spanless_module ms)
      ∙ ap (λ x. map spanless_module so_far.program.modules ++ x.0 ∷ map spanless_module ms) same;
  skipped = kept.skipped ∙ ap (λ x. so_far.skipped ++ x.1) same ∙ append-nil so_far.skipped;
}

modules_kept : (so_far : Reading) (vs : List ModuleReading) (ms : List Module) → map module_key vs ≡ map module_as ms → AreKept so_far ms (fold with_module so_far vs)
modules_kept so_far [] [] h = record { modules = sym (append-nil (map spanless_module so_far.program.modules)); skipped = refl }
modules_kept so_far [] (m ∷ ms) h = cc
modules_kept so_far (v ∷ vs) [] h = cc
modules_kept so_far (v ∷ vs) (m ∷ ms) h = kept_module so_far v m ms (fold with_module (with_module so_far v) vs)
    (ap (first_of (module_as m)) h) (modules_kept (with_module so_far v) vs ms (ap remaining_of h))

first_spells : (m : Module) → is_printable_module m ≡ true → Spells (λ n. mapped single_module (g.one_module true (expr true n))) (IsSameModel (record { modules = m ∷ [] })) any (printed_module m)
first_spells m h = spelled_mapped single_module (λ v same. (ap (λ x. record { modules = x.0 ∷ [] }) same, ap (λ x. x.1) same)) (module_spells m h)

modules_round_trip : (m : Module) (ms : List Module) (first : Reading) (vs : List ModuleReading) → IsSameModel (record { modules = m ∷ [] }) first → map module_key vs ≡ map module_as ms
    → IsSameModel (record { modules = m ∷ ms }) (fold with_module first vs)
modules_round_trip m ms first vs suffix same = let kept = modules_kept first vs ms same in (
  ap (λ xs. record { modules = xs }) (kept.modules ∙ ap (λ p. p.modules ++ map spanless_module ms) suffix.0),
  kept.skipped ∙ suffix.1,
)

modules_spell : (ms : List Module) → PrintableProgram (record { modules = ms }) → Spells (program true) (IsSameModel (record { modules = ms })) any (concatenated (map printed_module ms))
modules_spell [] h = cc
modules_spell (m ∷ ms) h = spelled_mapped (λ p. fold with_module p.0 p.1) (λ p same. modules_round_trip m ms p.0 p.1 same.0 same.1)
    (then (first_spells m (both_left _ _ h)) (rows_spell module_key module_as is_printable_module printed_module module_spells ms (both_right _ _ h)) (λ remaining e. refl))

-- The canonical text of a printable model, whatever comes after it.
pub program_spells : (p : Program) → PrintableProgram p → Spells (program true) (IsSameModel p) any (printed_program p)
program_spells p h = modules_spell p.modules h
