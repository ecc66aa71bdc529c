-- Canonical texts of types, declarations, assignments and definitions, from those of their parts.
use Rattle.std.proofs.Common.{◌≡◌, ℕ, Bool, true, ℤ, List, [], ◌∷◌, ◌++◌, map, codes, refl, sym, ◌∙◌, ap, append_assoc, inl, inr}
use Rattle.std.specs.Fmt.{signed_decimal}
use Rattle.smv_ast.specs.declared.syntax.SmvType.{SmvType}
use Rattle.smv_ast.specs.declared.syntax.SmvType.TheVariants as type
use Rattle.smv_ast.specs.declared.syntax.Expr.{Expr}
use Rattle.smv_ast.specs.declared.program.Declared.{Declared}
use Rattle.smv_ast.specs.declared.program.Declared.TheVariants as declared
use Rattle.smv_ast.specs.declared.program.Declaration.{Declaration}
use Rattle.smv_ast.specs.declared.program.Left.{Left}
use Rattle.smv_ast.specs.declared.program.Left.TheVariants as left
use Rattle.smv_ast.specs.declared.program.Assignment.{Assignment}
use Rattle.smv_ast.specs.declared.program.Definition.{Definition}
use Rattle.smv_ast.specs.PrintedExpr.{piece_of, printed_expr, each_after, listed, texts}
use Rattle.smv_ast.specs.PrintedProgram.{in_parentheses, printed_type, printed_declared, printed_left, declaration_line, assignment_line, definition_line}
use Rattle.smv_ast.specs.IgnoringSpans.{spanless_expr, spanless_declared, spanless_declaration, spanless_assignment, spanless_definition, no_span}
use Rattle.smv_expr.specs.declared.kind.Kind.TheVariants as k
use Rattle.smv_expr.specs.Lexicon.{Bytes, words, same_kind}
use Rattle.smv_expr.specs.Language.{Tokens, word, both, many, either, mapped, nothing}
use Rattle.smv_expr.specs.ExprGrammar.{expr}
use Rattle.smv_expr.specs.RoundTrip.{is_name, is_small_sign, is_printable, all_are}
use Rattle.smv_expr.proofs.Booleans.{both_left, both_right}
use Rattle.smv_expr.proofs.Cuts.{Spells, then, spelled_as, spelled_mapped, weakened, retext, in_row, many_spells}
use Rattle.smv_expr.proofs.CutWords.{any, ends, word_spells, name_spells}
use Rattle.smv_expr.proofs.CutMarks.{open_paren, close_paren, open_brace, close_brace, comma, colon}
use Rattle.smv_expr.proofs.Pieces.{sign_read, up_to_read}
use Rattle.smv_expr.proofs.RoundTrip.{expr_spells}
use Rattle.smv_parse.specs.declared.names.LeftSide.{LeftSide}
use Rattle.smv_expr.specs.Names as lists
use Rattle.smv_parse.specs.Grammar as g
use Rattle.smv_parse.specs.RoundTrip.{is_printable_type, is_printable_declared, is_printable_declaration, is_printable_assignment, is_printable_definition}
use Rattle.smv_parse.proofs.Marks.{becomes, line_end, indented}

-- no text at all
pub none : {A : Type 0} (v : A) → Spells (λ m. nothing v) (λ a. a ≡ v) ends []
none v = record {
  depth = 0;
  at = λ m h file start remaining e. record { prefix = []; after_it = start; value = v; split = refl; reads = (refl, refl); keeps = refl; narrow = refl };
}

-- ---- lists with commas. What is kept of an item after a comma is f of its value.

module _ {A B K X : Type 0} {L : ℕ → A → Tokens → Type 0} (f : A → B) (u : B → K) (w : X → K) (ok : X → Bool) (text : X → Bytes) (each : (x : X) → ok x ≡ true → Spells L (λ v. u (f v) ≡ w x) ends (text x)) where
  abbrev after_comma : X → Bytes
  after_comma x = codes ", " ++ text x

  commas_end : (xs : List X) (remaining : Bytes) → ends remaining ≡ true → ends (in_row after_comma xs ++ remaining) ≡ true
  commas_end [] remaining h = h
  commas_end (x ∷ xs) remaining h = refl

  next_item : (x : X) → ok x ≡ true → Spells (λ m. mapped (λ p. f p.1) (both (word k.Comma) (L m))) (λ v. u v ≡ w x) ends (after_comma x)
  next_item x h = spelled_mapped (λ p. f p.1) (λ p same. same.1) (then comma (each x h) (λ remaining e. refl))

  pub list_spells : (x : X) (xs : List X) → all_are (map ok (x ∷ xs)) ≡ true
      → Spells (λ m. both (L m) (many (mapped (λ p. f p.1) (both (word k.Comma) (L m))))) (λ v. map u (f v.0 ∷ v.1) ≡ map w (x ∷ xs)) ends (text x ++ in_row after_comma xs)
  list_spells x xs h = spelled_as (λ v. v) (λ m v ts r. r) (λ v same. ap (λ y. y ∷ map u v.1) same.0 ∙ ap (λ ys. w x ∷ ys) same.1)
      (then (each x (both_left _ _ h)) (many_spells u w ok after_comma commas_end next_item xs (both_right _ _ h)) (λ remaining e. commas_end xs remaining e))

commas_row : {X : Type 0} (text : X → Bytes) (xs : List X) → in_row (λ x. codes ", " ++ text x) xs ≡ each_after (codes ", ") (map text xs)
commas_row text [] = refl
commas_row text (x ∷ xs) = ap (λ t. (codes ", " ++ text x) ++ t) (commas_row text xs)

pub map_id : {X : Type 0} (xs : List X) → map (λ x. x) xs ≡ xs
map_id [] = refl
map_id (x ∷ xs) = ap (λ ys. x ∷ ys) (map_id xs)

same_items : {X : Type 0} (xs others : List X) → map (λ x. x) others ≡ map (λ x. x) xs → others ≡ xs
same_items xs others h = sym (map_id others) ∙ h ∙ map_id xs

expr_texts : (xs : List Expr) → map printed_expr xs ≡ texts (map piece_of xs)
expr_texts [] = refl
expr_texts (x ∷ xs) = ap (λ ys. printed_expr x ∷ ys) (expr_texts xs)

pub names_spell : (n : Bytes) (names : List Bytes) → all_are (map is_name (n ∷ names)) ≡ true → Spells (λ m. lists.names) (λ v. v ≡ n ∷ names) ends (listed (n ∷ names))
names_spell n names h = spelled_mapped lists.names_of (λ v same. same_items (n ∷ names) (v.0.0 ∷ v.1) same)
    (retext (ap (λ t. n ++ t) (commas_row (λ x. x) names ∙ ap (each_after (codes ", ")) (map_id names)))
    (list_spells (λ v. v.0) (λ x. x) (λ x. x) is_name (λ x. x) name_spells n names h))

numbers_spell : (z : ℤ) (numbers : List ℤ) → all_are (map is_small_sign (z ∷ numbers)) ≡ true → Spells (λ m. g.numbers true) (λ v. v ≡ type.Numbers (z ∷ numbers)) ends (listed (map signed_decimal (z ∷ numbers)))
numbers_spell z numbers h = spelled_mapped (λ p. type.Numbers (p.0 ∷ p.1)) (λ v same. ap type.Numbers (same_items (z ∷ numbers) (v.0 ∷ v.1) same))
    (retext (ap (λ t. signed_decimal z ++ t) (commas_row signed_decimal numbers))
    (list_spells (λ x. x) (λ x. x) (λ x. x) is_small_sign signed_decimal sign_read z numbers h))

exprs_spell : (x : Expr) (xs : List Expr) → all_are (map is_printable (x ∷ xs)) ≡ true
    → Spells (λ m. g.exprs true (expr true m)) (λ v. map spanless_expr v ≡ map spanless_expr (x ∷ xs)) ends (listed (texts (map piece_of (x ∷ xs))))
exprs_spell x xs h = spelled_mapped (λ p. p.0 ∷ p.1) (λ v same. same)
    (retext (ap (λ t. printed_expr x ++ t) (commas_row printed_expr xs ∙ ap (each_after (codes ", ")) (expr_texts xs)))
    (list_spells (λ x. x) spanless_expr spanless_expr is_printable printed_expr expr_spells x xs h))

-- ---- parentheses

parens_end : (items : List Bytes) (remaining : Bytes) → ends remaining ≡ true → ends (in_parentheses items ++ remaining) ≡ true
parens_end [] remaining h = h
parens_end (x ∷ xs) remaining h = refl

pub parens_before : (items : List Bytes) (suffix remaining : Bytes) → ends (suffix ++ remaining) ≡ true → ends (in_parentheses items ++ suffix ++ remaining) ≡ true
parens_before items suffix remaining h = ap ends (append_assoc (in_parentheses items) suffix remaining) ∙ parens_end items (suffix ++ remaining) h

pub formals_spell : (names : List Bytes) → all_are (map is_name names) ≡ true → Spells (λ m. either g.formals (nothing [])) (λ v. v ≡ names) ends (in_parentheses names)
formals_spell [] h = spelled_as (λ v. v) (λ m v ts r. inr r) (λ v same. same) (none [])
formals_spell (n ∷ names) h = weakened ends (λ remaining e. refl) (spelled_as (λ p. p.1.0) (λ m p ts r. inl (p, r, refl)) (λ p same. same.1.0)
    (then open_paren (then (spelled_as (λ v. v) (λ m v ts r. inl r) (λ v same. same) (names_spell n names h)) close_paren (λ remaining e. refl)) (λ remaining e. refl)))

actuals_spell : (actuals : List Expr) → all_are (map is_printable actuals) ≡ true
    → Spells (λ m. either (g.actuals true (expr true m)) (nothing [])) (λ v. map spanless_expr v ≡ map spanless_expr actuals) ends (in_parentheses (texts (map piece_of actuals)))
actuals_spell [] h = spelled_as (λ v. v) (λ m v ts r. inr r) (λ v same. ap (map spanless_expr) same) (none [])
actuals_spell (x ∷ xs) h = weakened ends (λ remaining e. refl) (spelled_as (λ p. p.1.0) (λ m p ts r. inl (p, r, refl)) (λ p same. same.1.0)
    (then open_paren (then (spelled_as (λ v. v) (λ m v ts r. inl r) (λ v same. same) (exprs_spell x xs h)) close_paren (λ remaining e. refl)) (λ remaining e. refl)))

-- ---- types

braces_spell : {t : SmvType} {text : Bytes} → Spells (λ m. either (g.numbers true) g.symbols) (λ v. v ≡ t) ends text → Spells (λ m. g.smv_type true) (λ v. v ≡ t) ends (codes "{" ++ text ++ codes "}")
braces_spell x = weakened ends (λ remaining e. refl) (spelled_as (λ p. p.1.0) (λ m p ts r. inr (inl (p, r, refl))) (λ p same. same.1.0)
    (then open_brace (then x close_brace (λ remaining e. refl)) (λ remaining e. refl)))

type_spells : (t : SmvType) → is_printable_type t ≡ true → Spells (λ m. g.smv_type true) (λ v. v ≡ t) ends (printed_type t)
unfolding same_kind words
type_spells type.Boolean h = spelled_as (λ at. type.Boolean) (λ m at ts r. inl (at, r, refl)) (λ at same. refl) (word_spells k.Boolean (codes "boolean") refl refl refl refl refl)
type_spells (type.Range low high) h = spelled_as (λ p. type.Range p.0 p.1) (λ m p ts r. inr (inr (p, r, refl)))
    (λ p same. ap (λ x. type.Range x p.1) same.0 ∙ ap (λ x. type.Range low x) same.1)
    (retext (sym (append_assoc (signed_decimal low) (codes "..") (signed_decimal high))) (then (sign_read low (both_left _ _ h)) (up_to_read high (both_right _ _ h)) (λ remaining e. refl)))
type_spells (type.Numbers []) h = cc
type_spells (type.Numbers (z ∷ numbers)) h = braces_spell (spelled_as (λ v. v) (λ m v ts r. inl r) (λ v same. same) (numbers_spell z numbers h))
type_spells (type.Symbols []) h = cc
type_spells (type.Symbols (n ∷ names)) h = braces_spell (spelled_as type.Symbols (λ m v ts r. inr (v, r, refl)) (λ v same. ap type.Symbols same) (names_spell n names h))

-- ---- declarations

declared_spells : (d : Declared) → is_printable_declared d ≡ true → Spells (λ m. g.declared_as true (expr true m)) (λ v. spanless_declared v ≡ spanless_declared d) ends (printed_declared d)
declared_spells (declared.Plain t) h = spelled_as declared.Plain (λ m v ts r. inl (v, r, refl)) (λ v same. ap declared.Plain same) (type_spells t h)
declared_spells (declared.Instance called actuals) h = spelled_as g.instance_of (λ m p ts r. inr (p, r, refl))
    (λ p same. ap (λ x. declared.Instance x (map spanless_expr p.1)) same.0 ∙ ap (declared.Instance called) same.1)
    (then (name_spells called (both_left _ _ h)) (actuals_spell actuals (both_right _ _ h)) (λ remaining e. parens_end (texts (map piece_of actuals)) remaining e))

-- a text between its mark and the end of its line
three_parts : (prefix mark suffix : Bytes) → prefix ++ (mark ++ (suffix ++ codes ";\n")) ≡ prefix ++ mark ++ suffix ++ codes ";\n"
three_parts prefix mark suffix = sym (append_assoc (prefix ++ mark) suffix (codes ";\n") ∙ append_assoc prefix mark (suffix ++ codes ";\n"))

pub declaration_spells : (d : Declaration) → is_printable_declaration d ≡ true → Spells (λ m. g.declaration true (expr true m)) (λ v. spanless_declaration v ≡ spanless_declaration d) any (declaration_line d)
declaration_spells d h = indented (spelled_mapped g.declaration_of
    (λ p same. ap (λ x. record { name = x; what = spanless_declared p.1.1.0; at = no_span }) same.0 ∙ ap (λ x. record { name = d.name; what = x; at = no_span }) same.1.1.0)
    (retext (three_parts d.name (codes " : ") (printed_declared d.what))
    (then (name_spells d.name (both_left _ _ h)) (then colon (then (declared_spells d.what (both_right _ _ h)) line_end (λ remaining e. refl)) (λ remaining e. refl)) (λ remaining e. refl))))

-- ---- left sides

-- a left side of this kind and this name
record IsLeft (of : Left) (called : Bytes) (side : LeftSide) : Type 0 where
  left_is : side.left ≡ of
  name_is : side.name ≡ called

in_parens_spell : (called : Bytes) → is_name called ≡ true → Spells (λ m. g.name_in_parens) (λ v. v ≡ called) any (codes "(" ++ called ++ codes ")")
in_parens_spell called h = spelled_mapped (λ p. p.1.0.0) (λ p same. same.1.0) (then open_paren (then (name_spells called h) close_paren (λ remaining e. refl)) (λ remaining e. refl))

left_spells : (of : Left) (called : Bytes) → is_name called ≡ true → Spells (λ m. g.left_side) (IsLeft of called) ends (printed_left of called)
unfolding same_kind words
left_spells left.Init called h = weakened ends (λ remaining e. refl) (spelled_as (g.side_of left.Init) (λ m p ts r. inl (p, r, refl)) (λ p same. record { left_is = refl; name_is = same.1 })
    (then (word_spells k.Init (codes "init") refl refl refl refl refl) (in_parens_spell called h) (λ remaining e. refl)))
left_spells left.Next called h = weakened ends (λ remaining e. refl) (spelled_as (g.side_of left.Next) (λ m p ts r. inr (inl (p, r, refl))) (λ p same. record { left_is = refl; name_is = same.1 })
    (then (word_spells k.Next (codes "next") refl refl refl refl refl) (in_parens_spell called h) (λ remaining e. refl)))
left_spells left.Now called h = spelled_as g.current_side_of (λ m p ts r. inr (inr (p, r, refl))) (λ p same. record { left_is = refl; name_is = same }) (name_spells called h)

-- ---- assignments and definitions

pub assignment_spells : (a : Assignment) → is_printable_assignment a ≡ true → Spells (λ m. g.assignment true (expr true m)) (λ v. spanless_assignment v ≡ spanless_assignment a) any (assignment_line a)
assignment_spells a h = indented (spelled_mapped g.assignment_of
    (λ p same. ap (λ x. record { left = x; name = p.0.name; right = spanless_expr p.1.1.0; at = no_span }) same.0.left_is
    ∙ ap (λ x. record { left = a.left; name = x; right = spanless_expr p.1.1.0; at = no_span }) same.0.name_is
    ∙ ap (λ x. record { left = a.left; name = a.name; right = x; at = no_span }) same.1.1.0)
    (retext (three_parts (printed_left a.left a.name) (codes " := ") (printed_expr a.right))
    (then (left_spells a.left a.name (both_left _ _ h)) (then becomes (then (expr_spells a.right (both_right _ _ h)) line_end (λ remaining e. refl)) (λ remaining e. refl)) (λ remaining e. refl))))

pub definition_spells : (d : Definition) → is_printable_definition d ≡ true → Spells (λ m. g.definition true (expr true m)) (λ v. spanless_definition v ≡ spanless_definition d) any (definition_line d)
definition_spells d h = indented (spelled_mapped g.definition_of
    (λ p same. ap (λ x. record { name = x; right = spanless_expr p.1.1.0; at = no_span }) same.0 ∙ ap (λ x. record { name = d.name; right = x; at = no_span }) same.1.1.0)
    (retext (three_parts d.name (codes " := ") (printed_expr d.right))
    (then (name_spells d.name (both_left _ _ h)) (then becomes (then (expr_spells d.right (both_right _ _ h)) line_end (λ remaining e. refl)) (λ remaining e. refl)) (λ remaining e. refl))))
