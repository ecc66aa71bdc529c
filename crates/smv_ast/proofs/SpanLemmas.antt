-- The canonical text is independent of spans: by layers for expressions, by parts for models.
use Rattle.std.proofs.Common.{◌≡◌, ℕ, List, [], ◌∷◌, ◌++◌, codes, map, refl, sym, ◌∙◌, ap, subst}
use Rattle.smv_ast.specs.declared.syntax.Expr.{Expr, Expr-F, roll-Expr, fold-roll-Expr, map-Expr, ind-Expr}
use Rattle.smv_ast.specs.declared.syntax.Choice.{Choice, Choice-F, roll-Choice, fold-roll-Choice, map-Choice, fold-Choice}
use Rattle.smv_ast.specs.declared.syntax.Branch.{Branch, Branch-F, roll-Branch, fold-roll-Branch, fold-Branch}
use Rattle.smv_ast.specs.declared.program.Declared.{Declared}
use Rattle.smv_ast.specs.declared.program.Declared.TheVariants.{Plain, Instance}
use Rattle.smv_ast.specs.declared.program.Section.{Section}
use Rattle.smv_ast.specs.declared.program.Section.TheVariants as section
use Rattle.smv_ast.specs.declared.program.Module.{Module}
use Rattle.smv_ast.specs.declared.program.Program.{Program}
use Rattle.smv_ast.specs.PrintedExpr.{Piece, piece_of, printed_choice, printed_branch, choice_layer, expr_layer, branch_layer, op_text, operand, compound_piece, primary_piece, concatenated, listed, texts}
use Rattle.smv_ast.specs.PrintedProgram.{in_parentheses, printed_declared, declaration_line, assignment_line, definition_line, item_line, constraint_line, printed_left, printed_section, printed_module, printed_program}
use Rattle.smv_ast.specs.IgnoringSpans.{spanless_expr, spanless_layer, spanless_declared, spanless_declaration, spanless_assignment, spanless_definition, spanless_section, spanless_module, spanless_program, SameProgram}

abbrev spanless_choice : Choice → Choice
spanless_choice = fold-Choice Choice Expr Branch roll-Choice (λ e. roll-Expr (spanless_layer e)) roll-Branch

abbrev spanless_branch : Branch → Branch
spanless_branch = fold-Branch Choice Expr Branch roll-Choice (λ e. roll-Expr (spanless_layer e)) roll-Branch

abbrev KeepsChoice : Choice → Type 0
KeepsChoice c = printed_choice (spanless_choice c) ≡ printed_choice c

abbrev KeepsExpr : Expr → Type 0
KeepsExpr e = piece_of (spanless_expr e) ≡ piece_of e

abbrev KeepsBranch : Branch → Type 0
KeepsBranch b = printed_branch (spanless_branch b) ≡ printed_branch b

-- parts whose texts are unchanged
abbrev Choices : Type 0
Choices = (c : Choice) × KeepsChoice c

abbrev Exprs : Type 0
Exprs = (e : Expr) × KeepsExpr e

abbrev Branches : Type 0
Branches = (b : Branch) × KeepsBranch b

-- a function that gives the same for a changed item
pub map_kept : {A X : Type 0} (f : A → X) (change : A → A) → ((a : A) → f (change a) ≡ f a) → (items : List A) → map f (map change items) ≡ map f items
map_kept f change kept [] = refl
map_kept f change kept (a ∷ items) = ap (λ x. x ∷ map f (map change items)) (kept a) ∙ ap (λ xs. f a ∷ xs) (map_kept f change kept items)

kept_parts : {A B X : Type 0} (part : A → B) (f : B → X) (change : B → B) → ((a : A) → f (change (part a)) ≡ f (part a)) → (items : List A) → map f (map change (map part items)) ≡ map f (map part items)
kept_parts part f change kept [] = refl
kept_parts part f change kept (a ∷ items) = ap (λ x. x ∷ map f (map change (map part items))) (kept a) ∙ ap (λ xs. f (part a) ∷ xs) (kept_parts part f change kept items)

-- ---- one layer

abbrev choice_texts : Choice-F Choice Expr Branch → Choice-F (List ℕ) Piece (List ℕ)
choice_texts = map-Choice Choice Expr Branch (List ℕ) Piece (List ℕ) printed_choice piece_of printed_branch

abbrev expr_texts : Expr-F Choice Expr Branch → Expr-F (List ℕ) Piece (List ℕ)
expr_texts = map-Expr Choice Expr Branch (List ℕ) Piece (List ℕ) printed_choice piece_of printed_branch

abbrev choice_spanless : Choice-F Choice Expr Branch → Choice-F Choice Expr Branch
choice_spanless = map-Choice Choice Expr Branch Choice Expr Branch spanless_choice spanless_expr spanless_branch

abbrev expr_spanless : Expr-F Choice Expr Branch → Expr-F Choice Expr Branch
expr_spanless = map-Expr Choice Expr Branch Choice Expr Branch spanless_choice spanless_expr spanless_branch

abbrev choice_of : Choice-F Choices Exprs Branches → Choice-F Choice Expr Branch
choice_of = map-Choice Choices Exprs Branches Choice Expr Branch (λ c. c.0) (λ e. e.0) (λ b. b.0)

abbrev expr_of : Expr-F Choices Exprs Branches → Expr-F Choice Expr Branch
expr_of = map-Expr Choices Exprs Branches Choice Expr Branch (λ c. c.0) (λ e. e.0) (λ b. b.0)

choice_layer_kept : (y : Choice-F Choices Exprs Branches) → choice_layer (choice_texts (choice_spanless (choice_of y))) ≡ choice_layer (choice_texts (choice_of y))
choice_layer_kept (Choice-F.Each parts) = ap (λ ps. codes "{" ++ listed (texts ps) ++ codes "}") (kept_parts (λ e. e.0) piece_of spanless_expr (λ e. e.1) parts)
choice_layer_kept (Choice-F.Between low high) = refl

expr_layer_kept : (y : Expr-F Choices Exprs Branches) → expr_layer (expr_texts (spanless_layer (expr_spanless (expr_of y)))) ≡ expr_layer (expr_texts (expr_of y))
expr_layer_kept Expr-F.True = refl
expr_layer_kept Expr-F.False = refl
expr_layer_kept (Expr-F.Number n) = refl
expr_layer_kept (Expr-F.Name path) = refl
expr_layer_kept (Expr-F.Neg a) = ap (λ p. compound_piece (codes "-" ++ operand p)) a.1
expr_layer_kept (Expr-F.Not a) = ap (λ p. compound_piece (codes "!" ++ operand p)) a.1
expr_layer_kept (Expr-F.Binary op a b) = ap (λ p. compound_piece (operand p ++ op_text op ++ operand (piece_of (spanless_expr b.0)))) a.1 ∙ ap (λ p. compound_piece (operand (piece_of a.0) ++ op_text op ++ operand p)) b.1
expr_layer_kept (Expr-F.Within a c) = ap (λ p. compound_piece (operand p ++ codes " in " ++ printed_choice (spanless_choice c.0))) a.1 ∙ ap (λ t. compound_piece (operand (piece_of a.0) ++ codes " in " ++ t)) c.1
expr_layer_kept (Expr-F.Cases branches) = ap (λ ts. primary_piece (codes "case " ++ concatenated ts ++ codes "esac")) (kept_parts (λ b. b.0) printed_branch spanless_branch (λ b. b.1) branches)
expr_layer_kept (Expr-F.Next a) = ap (λ p. primary_piece (codes "next(" ++ p.text ++ codes ")")) a.1
expr_layer_kept (Expr-F.Pick c) = ap compound_piece c.1

abbrev choice_step : (d : Choice-F Choice Expr Branch) → choice_layer (choice_texts (choice_spanless d)) ≡ choice_layer (choice_texts d) → KeepsChoice (roll-Choice d)
choice_step d kept =
    ap printed_choice (fold-roll-Choice Choice Expr Branch roll-Choice (λ e. roll-Expr (spanless_layer e)) roll-Branch d)
    ∙ fold-roll-Choice (List ℕ) Piece (List ℕ) choice_layer expr_layer branch_layer (choice_spanless d)
    ∙ kept
    ∙ sym (fold-roll-Choice (List ℕ) Piece (List ℕ) choice_layer expr_layer branch_layer d)

abbrev expr_step : (d : Expr-F Choice Expr Branch) → expr_layer (expr_texts (spanless_layer (expr_spanless d))) ≡ expr_layer (expr_texts d) → KeepsExpr (roll-Expr d)
expr_step d kept =
    ap piece_of (fold-roll-Expr Choice Expr Branch roll-Choice (λ e. roll-Expr (spanless_layer e)) roll-Branch d)
    ∙ fold-roll-Expr (List ℕ) Piece (List ℕ) choice_layer expr_layer branch_layer (spanless_layer (expr_spanless d))
    ∙ kept
    ∙ sym (fold-roll-Expr (List ℕ) Piece (List ℕ) choice_layer expr_layer branch_layer d)

branch_step : (a b : Exprs) → KeepsBranch (roll-Branch (record { cond = a.0; value = b.0 }))
branch_step a b =
    ap printed_branch (fold-roll-Branch Choice Expr Branch roll-Choice (λ e. roll-Expr (spanless_layer e)) roll-Branch (record { cond = a.0; value = b.0 }))
    ∙ fold-roll-Branch (List ℕ) Piece (List ℕ) choice_layer expr_layer branch_layer (record { cond = spanless_expr a.0; value = spanless_expr b.0 })
    ∙ ap (λ p. branch_layer (record { cond = p; value = piece_of (spanless_expr b.0) })) a.1
    ∙ ap (λ p. branch_layer (record { cond = piece_of a.0; value = p })) b.1
    ∙ sym (fold-roll-Branch (List ℕ) Piece (List ℕ) choice_layer expr_layer branch_layer (record { cond = a.0; value = b.0 }))

pub piece_of-spanless : (e : Expr) → KeepsExpr e
piece_of-spanless = ind-Expr KeepsChoice KeepsExpr KeepsBranch
    (λ x y e. subst (λ (d : Choice-F Choice Expr Branch). KeepsChoice (roll-Choice d)) e (choice_step (choice_of y) (choice_layer_kept y)))
    (λ x y e. subst (λ (d : Expr-F Choice Expr Branch). KeepsExpr (roll-Expr d)) e (expr_step (expr_of y) (expr_layer_kept y)))
    (λ x y e. subst (λ (d : Branch-F Choice Expr Branch). KeepsBranch (roll-Branch d)) e (branch_step y.cond y.value))

-- ---- models

declared-spanless : (d : Declared) → printed_declared (spanless_declared d) ≡ printed_declared d
declared-spanless (Plain type) = refl
declared-spanless (Instance name actuals) = ap (λ ps. name ++ in_parentheses (texts ps)) (map_kept piece_of spanless_expr piece_of-spanless actuals)

section-spanless : (s : Section) → printed_section (spanless_section s) ≡ printed_section s
section-spanless (section.Vars ds) = ap (λ ts. codes "VAR\n" ++ concatenated ts) (map_kept declaration_line spanless_declaration (λ d. ap (λ t. item_line (d.name ++ codes " : " ++ t)) (declared-spanless d.what)) ds)
section-spanless (section.Assigns items) = ap (λ ts. codes "ASSIGN\n" ++ concatenated ts) (map_kept assignment_line spanless_assignment (λ a. ap (λ p. item_line (printed_left a.left a.name ++ codes " := " ++ p.text)) (piece_of-spanless a.right)) items)
section-spanless (section.Defines ds) = ap (λ ts. codes "DEFINE\n" ++ concatenated ts) (map_kept definition_line spanless_definition (λ d. ap (λ p. item_line (d.name ++ codes " := " ++ p.text)) (piece_of-spanless d.right)) ds)
section-spanless (section.Init e at) = ap (λ p. constraint_line (codes "INIT ") p.text) (piece_of-spanless e)
section-spanless (section.Invar e at) = ap (λ p. constraint_line (codes "INVAR ") p.text) (piece_of-spanless e)
section-spanless (section.Trans e at) = ap (λ p. constraint_line (codes "TRANS ") p.text) (piece_of-spanless e)
section-spanless (section.InvarSpec e at) = ap (λ p. constraint_line (codes "INVARSPEC ") p.text) (piece_of-spanless e)

module-spanless : (m : Module) → printed_module (spanless_module m) ≡ printed_module m
module-spanless m = ap (λ ts. codes "MODULE " ++ m.name ++ in_parentheses m.formals ++ codes "\n" ++ concatenated ts) (map_kept printed_section spanless_section section-spanless m.sections)

program-spanless : (p : Program) → printed_program (spanless_program p) ≡ printed_program p
program-spanless p = ap concatenated (map_kept printed_module spanless_module module-spanless p.modules)

-- models that differ in spans alone have the same text
pub printed_same : (p q : Program) → SameProgram p q → printed_program p ≡ printed_program q
printed_same p q same = sym (program-spanless p) ∙ ap printed_program same ∙ program-spanless q
