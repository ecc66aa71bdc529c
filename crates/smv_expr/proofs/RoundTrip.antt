-- The canonical text of a printable expression stands for the same tree, and so it is answered.
use Rattle.std.proofs.Common.{◌≡◌, ℕ, Bool, true, ◌&&◌, List, [], ◌∷◌, ◌++◌, map, codes, refl, sym, ◌∙◌, ap, subst, append_assoc, inl, inr}
use denote.Hole.Carrier.{roll}
use Rattle.smv_ast.specs.declared.syntax.Expr as X
use Rattle.smv_ast.specs.declared.syntax.Choice as C
use Rattle.smv_ast.specs.declared.syntax.Expr.{Expr, Expr-F, roll-Expr, fold-roll-Expr, map-Expr, ind-Expr}
use Rattle.smv_ast.specs.declared.syntax.Expr.TheVariants as e
use Rattle.smv_ast.specs.declared.syntax.Choice.{Choice, Choice-F, roll-Choice, fold-roll-Choice, map-Choice}
use Rattle.smv_ast.specs.declared.syntax.Choice.TheVariants as choice
use Rattle.smv_ast.specs.declared.syntax.Branch.{Branch, Branch-F, roll-Branch, fold-roll-Branch}
use Rattle.smv_ast.specs.PrintedExpr.{Piece, piece_of, printed_expr, printed_choice, printed_branch, primary_piece, concatenated, listed, texts, each_after}
use Rattle.smv_ast.specs.PrintedExpr as printed
use Rattle.smv_ast.specs.IgnoringSpans.{spanless_expr}
use Rattle.smv_expr.specs.declared.kind.Kind.TheVariants as k
use Rattle.smv_expr.specs.Lexicon.{Bytes, words, same_kind}
use Rattle.smv_expr.specs.Language.{many}
use Rattle.smv_expr.specs.ExprGrammar as g
use Rattle.smv_expr.specs.ExprGrammar.{expr, not_expr, signed_expr}
use Rattle.smv_expr.specs.RoundTrip.{is_printable, is_printable_choice, is_printable_branch, Printable, IsRoundTrip, all_are, some_are}
use Rattle.smv_expr.specs.RoundTrip as printable
use Rattle.smv_expr.proofs.Booleans.{both_left, both_right}
use Rattle.smv_expr.proofs.Cuts.{Spells, then, spelled_as, spelled_mapped, weakened, retext, in_row, many_spells}
use Rattle.smv_expr.proofs.CutWords.{any, ends, word_spells}
use Rattle.smv_expr.proofs.CutMarks.{open_brace, close_brace, comma, colon, semicolon, case_word}
use Rattle.smv_expr.proofs.Levels as levels
use Rattle.smv_expr.proofs.Forms.{IsSame, IsSameChoice, IsSameBranch, spanless_branch, same_cases, same_pick, same_each, same_branch}
use Rattle.smv_expr.proofs.Pieces.{At, IsRead, IsChoiceRead, as_expr, primary_read, true_read, false_read, number_read, name_read, neg_read, not_read, next_read, binary_read, within_read, pick_read, interval_read}

-- ---- what is shown of each part

abbrev ChoiceRoundTrips : Choice → Type 0
ChoiceRoundTrips c = is_printable_choice c ≡ true → IsChoiceRead c (printed_choice c)

abbrev ExprRoundTrips : Expr → Type 0
ExprRoundTrips e = Printable e → IsRead (IsSame e) (piece_of e)

abbrev BranchRoundTrips : Branch → Type 0
BranchRoundTrips b = is_printable_branch b ≡ true → Spells (At g.branch) (IsSameBranch b) any (printed_branch b)

abbrev Choices : Type 0
Choices = (c : Choice) × ChoiceRoundTrips c

abbrev Exprs : Type 0
Exprs = (e : Expr) × ExprRoundTrips e

abbrev Branches : Type 0
Branches = (b : Branch) × BranchRoundTrips b

-- the trees themselves
abbrev trees : List Exprs → List Expr
trees parts = map (λ x. x.0) parts

abbrev branch_trees : List Branches → List Branch
branch_trees branches = map (λ x. x.0) branches

map_map : {A B D : Type 0} (f : B → D) (h : A → B) (xs : List A) → map f (map h xs) ≡ map (λ x. f (h x)) xs
map_map f h [] = refl
map_map f h (x ∷ xs) = ap (λ ys. f (h x) ∷ ys) (map_map f h xs)

-- ---- sets

abbrev part_text : Exprs → Bytes
part_text x = codes ", " ++ (piece_of x.0).text

part_read : (x : Exprs) → Printable x.0 → Spells (At g.listed) (λ v. spanless_expr v ≡ spanless_expr x.0) ends (part_text x)
part_read x h = spelled_mapped (λ v. v.1) (λ v same. same.1) (then comma (as_expr (x.1 h).whole) (λ remaining e. refl))

parts_end : (parts : List Exprs) (remaining : Bytes) → ends remaining ≡ true → ends (in_row part_text parts ++ remaining) ≡ true
parts_end [] remaining h = h
parts_end (x ∷ parts) remaining h = refl

parts_row : (parts : List Exprs) → in_row part_text parts ≡ each_after (codes ", ") (texts (map piece_of (trees parts)))
parts_row [] = refl
parts_row (x ∷ parts) = ap (λ t. part_text x ++ t) (parts_row parts)

parts_read : (parts : List Exprs) → all_are (map is_printable (trees parts)) ≡ true
    → Spells (λ m. many (At g.listed m)) (λ vs. map spanless_expr vs ≡ map spanless_expr (trees parts)) ends (each_after (codes ", ") (texts (map piece_of (trees parts))))
parts_read parts h = retext (parts_row parts) (spelled_as (λ vs. vs) (λ m vs ts r. r) (λ vs same. same ∙ sym (map_map spanless_expr (λ x. x.0) parts))
    (many_spells spanless_expr (λ x. spanless_expr x.0) (λ x. is_printable x.0) part_text parts_end part_read parts (ap all_are (sym (map_map is_printable (λ x. x.0) parts)) ∙ h)))

braces_read : (parts : List Exprs) → some_are (map is_printable (trees parts)) ≡ true
    → Spells (At g.braces) (IsSameChoice (choice.Each (trees parts))) any (codes "{" ++ listed (texts (map piece_of (trees parts))) ++ codes "}")
braces_read [] h = cc
braces_read (x ∷ parts) h = spelled_mapped (λ v. choice.Each (v.1.0.0 ∷ v.1.0.1))
    (λ v same. same_each (x.0 ∷ trees parts) (v.1.0.0 ∷ v.1.0.1) (ap (λ y. y ∷ map spanless_expr v.1.0.1) same.1.0.0 ∙ ap (λ ys. spanless_expr x.0 ∷ ys) same.1.0.1))
    (then open_brace (then (then (as_expr (x.1 (both_left _ _ h)).whole) (parts_read parts (both_right _ _ h))
    (λ remaining e. ap (λ t. ends (t ++ remaining)) (sym (parts_row parts)) ∙ parts_end parts remaining e)) close_brace (λ remaining e. refl)) (λ remaining e. refl))

set_read : (parts : List Exprs) → some_are (map is_printable (trees parts)) ≡ true → IsChoiceRead (choice.Each (trees parts)) (codes "{" ++ listed (texts (map piece_of (trees parts))) ++ codes "}")
set_read parts h = record {
  choice = weakened ends (λ remaining e. refl) (spelled_as (λ c. c) (λ m c ts r. inl r) (λ c same. same) (braces_read parts h));
  pick = weakened ends (λ remaining e. refl) (spelled_as (λ c. e.Pick c)
      (λ m c ts r. (levels.in_whole true (expr true m) (not_expr true m) (signed_expr true m)).at (e.Pick c) ts (inr (inr (inr (inr (inr (inl (c, r, refl))))))))
      (λ c same. same_pick (choice.Each (trees parts)) c same) (braces_read parts h));
}

-- ---- cases

branch_read : (a b : Exprs) → is_printable a.0 && is_printable b.0 ≡ true
    → Spells (At g.branch) (IsSameBranch (roll-Branch (record { cond = a.0; value = b.0 }))) any (printed.branch_layer (record { cond = piece_of a.0; value = piece_of b.0 }))
branch_read a b h = let c = (piece_of a.0).text in let v = (piece_of b.0).text in
    spelled_mapped g.branch_of (λ u same. same_branch a.0 u.0 b.0 u.1.1.0 same.0 same.1.1.0)
    (retext (sym (append_assoc (c ++ codes " : ") v (codes "; ") ∙ append_assoc c (codes " : ") (v ++ codes "; ")))
    (then (as_expr (a.1 (both_left _ _ h)).whole) (then colon (then (as_expr (b.1 (both_right _ _ h)).whole) semicolon (λ remaining e. refl)) (λ remaining e. refl)) (λ remaining e. refl)))

branches_row : (branches : List Branches) → in_row (λ x. printed_branch x.0) branches ≡ concatenated (map printed_branch (branch_trees branches))
branches_row [] = refl
branches_row (x ∷ branches) = ap (λ t. printed_branch x.0 ++ t) (branches_row branches)

branches_read : (branches : List Branches) → all_are (map is_printable_branch (branch_trees branches)) ≡ true
    → Spells (λ m. many (At g.branch m)) (λ vs. map spanless_branch vs ≡ map spanless_branch (branch_trees branches)) any (concatenated (map printed_branch (branch_trees branches)))
branches_read branches h = retext (branches_row branches) (spelled_as (λ vs. vs) (λ m vs ts r. r) (λ vs same. same ∙ sym (map_map spanless_branch (λ x. x.0) branches))
    (many_spells spanless_branch (λ x. spanless_branch x.0) (λ x. is_printable_branch x.0) (λ x. printed_branch x.0) (λ xs remaining e. refl) (λ x. x.1) branches
    (ap all_are (sym (map_map is_printable_branch (λ x. x.0) branches)) ∙ h)))

cases_read : (branches : List Branches) → some_are (map is_printable_branch (branch_trees branches)) ≡ true
    → IsRead (IsSame (e.Cases (branch_trees branches))) (primary_piece (codes "case " ++ concatenated (map printed_branch (branch_trees branches)) ++ codes "esac"))
unfolding same_kind words
cases_read [] h = cc
cases_read (x ∷ branches) h = let others = concatenated (map printed_branch (branch_trees branches)) in
    primary_read (λ remaining. refl) (spelled_as g.cases_of (λ m v ts r. inr (inr (inr (inr (inr (inr (inr (v, r, refl))))))))
    (λ v same. same_cases (x.0 ∷ branch_trees branches) (v.1.0 ∷ v.1.1.0) (ap (λ y. y ∷ map spanless_branch v.1.1.0) same.1.0 ∙ ap (λ ys. spanless_branch x.0 ∷ ys) same.1.1.0))
    (retext (ap (λ t. codes "case " ++ t) (sym (append_assoc (printed_branch x.0) others (codes "esac"))))
    (then case_word (then (x.1 (both_left _ _ h)) (then (branches_read branches (both_right _ _ h)) (word_spells k.Esac (codes "esac") refl refl refl refl refl) (λ remaining e. refl)) (λ remaining e. refl)) (λ remaining e. refl))))

-- ---- layer by layer

abbrev choice_tests : Choice-F Choice Expr Branch → Choice-F Bool Bool Bool
choice_tests = map-Choice Choice Expr Branch Bool Bool Bool is_printable_choice is_printable is_printable_branch

abbrev expr_tests : Expr-F Choice Expr Branch → Expr-F Bool Bool Bool
expr_tests = map-Expr Choice Expr Branch Bool Bool Bool is_printable_choice is_printable is_printable_branch

abbrev choice_texts : Choice-F Choice Expr Branch → Choice-F (List ℕ) Piece (List ℕ)
choice_texts = map-Choice Choice Expr Branch (List ℕ) Piece (List ℕ) printed_choice piece_of printed_branch

abbrev expr_texts : Expr-F Choice Expr Branch → Expr-F (List ℕ) Piece (List ℕ)
expr_texts = map-Expr Choice Expr Branch (List ℕ) Piece (List ℕ) printed_choice piece_of printed_branch

abbrev choice_of : Choice-F Choices Exprs Branches → Choice-F Choice Expr Branch
choice_of = map-Choice Choices Exprs Branches Choice Expr Branch (λ c. c.0) (λ e. e.0) (λ b. b.0)

abbrev expr_of : Expr-F Choices Exprs Branches → Expr-F Choice Expr Branch
expr_of = map-Expr Choices Exprs Branches Choice Expr Branch (λ c. c.0) (λ e. e.0) (λ b. b.0)

choice_layer_read : (y : Choice-F Choices Exprs Branches) → printable.choice_layer (choice_tests (choice_of y)) ≡ true → IsChoiceRead (roll-Choice (choice_of y)) (printed.choice_layer (choice_texts (choice_of y)))
unfolding C.roll-Choice roll
choice_layer_read (Choice-F.Each parts) h = set_read parts h
choice_layer_read (Choice-F.Between low high) h = interval_read low high h

expr_layer_read : (y : Expr-F Choices Exprs Branches) → printable.expr_layer (expr_tests (expr_of y)) ≡ true → IsRead (IsSame (roll-Expr (expr_of y))) (printed.expr_layer (expr_texts (expr_of y)))
unfolding X.roll-Expr roll
expr_layer_read Expr-F.True h = true_read
expr_layer_read Expr-F.False h = false_read
expr_layer_read (Expr-F.Number n) h = number_read n h
expr_layer_read (Expr-F.Name path) h = name_read path path.names refl h
expr_layer_read (Expr-F.Neg a) h = neg_read a.0 (piece_of a.0) (a.1 h)
expr_layer_read (Expr-F.Not a) h = not_read a.0 (piece_of a.0) (a.1 h)
expr_layer_read (Expr-F.Binary op a b) h = binary_read a.0 b.0 (piece_of a.0) (piece_of b.0) (a.1 (both_left _ _ h)) (b.1 (both_right _ _ h)) op
expr_layer_read (Expr-F.Within a c) h = within_read a.0 c.0 (piece_of a.0) (printed_choice c.0) (a.1 (both_left _ _ h)) (c.1 (both_right _ _ h))
expr_layer_read (Expr-F.Cases branches) h = cases_read branches h
expr_layer_read (Expr-F.Next a) h = next_read a.0 (piece_of a.0) (a.1 h)
expr_layer_read (Expr-F.Pick c) h = pick_read c.0 (printed_choice c.0) (c.1 h)

choice_step : (y : Choice-F Choices Exprs Branches) → ChoiceRoundTrips (roll-Choice (choice_of y))
choice_step y h = subst (λ (t : Bytes). IsChoiceRead (roll-Choice (choice_of y)) t) (sym (fold-roll-Choice (List ℕ) Piece (List ℕ) printed.choice_layer printed.expr_layer printed.branch_layer (choice_of y)))
    (choice_layer_read y (sym (fold-roll-Choice Bool Bool Bool printable.choice_layer printable.expr_layer printable.branch_layer (choice_of y)) ∙ h))

expr_step : (y : Expr-F Choices Exprs Branches) → ExprRoundTrips (roll-Expr (expr_of y))
expr_step y h = subst (λ (p : Piece). IsRead (IsSame (roll-Expr (expr_of y))) p) (sym (fold-roll-Expr (List ℕ) Piece (List ℕ) printed.choice_layer printed.expr_layer printed.branch_layer (expr_of y)))
    (expr_layer_read y (sym (fold-roll-Expr Bool Bool Bool printable.choice_layer printable.expr_layer printable.branch_layer (expr_of y)) ∙ h))

branch_step : (a b : Exprs) → BranchRoundTrips (roll-Branch (record { cond = a.0; value = b.0 }))
branch_step a b h = retext (sym (fold-roll-Branch (List ℕ) Piece (List ℕ) printed.choice_layer printed.expr_layer printed.branch_layer (record { cond = a.0; value = b.0 })))
    (branch_read a b (sym (fold-roll-Branch Bool Bool Bool printable.choice_layer printable.expr_layer printable.branch_layer (record { cond = a.0; value = b.0 })) ∙ h))

-- The canonical text of a printable expression is read, alone and as an operand, as the same tree.
pub printed_read : (e : Expr) → Printable e → IsRead (IsSame e) (piece_of e)
printed_read = ind-Expr ChoiceRoundTrips ExprRoundTrips BranchRoundTrips
    (λ x y e. subst (λ (d : Choice-F Choice Expr Branch). ChoiceRoundTrips (roll-Choice d)) e (choice_step y))
    (λ x y e. subst (λ (d : Expr-F Choice Expr Branch). ExprRoundTrips (roll-Expr d)) e (expr_step y))
    (λ x y e. subst (λ (d : Branch-F Choice Expr Branch). BranchRoundTrips (roll-Branch d)) e (branch_step y.cond y.value))

-- with anything after it that goes on with no word or numeral
pub expr_spells : (e : Expr) → Printable e → Spells (expr true) (IsSame e) ends (printed_expr e)
expr_spells e h = as_expr (printed_read e h).whole
