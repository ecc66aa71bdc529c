-- Trees that are the same but for spans: form by form, from their parts.
use Rattle.std.proofs.Common.{◌≡◌, List, map, sym, ◌∙◌, ap}
use Rattle.smv_ast.specs.declared.syntax.Span.{Span}
use Rattle.smv_ast.specs.declared.syntax.Op.{Op}
use Rattle.smv_ast.specs.declared.syntax.Path.{Path}
use Rattle.smv_ast.specs.declared.syntax.Expr as X
use Rattle.smv_ast.specs.declared.syntax.Choice as C
use denote.Hole.Carrier.{roll}
use Rattle.smv_ast.specs.declared.syntax.Expr.{Expr, Expr-F, roll-Expr, fold-roll-Expr}
use Rattle.smv_ast.specs.declared.syntax.Expr.TheVariants as e
use Rattle.smv_ast.specs.declared.syntax.Choice.{Choice, Choice-F, roll-Choice, fold-Choice, fold-roll-Choice}
use Rattle.smv_ast.specs.declared.syntax.Choice.TheVariants as choice
use Rattle.smv_ast.specs.declared.syntax.Branch.{Branch, roll-Branch, fold-Branch, fold-roll-Branch}
use Rattle.smv_ast.specs.IgnoringSpans.{spanless_expr, spanless_layer, no_span, SameExpr}
use Rattle.smv_expr.specs.Lexicon.{Bytes}

abbrev pub spanless_choice : Choice → Choice
spanless_choice = fold-Choice Choice Expr Branch roll-Choice (λ x. roll-Expr (spanless_layer x)) roll-Branch

abbrev pub spanless_branch : Branch → Branch
spanless_branch = fold-Branch Choice Expr Branch roll-Choice (λ x. roll-Expr (spanless_layer x)) roll-Branch

-- the same tree as this one, ignoring spans
abbrev pub IsSame : Expr → Expr → Type 0
IsSame a b = SameExpr b a

abbrev pub IsSameChoice : Choice → Choice → Type 0
IsSameChoice c d = spanless_choice d ≡ spanless_choice c

abbrev pub IsSameBranch : Branch → Branch → Type 0
IsSameBranch b c = spanless_branch c ≡ spanless_branch b

-- ---- each form without spans

form_name : (path : Path) → spanless_expr (e.Name path) ≡ e.Name (record { names = path.names; at = no_span })
unfolding X.roll-Expr roll
form_name path = fold-roll-Expr Choice Expr Branch roll-Choice (λ x. roll-Expr (spanless_layer x)) roll-Branch (Expr-F.Name path)

form_neg : (a : Expr) → spanless_expr (e.Neg a) ≡ e.Neg (spanless_expr a)
unfolding X.roll-Expr roll
form_neg a = fold-roll-Expr Choice Expr Branch roll-Choice (λ x. roll-Expr (spanless_layer x)) roll-Branch (Expr-F.Neg a)

form_not : (a : Expr) → spanless_expr (e.Not a) ≡ e.Not (spanless_expr a)
unfolding X.roll-Expr roll
form_not a = fold-roll-Expr Choice Expr Branch roll-Choice (λ x. roll-Expr (spanless_layer x)) roll-Branch (Expr-F.Not a)

form_next : (a : Expr) → spanless_expr (e.Next a) ≡ e.Next (spanless_expr a)
unfolding X.roll-Expr roll
form_next a = fold-roll-Expr Choice Expr Branch roll-Choice (λ x. roll-Expr (spanless_layer x)) roll-Branch (Expr-F.Next a)

form_binary : (op : Op) (a b : Expr) → spanless_expr (e.Binary op a b) ≡ e.Binary op (spanless_expr a) (spanless_expr b)
unfolding X.roll-Expr roll
form_binary op a b = fold-roll-Expr Choice Expr Branch roll-Choice (λ x. roll-Expr (spanless_layer x)) roll-Branch (Expr-F.Binary op a b)

form_within : (a : Expr) (c : Choice) → spanless_expr (e.Within a c) ≡ e.Within (spanless_expr a) (spanless_choice c)
unfolding X.roll-Expr roll
form_within a c = fold-roll-Expr Choice Expr Branch roll-Choice (λ x. roll-Expr (spanless_layer x)) roll-Branch (Expr-F.Within a c)

form_cases : (bs : List Branch) → spanless_expr (e.Cases bs) ≡ e.Cases (map spanless_branch bs)
unfolding X.roll-Expr roll
form_cases bs = fold-roll-Expr Choice Expr Branch roll-Choice (λ x. roll-Expr (spanless_layer x)) roll-Branch (Expr-F.Cases bs)

form_pick : (c : Choice) → spanless_expr (e.Pick c) ≡ e.Pick (spanless_choice c)
unfolding X.roll-Expr roll
form_pick c = fold-roll-Expr Choice Expr Branch roll-Choice (λ x. roll-Expr (spanless_layer x)) roll-Branch (Expr-F.Pick c)

form_each : (parts : List Expr) → spanless_choice (choice.Each parts) ≡ choice.Each (map spanless_expr parts)
unfolding C.roll-Choice roll
form_each parts = fold-roll-Choice Choice Expr Branch roll-Choice (λ x. roll-Expr (spanless_layer x)) roll-Branch (Choice-F.Each parts)

form_branch : (cond value : Expr) → spanless_branch (roll-Branch (record { cond = cond; value = value })) ≡ roll-Branch (record { cond = spanless_expr cond; value = spanless_expr value })
form_branch cond value = fold-roll-Branch Choice Expr Branch roll-Choice (λ x. roll-Expr (spanless_layer x)) roll-Branch (record { cond = cond; value = value })

-- ---- what is the same, of the same parts

pub same_name : (path : Path) (names : List Bytes) (span : Span) → names ≡ path.names → IsSame (e.Name path) (e.Name (record { names = names; at = span }))
same_name path names span h = form_name (record { names = names; at = span }) ∙ ap (λ x. e.Name (record { names = x; at = no_span })) h ∙ sym (form_name path)

pub same_neg : (a b : Expr) → IsSame a b → IsSame (e.Neg a) (e.Neg b)
same_neg a b h = form_neg b ∙ ap (λ x. e.Neg x) h ∙ sym (form_neg a)

pub same_not : (a b : Expr) → IsSame a b → IsSame (e.Not a) (e.Not b)
same_not a b h = form_not b ∙ ap (λ x. e.Not x) h ∙ sym (form_not a)

pub same_next : (a b : Expr) → IsSame a b → IsSame (e.Next a) (e.Next b)
same_next a b h = form_next b ∙ ap (λ x. e.Next x) h ∙ sym (form_next a)

pub same_binary : (op op' : Op) (a a' b b' : Expr) → op' ≡ op → IsSame a a' → IsSame b b' → IsSame (e.Binary op a b) (e.Binary op' a' b')
same_binary op op' a a' b b' h h' h'' = form_binary op' a' b' ∙ ap (λ x. e.Binary x (spanless_expr a') (spanless_expr b')) h
    ∙ ap (λ x. e.Binary op x (spanless_expr b')) h' ∙ ap (λ x. e.Binary op (spanless_expr a) x) h'' ∙ sym (form_binary op a b)

pub same_within : (a a' : Expr) (c c' : Choice) → IsSame a a' → IsSameChoice c c' → IsSame (e.Within a c) (e.Within a' c')
same_within a a' c c' h h' = form_within a' c' ∙ ap (λ x. e.Within x (spanless_choice c')) h ∙ ap (λ x. e.Within (spanless_expr a) x) h' ∙ sym (form_within a c)

pub same_cases : (bs cs : List Branch) → map spanless_branch cs ≡ map spanless_branch bs → IsSame (e.Cases bs) (e.Cases cs)
same_cases bs cs h = form_cases cs ∙ ap (λ x. e.Cases x) h ∙ sym (form_cases bs)

pub same_pick : (c d : Choice) → IsSameChoice c d → IsSame (e.Pick c) (e.Pick d)
same_pick c d h = form_pick d ∙ ap (λ x. e.Pick x) h ∙ sym (form_pick c)

pub same_each : (parts others : List Expr) → map spanless_expr others ≡ map spanless_expr parts → IsSameChoice (choice.Each parts) (choice.Each others)
same_each parts others h = form_each others ∙ ap (λ x. choice.Each x) h ∙ sym (form_each parts)

pub same_branch : (cond cond' value value' : Expr) → IsSame cond cond' → IsSame value value'
    → IsSameBranch (roll-Branch (record { cond = cond; value = value })) (roll-Branch (record { cond = cond'; value = value' }))
same_branch cond cond' value value' h h' = form_branch cond' value' ∙ ap (λ x. roll-Branch (record { cond = x; value = spanless_expr value' })) h
    ∙ ap (λ x. roll-Branch (record { cond = spanless_expr cond; value = x })) h' ∙ sym (form_branch cond value)
