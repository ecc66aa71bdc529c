-- The height of each form of tree, from its parts; and heights that are not distinguished past the limit.
use Rattle.std.proofs.Common.{◌≡◌, ℕ, suc, max, Bool, true, false, ℤ, List, [], ◌∷◌, ◌++◌, map, fold, ap, ◌∙◌, arith}
use Rattle.smv_ast.specs.declared.syntax.Op.{Op}
use Rattle.smv_ast.specs.declared.syntax.Path.{Path}
use Rattle.smv_ast.specs.declared.syntax.Expr as X
use Rattle.smv_ast.specs.declared.syntax.Choice as C
use denote.Hole.Carrier.{roll}
use Rattle.smv_ast.specs.declared.syntax.Expr.{Expr, Expr-F, fold-roll-Expr}
use Rattle.smv_ast.specs.declared.syntax.Expr.TheVariants as e
use Rattle.smv_ast.specs.declared.syntax.Choice.{Choice, Choice-F, fold-roll-Choice}
use Rattle.smv_ast.specs.declared.syntax.Choice.TheVariants as choice
use Rattle.smv_ast.specs.declared.syntax.Branch.{Branch, roll-Branch, fold-roll-Branch}
use Rattle.smv_expr.specs.Heights.{height, choice_height, branch_height, greatest, choice_layer, expr_layer, branch_layer}
use Rattle.smv_expr.specs.Limits.{capped}
use Rattle.smv_expr.specs.ExprGrammar.{constant}

-- ---- heights from parts

pub height_constant : (value : Bool) → height (constant value) ≡ 1
unfolding X.roll-Expr roll
height_constant true = fold-roll-Expr ℕ ℕ ℕ choice_layer expr_layer branch_layer Expr-F.True
height_constant false = fold-roll-Expr ℕ ℕ ℕ choice_layer expr_layer branch_layer Expr-F.False

pub height_number : (n : ℕ) → height (e.Number n) ≡ 1
unfolding X.roll-Expr roll
height_number n = fold-roll-Expr ℕ ℕ ℕ choice_layer expr_layer branch_layer (Expr-F.Number n)

pub height_name : (path : Path) → height (e.Name path) ≡ 1
unfolding X.roll-Expr roll
height_name path = fold-roll-Expr ℕ ℕ ℕ choice_layer expr_layer branch_layer (Expr-F.Name path)

pub height_neg : (a : Expr) → height (e.Neg a) ≡ suc (height a)
unfolding X.roll-Expr roll
height_neg a = fold-roll-Expr ℕ ℕ ℕ choice_layer expr_layer branch_layer (Expr-F.Neg a)

pub height_not : (a : Expr) → height (e.Not a) ≡ suc (height a)
unfolding X.roll-Expr roll
height_not a = fold-roll-Expr ℕ ℕ ℕ choice_layer expr_layer branch_layer (Expr-F.Not a)

pub height_next : (a : Expr) → height (e.Next a) ≡ suc (height a)
unfolding X.roll-Expr roll
height_next a = fold-roll-Expr ℕ ℕ ℕ choice_layer expr_layer branch_layer (Expr-F.Next a)

pub height_binary : (op : Op) (a b : Expr) → height (e.Binary op a b) ≡ suc (max (height a) (height b))
unfolding X.roll-Expr roll
height_binary op a b = fold-roll-Expr ℕ ℕ ℕ choice_layer expr_layer branch_layer (Expr-F.Binary op a b)

pub height_within : (a : Expr) (c : Choice) → height (e.Within a c) ≡ suc (max (height a) (choice_height c))
unfolding X.roll-Expr roll
height_within a c = fold-roll-Expr ℕ ℕ ℕ choice_layer expr_layer branch_layer (Expr-F.Within a c)

pub height_cases : (bs : List Branch) → height (e.Cases bs) ≡ suc (greatest (map branch_height bs))
unfolding X.roll-Expr roll
height_cases bs = fold-roll-Expr ℕ ℕ ℕ choice_layer expr_layer branch_layer (Expr-F.Cases bs)

pub height_pick : (c : Choice) → height (e.Pick c) ≡ suc (choice_height c)
unfolding X.roll-Expr roll
height_pick c = fold-roll-Expr ℕ ℕ ℕ choice_layer expr_layer branch_layer (Expr-F.Pick c)

pub height_each : (parts : List Expr) → choice_height (choice.Each parts) ≡ greatest (map height parts)
unfolding C.roll-Choice roll
height_each parts = fold-roll-Choice ℕ ℕ ℕ choice_layer expr_layer branch_layer (Choice-F.Each parts)

pub height_between : (low high : ℤ) → choice_height (choice.Between low high) ≡ 0
unfolding C.roll-Choice roll
height_between low high = fold-roll-Choice ℕ ℕ ℕ choice_layer expr_layer branch_layer (Choice-F.Between low high)

pub height_interval : (low high : ℤ) → height (e.Pick (choice.Between low high)) ≡ 1
height_interval low high = height_pick (choice.Between low high) ∙ ap suc (height_between low high)

pub height_branch : (cond value : Expr) → branch_height (roll-Branch (record { cond = cond; value = value })) ≡ max (height cond) (height value)
height_branch cond value = fold-roll-Branch ℕ ℕ ℕ choice_layer expr_layer branch_layer (record { cond = cond; value = value })

-- ---- the greatest of some heights

greatest_from : (start : ℕ) (heights : List ℕ) → fold max start heights ≡ max start (greatest heights)
greatest_from start [] = omega arith
greatest_from start (h ∷ more) = greatest_from (max start h) more ∙ (let e = greatest_from (max 0 h) more in omega (arith, e))

pub greatest_first : (h : ℕ) (more : List ℕ) → greatest (h ∷ more) ≡ max h (greatest more)
greatest_first h more = greatest_from (max 0 h) more ∙ omega arith

pub greatest_last : {A : Type 0} (f : A → ℕ) (items : List A) (item : A) → greatest (map f (items ++ item ∷ [])) ≡ max (greatest (map f items)) (f item)
greatest_last f [] item = omega arith
greatest_last f (x ∷ items) item = greatest_first (f x) (map f (items ++ item ∷ [])) ∙ (let e = greatest_last f items item in let e' = greatest_first (f x) (map f items) in omega (arith, e, e'))

-- ---- rows of trees

pub height_all_cases : (first : Branch) (more : List Branch) → height (e.Cases (first ∷ more)) ≡ suc (max (branch_height first) (greatest (map branch_height more)))
height_all_cases first more = height_cases (first ∷ more) ∙ ap suc (greatest_first (branch_height first) (map branch_height more))

pub height_all_parts : (first : Expr) (more : List Expr) → choice_height (choice.Each (first ∷ more)) ≡ max (height first) (greatest (map height more))
height_all_parts first more = height_each (first ∷ more) ∙ greatest_first (height first) (map height more)

-- one more tree
pub pushed_height : {A : Type 0} (f : A → ℕ) (items : List A) (item : A) (old one new : ℕ) → old ≡ capped (greatest (map f items)) → one ≡ capped (f item) → new ≡ max old one → new ≡ capped (greatest (map f (items ++ item ∷ [])))
pushed_height f items item old one new e e' e'' = let last = greatest_last f items item in omega (arith, e, e', e'', last)
