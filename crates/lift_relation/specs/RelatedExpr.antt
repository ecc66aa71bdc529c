-- Related expressions: one that stands in the lift, and the one that stands in its place in the text
-- of a product. They have the same form, but for the cases that a feature's variable guards.
use Rattle.std.specs.Prelude.{◌≡◌, ℕ, ℤ, Bool, true, false, List, [], ◌∷◌}
use Rattle.smv_ast.specs.declared.syntax.Op.{Op}
use Rattle.smv_ast.specs.declared.syntax.Op.TheVariants as op
use Rattle.smv_ast.specs.declared.syntax.Path.{Path}
use Rattle.smv_ast.specs.declared.syntax.Expr.{Expr}
use Rattle.smv_ast.specs.declared.syntax.Expr.TheVariants as expr
use Rattle.smv_ast.specs.declared.syntax.Choice.{Choice}
use Rattle.smv_ast.specs.declared.syntax.Choice.TheVariants as choice
use Rattle.smv_ast.specs.declared.syntax.Branch.{Branch, roll-Branch}
use Rattle.smv_meaning.specs.Value.{Name}
use Rattle.integrate_impose.specs.Guard.{guarded}

-- a branch of a case
abbrev pub branch_of : Expr → Expr → Branch
branch_of cond value = roll-Branch (record { cond = cond; value = value })

-- `fsmv_fm.F & c`: the condition of a change, in the lift
abbrev pub guarded_condition : Path → Expr → Expr
guarded_condition variable cond = expr.Binary op.And (expr.Name variable) cond

-- `fsmv_fm.F -> e`: a constraint that a feature introduces, in the lift
abbrev pub guarded_constraint : Path → Expr → Expr
guarded_constraint variable e = expr.Binary op.Implies (expr.Name variable) e

-- features: the name under which the modules of the lift know the features' variables; has: the
-- features of the product
module _ (features : Name) (has : Name → Bool) where
  -- a path of the lift is that of a feature's variable
  abbrev pub IsVariableOf : Path → Name → Type 0
  IsVariableOf path feature = path.names ≡ features ∷ feature ∷ []

  mutual
    -- an expression of the lift, and that of the text
    pub data RelatedExpr : Expr → Expr → Type 0 where
      BothTrue : RelatedExpr expr.True expr.True
      BothFalse : RelatedExpr expr.False expr.False
      BothNumber : (n : ℕ) → RelatedExpr (expr.Number n) (expr.Number n)
      BothName : (p q : Path) → p.names ≡ q.names → RelatedExpr (expr.Name p) (expr.Name q)
      BothNeg : (a b : Expr) → RelatedExpr a b → RelatedExpr (expr.Neg a) (expr.Neg b)
      BothNot : (a b : Expr) → RelatedExpr a b → RelatedExpr (expr.Not a) (expr.Not b)
      BothBinary : (op : Op) (a b c d : Expr) → RelatedExpr a b → RelatedExpr c d
          → RelatedExpr (expr.Binary op a c) (expr.Binary op b d)
      BothWithin : (a b : Expr) (c d : Choice) → RelatedExpr a b → RelatedChoice c d
          → RelatedExpr (expr.Within a c) (expr.Within b d)
      BothCases : (bs cs : List Branch) → RelatedBranches bs cs
          → RelatedExpr (expr.Cases bs) (expr.Cases cs)
      BothNext : (a b : Expr) → RelatedExpr a b → RelatedExpr (expr.Next a) (expr.Next b)
      BothPick : (c d : Choice) → RelatedChoice c d → RelatedExpr (expr.Pick c) (expr.Pick d)
      -- a change of a feature that the product has: its condition stays without the variable
      Changed : (variable : Path) (feature : Name) (c d v w o u : Expr)
          → IsVariableOf variable feature → has feature ≡ true
          → RelatedExpr c d → RelatedExpr v w → RelatedExpr o u
          → RelatedExpr (guarded (guarded_condition variable c) v o) (guarded d w u)
      -- a change of a feature that the product lacks: the old value stays
      Unchanged : (variable : Path) (feature : Name) (c v o u : Expr)
          → IsVariableOf variable feature → has feature ≡ false → RelatedExpr o u
          → RelatedExpr (guarded (guarded_condition variable c) v o) u
      -- what a feature that the product has introduces: its value stays
      Introduced : (variable : Path) (feature : Name) (v w o : Expr)
          → IsVariableOf variable feature → has feature ≡ true → RelatedExpr v w
          → RelatedExpr (guarded (expr.Name variable) v o) w

    -- a set of values
    pub data RelatedChoice : Choice → Choice → Type 0 where
      BothEach : (xs ys : List Expr) → RelatedExprs xs ys
          → RelatedChoice (choice.Each xs) (choice.Each ys)
      BothBetween : (low high : ℤ) → RelatedChoice (choice.Between low high) (choice.Between low high)

    -- expressions, one by one
    pub data RelatedExprs : List Expr → List Expr → Type 0 where
      NoExprs : RelatedExprs [] []
      MoreExprs : (a b : Expr) (xs ys : List Expr) → RelatedExpr a b → RelatedExprs xs ys
          → RelatedExprs (a ∷ xs) (b ∷ ys)

    -- branches, one by one
    pub data RelatedBranches : List Branch → List Branch → Type 0 where
      NoBranches : RelatedBranches [] []
      MoreBranches : (c d v w : Expr) (bs cs : List Branch) → RelatedExpr c d → RelatedExpr v w
          → RelatedBranches bs cs
          → RelatedBranches (branch_of c v ∷ bs) (branch_of d w ∷ cs)
