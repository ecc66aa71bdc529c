-- The denotation of an expression: its value, and the values that it allows, over two environments,
-- now and after the step.
use Rattle.std.specs.Prelude.{◌||◌, Bool, true, false, List, [], ◌∷◌, pos, Option, Some, None}
use Rattle.smv_ast.specs.declared.syntax.Expr.{Expr, fold-Expr, Expr-F}
use Rattle.smv_ast.specs.declared.syntax.Choice.{Choice, fold-Choice, Choice-F}
use Rattle.smv_ast.specs.declared.syntax.Branch.{Branch, fold-Branch, Branch-F}
use Rattle.smv_meaning.specs.declared.value.Value.{Value}
use Rattle.smv_meaning.specs.declared.value.Value.TheVariants.{Boolean, Number}
use Rattle.smv_meaning.specs.Value.{Name, and_then, of_both, same, truth, operate, negated, logical_not, in_range}

-- the values of paths
abbrev pub Environment : Type 0
Environment = List Name → Option Value

-- a value, given the environments now and after the step
abbrev pub Valued : Type 0
Valued = Environment → Environment → Option Value

-- whether a value is allowed, given both environments; none where a name has no value
abbrev pub Allowed : Type 0
Allowed = Environment → Environment → Value → Option Bool

-- the denotation of an expression: its value, and the values that it allows as a right side
pub record Denotation : Type 0 where
  pub value : Valued
  pub allows : Allowed

-- the denotation of a branch
pub record BranchDenotation : Type 0 where
  pub cond : Denotation
  pub value : Denotation

-- an expression other than a choice allows exactly its value
abbrev pub single : Valued → Denotation
single binding = record {
  value = binding;
  allows = λ now after v. and_then (binding now after)
      (λ w. Some (same v w));
}

-- whether one of the parts allows a value; none where a name of any part has no value
abbrev pub parts_allow : Environment → Environment → Value → List Denotation → Option Bool
parts_allow now after v [] = Some false
parts_allow now after v (part ∷ more) = of_both (λ b c. Some (b || c)) (part.allows now after v)
    (parts_allow now after v more)

-- the branch that a case selects: the first whose condition is true, else the last
abbrev pub taken : {B : Type 0} → (B → Option Bool) → List B → Option B
taken holds [] = None
taken holds (branch ∷ []) = Some branch
taken holds (branch ∷ next ∷ more) = and_then (holds branch) elim
    [ true ↦ Some branch | false ↦ taken holds (next ∷ more) ]

-- whether the condition of a branch is true
abbrev pub holds_in : Environment → Environment → BranchDenotation → Option Bool
holds_in now after branch = and_then (branch.cond.value now after) truth

-- the branch that a case selects in two environments
abbrev pub taken_in : Environment → Environment → List BranchDenotation → Option BranchDenotation
taken_in now after = taken (holds_in now after)

-- the value of the selected branch
abbrev pub case_value : Environment → Environment → List BranchDenotation → Option Value
case_value now after branches = and_then (taken_in now after branches)
    (λ branch. branch.value.value now after)

-- whether the selected branch allows a value
abbrev pub case_allows : Environment → Environment → List BranchDenotation → Value → Option Bool
case_allows now after branches v = and_then (taken_in now after branches)
    (λ branch. branch.value.allows now after v)

-- the values of a choice: those of its parts, or the numbers from low to high
abbrev pub choice_denotation : Choice-F Allowed Denotation BranchDenotation → Allowed
choice_denotation (Choice-F.Each parts) = λ now after v. parts_allow now after v parts
choice_denotation (Choice-F.Between low high) = λ now after v. Some (in_range low high v)

-- the denotation of an expression, given those of its parts: `next(a)` reads the names of `a` after
-- the step, and a choice has no value of its own
abbrev pub expr_denotation : Expr-F Allowed Denotation BranchDenotation → Denotation
expr_denotation Expr-F.True = single (λ now after. Some (Boolean true))
expr_denotation Expr-F.False = single (λ now after. Some (Boolean false))
expr_denotation (Expr-F.Number n) = single (λ now after. Some (Number (pos n)))
expr_denotation (Expr-F.Name path) = single (λ now after. now path.names)
expr_denotation (Expr-F.Neg a) = single (λ now after. and_then (a.value now after) negated)
expr_denotation (Expr-F.Not a) = single (λ now after. and_then (a.value now after) logical_not)
expr_denotation (Expr-F.Binary op a b) = single
    (λ now after. of_both (operate op) (a.value now after) (b.value now after))
expr_denotation (Expr-F.Within a choice) = single
    (λ now after. and_then (a.value now after)
    (λ v. and_then (choice now after v) (λ b. Some (Boolean b))))
expr_denotation (Expr-F.Cases branches) = record {
  value = λ now after. and_then (taken_in now after branches)
      (λ branch. branch.value.value now after);
  allows = λ now after v. and_then (taken_in now after branches)
      (λ branch. branch.value.allows now after v);
}
expr_denotation (Expr-F.Next a) = single (λ now after. a.value after after)
expr_denotation (Expr-F.Pick choice) = record { value = λ now after. None; allows = choice }

-- the denotation of a branch is that of its parts
abbrev pub branch_denotation : Branch-F Allowed Denotation BranchDenotation → BranchDenotation
branch_denotation branch = record { cond = branch.cond; value = branch.value }

-- the denotation of an expression, by recursion on its parts
abbrev pub denotation_of : Expr → Denotation
denotation_of = fold-Expr Allowed Denotation BranchDenotation choice_denotation expr_denotation
    branch_denotation

-- the values of a choice
abbrev pub choice_allows : Choice → Allowed
choice_allows = fold-Choice Allowed Denotation BranchDenotation choice_denotation expr_denotation
    branch_denotation

-- the denotation of a branch
abbrev pub branch_denotation_of : Branch → BranchDenotation
branch_denotation_of = fold-Branch Allowed Denotation BranchDenotation choice_denotation
    expr_denotation branch_denotation
