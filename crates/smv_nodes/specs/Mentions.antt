-- The names that an expression reads, each now or after the step.
use Rattle.std.specs.Prelude.{ℕ, zero, suc, pred, Bool, true, List, [], ◌∷◌, ◌++◌, map, length}
use Rattle.smv_ast.specs.declared.syntax.Expr.{Expr, fold-Expr, Expr-F}
use Rattle.smv_ast.specs.declared.syntax.Choice.{Choice, fold-Choice, Choice-F}
use Rattle.smv_ast.specs.declared.syntax.Branch.{Branch, fold-Branch, Branch-F}
use Rattle.smv_meaning.specs.Value.{Name}
use Rattle.smv_nodes.specs.declared.mentions.Mention.{Mention as Held}

-- a name that is read, now or after the step
pub record Mention : Type 0 where
  pub names : List Name
  pub after_step : Bool

-- the names that are read, given whether the whole is read after the step
abbrev pub Reads : Type 0
Reads = Bool → List Mention

-- the names of these parts, one after another
abbrev pub parts_read : Bool → List Reads → List Mention
parts_read after_step [] = []
parts_read after_step (part ∷ more) = part after_step ++ parts_read after_step more

-- the names of branches; the conditions of the first so many are read
abbrev pub branches_read : Bool → ℕ → List (Reads × Reads) → List Mention
branches_read after_step conds [] = []
branches_read after_step zero (branch ∷ more) = branch.1 after_step
    ++ branches_read after_step zero more
branches_read after_step (suc conds) (branch ∷ more) = (branch.0 after_step ++ branch.1 after_step)
    ++ branches_read after_step conds more

-- the names of the parts of a set; `low..high` has none
abbrev pub choice_layer : Choice-F Reads Reads (Reads × Reads) → Reads
choice_layer (Choice-F.Each parts) after_step = parts_read after_step parts
choice_layer (Choice-F.Between low high) after_step = []

-- the names of an expression, given those of its parts: `next(a)` reads the names of `a` after the
-- step, and the last condition of a case is not read
abbrev pub expr_layer : Expr-F Reads Reads (Reads × Reads) → Reads
expr_layer Expr-F.True after_step = []
expr_layer Expr-F.False after_step = []
expr_layer (Expr-F.Number n) after_step = []
expr_layer (Expr-F.Name path) after_step =
    record { names = path.names; after_step = after_step } ∷ []
expr_layer (Expr-F.Neg a) after_step = a after_step
expr_layer (Expr-F.Not a) after_step = a after_step
expr_layer (Expr-F.Binary op a b) after_step = a after_step ++ b after_step
expr_layer (Expr-F.Within a choice) after_step = a after_step ++ choice after_step
expr_layer (Expr-F.Cases branches) after_step =
    branches_read after_step (pred (length branches)) branches
expr_layer (Expr-F.Next a) after_step = a true
expr_layer (Expr-F.Pick choice) after_step = choice after_step

-- the names of a branch: those of its condition and of its value
abbrev pub branch_layer : Branch-F Reads Reads (Reads × Reads) → Reads × Reads
branch_layer branch = (branch.cond, branch.value)

-- the names that an expression reads
abbrev pub reads_of : Expr → Bool → List Mention
reads_of = fold-Expr Reads Reads (Reads × Reads) choice_layer expr_layer branch_layer

-- the names that a choice reads
abbrev pub choice_reads : Choice → Bool → List Mention
choice_reads = fold-Choice Reads Reads (Reads × Reads) choice_layer expr_layer branch_layer

-- the names that a branch reads
abbrev pub branch_reads : Branch → Reads × Reads
branch_reads = fold-Branch Reads Reads (Reads × Reads) choice_layer expr_layer branch_layer

-- the mention that a Rust value represents
abbrev pub mention_view : Held → Mention
mention_view m = record { names = m.path.now.names; after_step = m.after_step }

-- the mentions that Rust values represent
abbrev pub mention_views : List Held → List Mention
mention_views = map mention_view
