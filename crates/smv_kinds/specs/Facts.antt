-- The facts of an expression: its sort, and whether it keeps the rules of kinds, of magnitude and
-- of `mod`.
use Rattle.std.specs.Prelude.{ℕ, Bool, true, false, ◌&&◌, ◌||◌, if◌then◌else◌, List, [], ◌∷◌, map, ℤ, pos, nat_le, Option, Some}
use Rattle.std.specs.List.{fold, list_all}
use Rattle.smv_ast.specs.declared.syntax.Op.{Op}
use Rattle.smv_ast.specs.declared.syntax.Op.TheVariants as op
use Rattle.smv_ast.specs.declared.syntax.Expr.{Expr, fold-Expr, Expr-F}
use Rattle.smv_ast.specs.declared.syntax.Choice.{Choice, fold-Choice, Choice-F}
use Rattle.smv_ast.specs.declared.syntax.Branch.{Branch, fold-Branch, Branch-F}
use Rattle.smv_meaning.specs.Value.{Name}
use Rattle.smv_kinds.specs.declared.sorts.Sort.{Sort}
use Rattle.smv_kinds.specs.declared.sorts.Sort.TheVariants.{Boolean, Nothing}
use Rattle.smv_kinds.specs.declared.facts.Facts.{Facts}
use Rattle.smv_kinds.specs.Sorts.{is_boolean, is_number, has_kind, is_small, is_same_kind, join_both, binary_sort, truth_sort, if_known, negated_sort, interval_sort, divides}

-- an expression of a sort, given which rules its parts keep: it has a kind, and its interval is
-- within the limit
abbrev pub node : Option Sort → Bool → Bool → Bool → Bool → Facts
node sort fits kinds small mods = record {
  sort = sort;
  fits = fits;
  kinds = kinds && has_kind sort;
  small = small
      && is_small sort;
  mods = mods;
}

-- TRUE and FALSE
abbrev pub truth_facts : Facts
truth_facts = node (Some Boolean) true true true true

-- a numeral; `0` and `1` fit Boolean
abbrev pub number_facts : ℕ → Facts
number_facts n = node (Some (interval_sort (pos n) (pos n))) (nat_le n 1) true true true

-- a name; a name whose value is 0 or 1 does not fit Boolean
abbrev pub name_facts : Option Sort → Facts
name_facts sort = node sort (is_boolean sort) true true true

-- `-a`, which requires a number
abbrev pub negation_facts : Facts → Facts
negation_facts a = node (negated_sort a.sort) false (a.kinds && is_number a.sort) a.small a.mods

-- `!a`, which requires an operand that fits Boolean
abbrev pub not_facts : Facts → Facts
not_facts a = node (truth_sort a.sort) true (a.kinds && a.fits) a.small a.mods

-- `next(a)`
abbrev pub next_facts : Facts → Facts
next_facts a = node a.sort (is_boolean a.sort) a.kinds a.small a.mods

-- whether an expression suits a sort: a Boolean sort takes any that fits Boolean, another any of
-- its kind
abbrev pub suits : Option Sort → Facts → Bool
suits sort a = if is_boolean sort then a.fits else is_same_kind sort a.sort

-- whether `=` may compare two expressions: those of one kind, or a Boolean and one that fits
-- Boolean
abbrev pub agree : Facts → Facts → Bool
agree a b = suits a.sort b || suits b.sort a

-- the rule of kinds of an operator
abbrev pub binary_rule : Op → Facts → Facts → Bool
binary_rule op.Eq a b = agree a b
binary_rule op.Ne a b = agree a b
binary_rule op.And a b = a.fits && b.fits
binary_rule op.Or a b = a.fits && b.fits
binary_rule op.Xor a b = a.fits && b.fits
binary_rule op.Xnor a b = a.fits && b.fits
binary_rule op.Iff a b = a.fits && b.fits
binary_rule op.Implies a b = a.fits && b.fits
binary_rule o a b = is_number a.sort && is_number b.sort

-- the rule of `mod`
abbrev pub mod_rule : Op → Facts → Facts → Bool
mod_rule op.Mod a b = divides a.sort b.sort
mod_rule o a b = true

-- `a op b`
abbrev pub binary_facts : Op → Facts → Facts → Facts
binary_facts o a b =
    let sort = binary_sort o a.sort b.sort in
    node sort (is_boolean sort) (a.kinds && b.kinds && binary_rule o a b) (a.small && b.small)
    (a.mods && b.mods && mod_rule o a b)

-- the sort of the first of these; no kind where there is none
abbrev pub first_sort : List Facts → Option Sort
first_sort [] = Some Nothing
first_sort (a ∷ more) = a.sort

-- the sort of one of these: Boolean where one of them is, else the kind of the first, with the
-- least interval that contains all
abbrev pub parts_sort : List Facts → Option Sort
parts_sort parts = fold (λ sort a. join_both sort a.sort) (first_sort parts) parts

-- whether all fit Boolean
abbrev pub all_fit : List Facts → Bool
all_fit = list_all (λ a. a.fits)

-- whether all suit a sort
abbrev pub all_suit : Option Sort → List Facts → Bool
all_suit sort = list_all (suits sort)

-- whether `=` may compare each with one expression
abbrev pub all_agree : Facts → List Facts → Bool
all_agree a = list_all (agree a)

-- whether each keeps the rules of kinds
abbrev pub all_kinds : List Facts → Bool
all_kinds = list_all (λ a. a.kinds)

-- whether each keeps the limit of magnitude
abbrev pub all_small : List Facts → Bool
all_small = list_all (λ a. a.small)

-- whether each keeps the rule of `mod`
abbrev pub all_mods : List Facts → Bool
all_mods = list_all (λ a. a.mods)

-- a set of values: all fit Boolean where one is Boolean, else all have one kind
abbrev pub parts_facts : List Facts → Facts
parts_facts parts =
    let sort = parts_sort parts in
    node sort (is_boolean sort || all_fit parts) (all_kinds parts && all_suit sort parts)
    (all_small parts) (all_mods parts)

-- `low..high`, which does not fit Boolean
abbrev pub interval_facts : ℤ → ℤ → Facts
interval_facts low high = node (Some (interval_sort low high)) false true true true

-- a case: its values as those of a set, and each condition, the last too, fits Boolean
abbrev pub case_facts : List Facts → List Facts → Facts
case_facts conditions values =
    let made = parts_facts values in
    record {
      sort = if_known (parts_sort conditions) made.sort;
      fits = made.fits;
      kinds = made.kinds
          && all_kinds conditions && all_fit conditions;
      small = made.small
          && all_small conditions;
      mods = made.mods && all_mods conditions;
    }

-- `a in {b, c}`: the set keeps its rules, and `=` may compare `a` with each part
abbrev pub within_parts : Facts → List Facts → Facts
within_parts a parts =
    let set = parts_facts parts in
    node (if_known a.sort (truth_sort set.sort)) true (a.kinds && set.kinds && all_agree a parts)
    (a.small && set.small) (a.mods && set.mods)

-- `a in low..high`, of a number
abbrev pub within_interval : Facts → ℤ → ℤ → Facts
within_interval a low high = node (truth_sort a.sort) true (a.kinds && is_number a.sort)
    (a.small && is_small (Some (interval_sort low high))) a.mods

-- ---- expressions

-- the facts of a choice: those of its parts, or its ends
pub data ChoiceFacts : Type 0 where
  Parts : List Facts → ChoiceFacts
  Between : ℤ → ℤ → ChoiceFacts

-- the facts of a branch
pub record BranchFacts : Type 0 where
  pub cond : Facts
  pub value : Facts

-- a case, given the facts of its branches
abbrev pub cases : List BranchFacts → Facts
cases branches = case_facts (map (λ b. b.cond) branches) (map (λ b. b.value) branches)

-- the sorts of paths
abbrev pub SortEnvironment : Type 0
SortEnvironment = List Name → Option Sort

-- a choice as an expression
abbrev pub pick_facts : ChoiceFacts → Facts
pick_facts (Parts parts) = parts_facts parts
pick_facts (Between low high) = interval_facts low high

-- `a in` a choice
abbrev pub within_choice : Facts → ChoiceFacts → Facts
within_choice a (Parts parts) = within_parts a parts
within_choice a (Between low high) = within_interval a low high

-- the facts of a choice, given those of its parts
abbrev pub choice_layer : Choice-F ChoiceFacts Facts BranchFacts → ChoiceFacts
choice_layer (Choice-F.Each parts) = Parts parts
choice_layer (Choice-F.Between low high) = Between low high

-- the facts of an expression, given those of its parts
abbrev pub expr_layer : SortEnvironment → Expr-F ChoiceFacts Facts BranchFacts → Facts
expr_layer on Expr-F.True = truth_facts
expr_layer on Expr-F.False = truth_facts
expr_layer on (Expr-F.Number n) = number_facts n
expr_layer on (Expr-F.Name path) = name_facts (on path.names)
expr_layer on (Expr-F.Neg a) = negation_facts a
expr_layer on (Expr-F.Not a) = not_facts a
expr_layer on (Expr-F.Binary op a b) = binary_facts op a b
expr_layer on (Expr-F.Within a choice) = within_choice a choice
expr_layer on (Expr-F.Cases branches) = cases branches
expr_layer on (Expr-F.Next a) = next_facts a
expr_layer on (Expr-F.Pick choice) = pick_facts choice

-- the facts of a branch, given those of its parts
abbrev pub branch_layer : Branch-F ChoiceFacts Facts BranchFacts → BranchFacts
branch_layer branch = record { cond = branch.cond; value = branch.value }

-- the facts of an expression, by recursion on its parts
abbrev pub facts_of : SortEnvironment → Expr → Facts
facts_of on = fold-Expr ChoiceFacts Facts BranchFacts choice_layer (expr_layer on) branch_layer

-- the facts of a choice
abbrev pub choice_facts_of : SortEnvironment → Choice → ChoiceFacts
choice_facts_of on = fold-Choice ChoiceFacts Facts BranchFacts choice_layer (expr_layer on) branch_layer

-- the facts of a branch
abbrev pub branch_facts_of : SortEnvironment → Branch → BranchFacts
branch_facts_of on = fold-Branch ChoiceFacts Facts BranchFacts choice_layer (expr_layer on) branch_layer
