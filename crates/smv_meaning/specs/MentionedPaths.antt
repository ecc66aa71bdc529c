-- An expression reads the paths that it mentions and no others: where on those paths the second environments have the values
-- of the first, so has its denotation. So denotations are monotone, and equal in environments that agree on mentioned paths.
use Rattle.std.proofs.Common.{◌≡◌, List, [], ◌∷◌, ◌++◌, map, refl, sym, subst, arith}
use Rattle.std.specs.List.{Contains}
use Rattle.std.proofs.lemmas.List.Elements.{Contains-append_left, Contains-append_right}
use Rattle.smv_ast.specs.declared.syntax.Path.{Path}
use Rattle.smv_ast.specs.declared.syntax.Expr.{Expr, Expr-F, roll-Expr, fold-roll-Expr, map-Expr, ind-Expr}
use Rattle.smv_ast.specs.declared.syntax.Choice.{Choice, Choice-F, roll-Choice, fold-roll-Choice, map-Choice}
use Rattle.smv_ast.specs.declared.syntax.Branch.{Branch, Branch-F, roll-Branch, fold-roll-Branch}
use Rattle.smv_meaning.specs.Value.{Name}
use Rattle.fixpoint.specs.Fixpoints.{Under}
use Rattle.fixpoint.specs.OptionOrder.{Le}
use Rattle.smv_meaning.specs.Monotone.{le_refl}
use Rattle.smv_meaning.specs.Layers.{LeAllowed, LeDenotation, LeBranch, single_le, EachDenotation, EachBranch, each_le, between_le, neg_le, not_le, binary_le, within_le, cases_le, next_le, pick_le}
use Rattle.smv_meaning.specs.Mentions.{all_of, choice_paths_layer, expr_paths_layer, branch_paths_layer, paths_of, choice_paths, branch_paths}
use Rattle.smv_meaning.specs.Denotations.{Environment, Allowed, Denotation, BranchDenotation, choice_denotation, expr_denotation, branch_denotation, denotation_of, choice_allows, branch_denotation_of}

-- ---- one layer of the fold

-- the denotations of the parts of a choice
abbrev pub choice_denotations : Choice-F Choice Expr Branch → Choice-F Allowed Denotation BranchDenotation
choice_denotations = map-Choice Choice Expr Branch Allowed Denotation BranchDenotation choice_allows denotation_of branch_denotation_of

-- the denotations of the parts of an expression
abbrev pub expr_denotations : Expr-F Choice Expr Branch → Expr-F Allowed Denotation BranchDenotation
expr_denotations = map-Expr Choice Expr Branch Allowed Denotation BranchDenotation choice_allows denotation_of branch_denotation_of

pub denotation_roll : (d : Expr-F Choice Expr Branch) → denotation_of (roll-Expr d) ≡ expr_denotation (expr_denotations d)
denotation_roll d = fold-roll-Expr Allowed Denotation BranchDenotation choice_denotation expr_denotation branch_denotation d

pub choice_roll : (d : Choice-F Choice Expr Branch) → choice_allows (roll-Choice d) ≡ choice_denotation (choice_denotations d)
choice_roll d = fold-roll-Choice Allowed Denotation BranchDenotation choice_denotation expr_denotation branch_denotation d

pub branch_roll : (a b : Expr) → branch_denotation_of (roll-Branch (record { cond = a; value = b })) ≡ record { cond = denotation_of a; value = denotation_of b }
branch_roll a b = fold-roll-Branch Allowed Denotation BranchDenotation choice_denotation expr_denotation branch_denotation (record { cond = a; value = b })

-- the paths of the parts of a choice
abbrev choice_lists : Choice-F Choice Expr Branch → Choice-F (List Path) (List Path) (List Path)
choice_lists = map-Choice Choice Expr Branch (List Path) (List Path) (List Path) choice_paths paths_of branch_paths

-- the paths of the parts of an expression
abbrev expr_lists : Expr-F Choice Expr Branch → Expr-F (List Path) (List Path) (List Path)
expr_lists = map-Expr Choice Expr Branch (List Path) (List Path) (List Path) choice_paths paths_of branch_paths

-- P: the paths on which the environments agree
module _ (P : List Name → Type 0) where
  -- on these paths the second environments have the values of the first
  pub record Shared (now after now' after' : Environment) : Type 0 where
    pub now_le : (names : List Name) → P names → Le (now names) (now' names)
    pub after_le : (names : List Name) → P names → Le (after names) (after' names)

  shared_later : (now after now' after' : Environment) → Shared now after now' after' → Shared after after after' after'
  shared_later now after now' after' m = record { now_le = m.after_le; after_le = m.after_le }

  -- all of these paths are among them
  abbrev pub Known : List Path → Type 0
  Known paths = (path : Path) → Contains paths path → P path.names

  left : (a b : List Path) → Known (a ++ b) → Known a
  left a b k path c = k path (Contains-append_left a b path c)

  right : (a b : List Path) → Known (a ++ b) → Known b
  right a b k path c = k path (Contains-append_right a b path c)

  abbrev Keeps : Denotation → List Path → Type 0
  Keeps s paths = Known paths → LeDenotation Shared s s

  abbrev KeepsAllowed : Allowed → List Path → Type 0
  KeepsAllowed s paths = Known paths → LeAllowed Shared s s

  abbrev KeepsBranch : BranchDenotation → List Path → Type 0
  KeepsBranch s paths = Known paths → LeBranch Shared s s

  abbrev Exprs : Type 0
  Exprs = (e : Expr) × Keeps (denotation_of e) (paths_of e)

  abbrev Choices : Type 0
  Choices = (c : Choice) × KeepsAllowed (choice_allows c) (choice_paths c)

  abbrev Branches : Type 0
  Branches = (b : Branch) × KeepsBranch (branch_denotation_of b) (branch_paths b)

  abbrev choice_of : Choice-F Choices Exprs Branches → Choice-F Choice Expr Branch
  choice_of = map-Choice Choices Exprs Branches Choice Expr Branch (λ c. c.0) (λ e. e.0) (λ b. b.0)

  abbrev expr_of : Expr-F Choices Exprs Branches → Expr-F Choice Expr Branch
  expr_of = map-Expr Choices Exprs Branches Choice Expr Branch (λ c. c.0) (λ e. e.0) (λ b. b.0)

  parts_keep : (ps : List Exprs) → Known (all_of (map paths_of (map (λ e. e.0) ps))) → EachDenotation Shared (map denotation_of (map (λ e. e.0) ps)) (map denotation_of (map (λ e. e.0) ps))
  parts_keep [] k = tt
  parts_keep (e ∷ ps) k = (e.1 (left (paths_of e.0) _ k), parts_keep ps (right (paths_of e.0) _ k))

  branches_keep : (bs : List Branches) → Known (all_of (map branch_paths (map (λ b. b.0) bs))) → EachBranch Shared (map branch_denotation_of (map (λ b. b.0) bs)) (map branch_denotation_of (map (λ b. b.0) bs))
  branches_keep [] k = tt
  branches_keep (b ∷ bs) k = (b.1 (left (branch_paths b.0) _ k), branches_keep bs (right (branch_paths b.0) _ k))

  choice_keeps : (y : Choice-F Choices Exprs Branches) → KeepsAllowed (choice_denotation (choice_denotations (choice_of y))) (choice_paths_layer (choice_lists (choice_of y)))
  choice_keeps (Choice-F.Each ps) k = each_le Shared _ _ (parts_keep ps k)
  choice_keeps (Choice-F.Between low high) k = between_le Shared low high

  expr_keeps : (y : Expr-F Choices Exprs Branches) → Keeps (expr_denotation (expr_denotations (expr_of y))) (expr_paths_layer (expr_lists (expr_of y)))
  expr_keeps Expr-F.True k = single_le Shared _ _ (λ now after now' after' m. le_refl _)
  expr_keeps Expr-F.False k = single_le Shared _ _ (λ now after now' after' m. le_refl _)
  expr_keeps (Expr-F.Number n) k = single_le Shared _ _ (λ now after now' after' m. le_refl _)
  expr_keeps (Expr-F.Name path) k = single_le Shared (λ now after. now path.names) (λ now after. now path.names) (λ now after now' after' m. m.now_le path.names (k path (0, omega arith, refl)))
  expr_keeps (Expr-F.Neg a) k = neg_le Shared _ _ (a.1 k)
  expr_keeps (Expr-F.Not a) k = not_le Shared _ _ (a.1 k)
  expr_keeps (Expr-F.Binary o a b) k = binary_le Shared o _ _ _ _ (a.1 (left (paths_of a.0) _ k)) (b.1 (right (paths_of a.0) _ k))
  expr_keeps (Expr-F.Within a c) k = within_le Shared _ _ _ _ (a.1 (left (paths_of a.0) _ k)) (c.1 (right (paths_of a.0) _ k))
  expr_keeps (Expr-F.Cases bs) k = cases_le Shared _ _ (branches_keep bs k)
  expr_keeps (Expr-F.Next a) k = next_le Shared shared_later _ _ (a.1 k)
  expr_keeps (Expr-F.Pick c) k = pick_le Shared _ _ (c.1 k)

  choice_step : (d : Choice-F Choice Expr Branch) → KeepsAllowed (choice_denotation (choice_denotations d)) (choice_paths_layer (choice_lists d)) → KeepsAllowed (choice_allows (roll-Choice d)) (choice_paths (roll-Choice d))
  choice_step d h =
      subst (λ (s : Allowed). KeepsAllowed s (choice_paths (roll-Choice d))) (sym (choice_roll d))
      (subst (KeepsAllowed (choice_denotation (choice_denotations d))) (sym (fold-roll-Choice (List Path) (List Path) (List Path) choice_paths_layer expr_paths_layer branch_paths_layer d)) h)

  expr_step : (d : Expr-F Choice Expr Branch) → Keeps (expr_denotation (expr_denotations d)) (expr_paths_layer (expr_lists d)) → Keeps (denotation_of (roll-Expr d)) (paths_of (roll-Expr d))
  expr_step d h =
      subst (λ (s : Denotation). Keeps s (paths_of (roll-Expr d))) (sym (denotation_roll d))
      (subst (Keeps (expr_denotation (expr_denotations d))) (sym (fold-roll-Expr (List Path) (List Path) (List Path) choice_paths_layer expr_paths_layer branch_paths_layer d)) h)

  branch_step : (a b : Exprs) → KeepsBranch (branch_denotation_of (roll-Branch (record { cond = a.0; value = b.0 }))) (branch_paths (roll-Branch (record { cond = a.0; value = b.0 })))
  branch_step a b =
      subst (λ (s : BranchDenotation). KeepsBranch s (branch_paths (roll-Branch (record { cond = a.0; value = b.0 })))) (sym (branch_roll a.0 b.0))
      (subst (KeepsBranch (record { cond = denotation_of a.0; value = denotation_of b.0 })) (sym (fold-roll-Branch (List Path) (List Path) (List Path) choice_paths_layer expr_paths_layer branch_paths_layer (record { cond = a.0; value = b.0 })))
      (λ k. record { cond = a.1 (left (paths_of a.0) (paths_of b.0) k); value = b.1 (right (paths_of a.0) (paths_of b.0) k) }))

  -- the law
  pub mentioned_keeps : (e : Expr) → Known (paths_of e) → LeDenotation Shared (denotation_of e) (denotation_of e)
  mentioned_keeps = ind-Expr (λ c. KeepsAllowed (choice_allows c) (choice_paths c)) (λ e. Keeps (denotation_of e) (paths_of e)) (λ b. KeepsBranch (branch_denotation_of b) (branch_paths b))
      (λ x y e. subst (λ (d : Choice-F Choice Expr Branch). KeepsAllowed (choice_allows (roll-Choice d)) (choice_paths (roll-Choice d))) e (choice_step (choice_of y) (choice_keeps y)))
      (λ x y e. subst (λ (d : Expr-F Choice Expr Branch). Keeps (denotation_of (roll-Expr d)) (paths_of (roll-Expr d))) e (expr_step (expr_of y) (expr_keeps y)))
      (λ x y e. subst (λ (d : Branch-F Choice Expr Branch). KeepsBranch (branch_denotation_of (roll-Branch d)) (branch_paths (roll-Branch d))) e (branch_step y.cond y.value))

-- ---- what follows

-- the second environments extend the first
pub record More (s t u v : Environment) : Type 0 where
  pub now : Under s u
  pub after : Under t v

-- denotations are monotone
pub denotation_monotone : (e : Expr) → LeDenotation More (denotation_of e) (denotation_of e)
denotation_monotone e = let all = mentioned_keeps (λ names. Unit {0}) e (λ path c. tt) in record {
  value = λ now after now' after' m. all.value now after now' after' (record { now_le = λ names p. m.now names; after_le = λ names p. m.after names });
  allows = λ now after now' after' m. all.allows now after now' after' (record { now_le = λ names p. m.now names; after_le = λ names p. m.after names });
}
