-- An expression in which no `next` may stand, and none stands, has the same value whatever the state after the step.
use Rattle.std.proofs.Common.{◌≡◌, Bool, false, List, [], ◌∷◌, Some, map, sym, subst}
use Rattle.std.proofs.lemmas.Bool.{or_parts}
use Rattle.std.specs.List.{list_any}
use Rattle.fixpoint.specs.OptionOrder.{Le}
use Rattle.smv_ast.specs.declared.syntax.Expr.{Expr, Expr-F, roll-Expr, fold-roll-Expr, map-Expr, ind-Expr}
use Rattle.smv_ast.specs.declared.syntax.Choice.{Choice, Choice-F, roll-Choice, fold-roll-Choice, map-Choice}
use Rattle.smv_ast.specs.declared.syntax.Branch.{Branch, Branch-F, roll-Branch, fold-roll-Branch}
use Rattle.smv_meaning.specs.declared.value.Value.{Value}
use Rattle.smv_meaning.specs.Value.{Name}
use Rattle.smv_meaning.specs.Monotone.{le_refl}
use Rattle.smv_meaning.specs.Denotations.{Environment, Allowed, Denotation, BranchDenotation, choice_denotation, expr_denotation, denotation_of, choice_allows, branch_denotation_of}
use Rattle.smv_meaning.specs.Layers.{LeAllowed, LeDenotation, LeBranch, single_le, EachDenotation, EachBranch, each_le, between_le, neg_le, not_le, binary_le, within_le, cases_le, pick_le}
use Rattle.smv_meaning.specs.MentionedPaths.{choice_denotations, expr_denotations, denotation_roll, choice_roll, branch_roll}
use Rattle.smv_shape.specs.Nexts.{Placed, choice_layer, expr_layer, branch_layer, has_stray_next, choice_has_stray, branch_has_stray}

-- what the first environment has now, the second has now; of the state after nothing is asked
abbrev pub SameNow : Environment → Environment → Environment → Environment → Type 0
SameNow now after now' after' = (names : List Name) → Le (now names) (now' names)

abbrev Steady : Denotation → Placed → Type 0
Steady s p = p false ≡ false → LeDenotation SameNow s s

abbrev SteadyAllowed : Allowed → Placed → Type 0
SteadyAllowed s p = p false ≡ false → LeAllowed SameNow s s

abbrev SteadyBranch : BranchDenotation → Placed → Type 0
SteadyBranch s p = p false ≡ false → LeBranch SameNow s s

abbrev Exprs : Type 0
Exprs = (e : Expr) × Steady (denotation_of e) (has_stray_next e)

abbrev Choices : Type 0
Choices = (c : Choice) × SteadyAllowed (choice_allows c) (choice_has_stray c)

abbrev Branches : Type 0
Branches = (b : Branch) × SteadyBranch (branch_denotation_of b) (branch_has_stray b)

abbrev choice_of : Choice-F Choices Exprs Branches → Choice-F Choice Expr Branch
choice_of = map-Choice Choices Exprs Branches Choice Expr Branch (λ c. c.0) (λ e. e.0) (λ b. b.0)

abbrev expr_of : Expr-F Choices Exprs Branches → Expr-F Choice Expr Branch
expr_of = map-Expr Choices Exprs Branches Choice Expr Branch (λ c. c.0) (λ e. e.0) (λ b. b.0)

abbrev choice_flags : Choice-F Choice Expr Branch → Choice-F Placed Placed Placed
choice_flags = map-Choice Choice Expr Branch Placed Placed Placed choice_has_stray has_stray_next branch_has_stray

abbrev expr_flags : Expr-F Choice Expr Branch → Expr-F Placed Placed Placed
expr_flags = map-Expr Choice Expr Branch Placed Placed Placed choice_has_stray has_stray_next branch_has_stray

parts_steady : (ps : List Exprs) → list_any (λ part. part false) (map has_stray_next (map (λ e. e.0) ps)) ≡ false → EachDenotation SameNow (map denotation_of (map (λ e. e.0) ps)) (map denotation_of (map (λ e. e.0) ps))
parts_steady [] h = tt
parts_steady (e ∷ ps) h = let b = or_parts (has_stray_next e.0 false) _ h in (e.1 b.0, parts_steady ps b.1)

branches_steady : (bs : List Branches) → list_any (λ branch. branch false) (map branch_has_stray (map (λ b. b.0) bs)) ≡ false → EachBranch SameNow (map branch_denotation_of (map (λ b. b.0) bs)) (map branch_denotation_of (map (λ b. b.0) bs))
branches_steady [] h = tt
branches_steady (b ∷ bs) h = let c = or_parts (branch_has_stray b.0 false) _ h in (b.1 c.0, branches_steady bs c.1)

choice_steady : (y : Choice-F Choices Exprs Branches) → SteadyAllowed (choice_denotation (choice_denotations (choice_of y))) (choice_layer (choice_flags (choice_of y)))
choice_steady (Choice-F.Each ps) h = each_le SameNow _ _ (parts_steady ps h)
choice_steady (Choice-F.Between low high) h = between_le SameNow low high

expr_steady : (y : Expr-F Choices Exprs Branches) → Steady (expr_denotation (expr_denotations (expr_of y))) (expr_layer (expr_flags (expr_of y)))
expr_steady Expr-F.True h = single_le SameNow _ _ (λ now after now' after' m. le_refl _)
expr_steady Expr-F.False h = single_le SameNow _ _ (λ now after now' after' m. le_refl _)
expr_steady (Expr-F.Number n) h = single_le SameNow _ _ (λ now after now' after' m. le_refl _)
expr_steady (Expr-F.Name path) h = single_le SameNow (λ now after. now path.names) (λ now after. now path.names) (λ now after now' after' m. m path.names)
expr_steady (Expr-F.Neg a) h = neg_le SameNow _ _ (a.1 h)
expr_steady (Expr-F.Not a) h = not_le SameNow _ _ (a.1 h)
expr_steady (Expr-F.Binary o a b) h = let n = or_parts (has_stray_next a.0 false) _ h in binary_le SameNow o _ _ _ _ (a.1 n.0) (b.1 n.1)
expr_steady (Expr-F.Within a c) h = let n = or_parts (has_stray_next a.0 false) _ h in within_le SameNow _ _ _ _ (a.1 n.0) (c.1 n.1)
expr_steady (Expr-F.Cases bs) h = cases_le SameNow _ _ (branches_steady bs h)
expr_steady (Expr-F.Next a) h = cc
expr_steady (Expr-F.Pick c) h = pick_le SameNow _ _ (c.1 h)

choice_step : (d : Choice-F Choice Expr Branch) → SteadyAllowed (choice_denotation (choice_denotations d)) (choice_layer (choice_flags d)) → SteadyAllowed (choice_allows (roll-Choice d)) (choice_has_stray (roll-Choice d))
choice_step d h =
    subst (λ (s : Allowed). SteadyAllowed s (choice_has_stray (roll-Choice d))) (sym (choice_roll d))
    (subst (SteadyAllowed (choice_denotation (choice_denotations d))) (sym (fold-roll-Choice Placed Placed Placed choice_layer expr_layer branch_layer d)) h)

expr_step : (d : Expr-F Choice Expr Branch) → Steady (expr_denotation (expr_denotations d)) (expr_layer (expr_flags d)) → Steady (denotation_of (roll-Expr d)) (has_stray_next (roll-Expr d))
expr_step d h =
    subst (λ (s : Denotation). Steady s (has_stray_next (roll-Expr d))) (sym (denotation_roll d))
    (subst (Steady (expr_denotation (expr_denotations d))) (sym (fold-roll-Expr Placed Placed Placed choice_layer expr_layer branch_layer d)) h)

branch_step : (a b : Exprs) → SteadyBranch (branch_denotation_of (roll-Branch (record { cond = a.0; value = b.0 }))) (branch_has_stray (roll-Branch (record { cond = a.0; value = b.0 })))
branch_step a b =
    subst (λ (s : BranchDenotation). SteadyBranch s (branch_has_stray (roll-Branch (record { cond = a.0; value = b.0 })))) (sym (branch_roll a.0 b.0))
    (subst (SteadyBranch (record { cond = denotation_of a.0; value = denotation_of b.0 })) (sym (fold-roll-Branch Placed Placed Placed choice_layer expr_layer branch_layer (record { cond = a.0; value = b.0 })))
    (λ h. let n = or_parts (has_stray_next a.0 false) _ h in record { cond = a.1 n.0; value = b.1 n.1 }))

-- the law
pub without_next : (e : Expr) → has_stray_next e false ≡ false → LeDenotation SameNow (denotation_of e) (denotation_of e)
without_next = ind-Expr (λ c. SteadyAllowed (choice_allows c) (choice_has_stray c)) (λ e. Steady (denotation_of e) (has_stray_next e)) (λ b. SteadyBranch (branch_denotation_of b) (branch_has_stray b))
    (λ x y e. subst (λ (d : Choice-F Choice Expr Branch). SteadyAllowed (choice_allows (roll-Choice d)) (choice_has_stray (roll-Choice d))) e (choice_step (choice_of y) (choice_steady y)))
    (λ x y e. subst (λ (d : Expr-F Choice Expr Branch). Steady (denotation_of (roll-Expr d)) (has_stray_next (roll-Expr d))) e (expr_step (expr_of y) (expr_steady y)))
    (λ x y e. subst (λ (d : Branch-F Choice Expr Branch). SteadyBranch (branch_denotation_of (roll-Branch d)) (branch_has_stray (roll-Branch d))) e (branch_step y.cond y.value))

-- its value is the same whatever the state after
pub value_now : (e : Expr) → has_stray_next e false ≡ false → (now after after' : Environment) (v : Value) → (denotation_of e).value now after ≡ Some v → (denotation_of e).value now after' ≡ Some v
value_now e h now after after' = (without_next e h).value now after now after' (λ names. le_refl (now names))

-- so are the values that it allows
pub allows_now : (e : Expr) → has_stray_next e false ≡ false → (now after after' : Environment) (v : Value) (b : Bool) → (denotation_of e).allows now after v ≡ Some b → (denotation_of e).allows now after' v ≡ Some b
allows_now e h now after after' v = (without_next e h).allows now after now after' (λ names. le_refl (now names)) v
