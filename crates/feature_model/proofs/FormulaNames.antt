-- A propositional formula without a fault of its names is a constraint on the declared features.
use Rattle.std.proofs.Common.{◌≡◌, Bool, true, false, ◌&&◌, List, [], ◌∷◌, Option, Some, None, is_some, cond, refl, sym, ◌∙◌, ap, subst}
use Rattle.smv_ast.specs.declared.syntax.Span.{Span}
use Rattle.smv_ast.specs.declared.syntax.Expr.{Expr, Expr-F, roll-Expr, fold-roll-Expr, map-Expr, ind-Expr}
use Rattle.smv_ast.specs.declared.syntax.Choice.{Choice, fold-Choice}
use Rattle.smv_ast.specs.declared.syntax.Branch.{Branch, fold-Branch}
use Rattle.smv_ast.specs.declared.fault.Fault.{Fault}
use Rattle.smv_ast.specs.declared.fault.Fault.TheVariants as fault
use Rattle.feature_model.specs.Constraints.{Name, feature_of}
use Rattle.feature_model.specs.WellFormed as w
use Rattle.feature_model.specs.WellFormed.{is_logical, is_feature, is_constraint}
use Rattle.feature_model.specs.Propositional as p
use Rattle.feature_model.specs.Propositional.{is_single, is_propositional}
use Rattle.feature_model.specs.NameFaults as n
use Rattle.feature_model.specs.NameFaults.{or_else, use_fault, path_fault, formula_fault}

pub both_true : (a b : Bool) → (a && b) ≡ true → (a ≡ true) × (b ≡ true)
both_true true b h = (refl, h)
both_true false b h = let bad : false ≡ true = h in cc

true_both : (a b : Bool) → a ≡ true → b ≡ true → (a && b) ≡ true
true_both a b h k = ap (λ x. x && b) h ∙ k

pub no_first : (a b : Option Fault) → or_else a b ≡ None → (a ≡ None) × (b ≡ None)
no_first None b h = (refl, h)
no_first (Some f) b h = let bad : Some f ≡ None = h in cc

pub is_known : (v : Bool) (f : Fault) → cond v None (Some f) ≡ None → v ≡ true
is_known true f h = refl
is_known false f h = let bad : Some f ≡ None = h in cc

module _ (names : List Name) (declared : Name → Bool) (known : (name : Name) → declared name ≡ true → is_some (feature_of names name) ≡ true) where
  path_known : (path : List Name) (at : Span) → is_single path ≡ true → path_fault declared path at ≡ None → is_feature names path ≡ true
  path_known [] at h k = let bad : false ≡ true = h in cc
  path_known (name ∷ []) at h k = known name (is_known (declared name) (fault.UnknownFeature (Some at) name) k)
  path_known (name ∷ other ∷ more) at h k = let bad : false ≡ true = h in cc

  abbrev Known : Expr → Type 0
  Known e = is_propositional e ≡ true → formula_fault declared e ≡ None → is_constraint names e ≡ true

  abbrev Exprs : Type 0
  Exprs = (e : Expr) × Known e

  abbrev Choices : Type 0
  Choices = (c : Choice) × Unit {0}

  abbrev Branches : Type 0
  Branches = (b : Branch) × Unit {0}

  abbrev expr_of : Expr-F Choices Exprs Branches → Expr-F Choice Expr Branch
  expr_of = map-Expr Choices Exprs Branches Choice Expr Branch (λ c. c.0) (λ e. e.0) (λ b. b.0)

  abbrev formulas : Expr-F Choice Expr Branch → Expr-F Bool Bool Bool
  formulas = map-Expr Choice Expr Branch Bool Bool Bool (fold-Choice Bool Bool Bool w.choice_layer p.expr_layer w.branch_layer) is_propositional (fold-Branch Bool Bool Bool w.choice_layer p.expr_layer w.branch_layer)

  abbrev faults : Expr-F Choice Expr Branch → Expr-F (Option Fault) (Option Fault) (Option Fault)
  faults = map-Expr Choice Expr Branch (Option Fault) (Option Fault) (Option Fault) (fold-Choice (Option Fault) (Option Fault) (Option Fault) n.choice_layer (n.expr_layer declared) n.branch_layer) (formula_fault declared) (fold-Branch (Option Fault) (Option Fault) (Option Fault) n.choice_layer (n.expr_layer declared) n.branch_layer)

  abbrev constraints : Expr-F Choice Expr Branch → Expr-F Bool Bool Bool
  constraints = map-Expr Choice Expr Branch Bool Bool Bool (fold-Choice Bool Bool Bool w.choice_layer (w.expr_layer names) w.branch_layer) (is_constraint names) (fold-Branch Bool Bool Bool w.choice_layer (w.expr_layer names) w.branch_layer)

  layer_known : (y : Expr-F Choices Exprs Branches) → p.expr_layer (formulas (expr_of y)) ≡ true → n.expr_layer declared (faults (expr_of y)) ≡ None → w.expr_layer names (constraints (expr_of y)) ≡ true
  layer_known Expr-F.True h k = refl
  layer_known Expr-F.False h k = refl
  layer_known (Expr-F.Number i) h k = let bad : false ≡ true = h in cc
  layer_known (Expr-F.Name path) h k = path_known path.names path.at h k
  layer_known (Expr-F.Neg a) h k = let bad : false ≡ true = h in cc
  layer_known (Expr-F.Not a) h k = a.1 h k
  layer_known (Expr-F.Binary op a b) h k =
      let all = both_true (is_logical op) (is_propositional a.0 && is_propositional b.0) h in
      let parts = both_true (is_propositional a.0) (is_propositional b.0) all.1 in
      let none = no_first (formula_fault declared a.0) (formula_fault declared b.0) k in
      true_both _ _ all.0 (true_both _ _ (a.1 parts.0 none.0) (b.1 parts.1 none.1))
  layer_known (Expr-F.Within a c) h k = let bad : false ≡ true = h in cc
  layer_known (Expr-F.Cases branches) h k = let bad : false ≡ true = h in cc
  layer_known (Expr-F.Next a) h k = let bad : false ≡ true = h in cc
  layer_known (Expr-F.Pick c) h k = let bad : false ≡ true = h in cc

  expr_step : (d : Expr-F Choice Expr Branch) → (p.expr_layer (formulas d) ≡ true → n.expr_layer declared (faults d) ≡ None → w.expr_layer names (constraints d) ≡ true) → Known (roll-Expr d)
  expr_step d kept h k = fold-roll-Expr Bool Bool Bool w.choice_layer (w.expr_layer names) w.branch_layer d
      ∙ kept (sym (fold-roll-Expr Bool Bool Bool w.choice_layer p.expr_layer w.branch_layer d) ∙ h) (sym (fold-roll-Expr (Option Fault) (Option Fault) (Option Fault) n.choice_layer (n.expr_layer declared) n.branch_layer d) ∙ k)

  pub formula_known : (e : Expr) → Known e
  formula_known = ind-Expr (λ c. Unit {0}) Known (λ b. Unit {0})
      (λ x y e. tt)
      (λ x y e. subst (λ (d : Expr-F Choice Expr Branch). Known (roll-Expr d)) e (expr_step (expr_of y) (layer_known y)))
      (λ x y e. tt)
