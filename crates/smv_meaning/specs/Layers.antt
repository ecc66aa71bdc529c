-- One lemma for each form of an expression: its denotation keeps 'where the first is defined, the second is defined and
-- equal', whatever relation the environments of the two are in. That denotations are monotone, that they read mentioned paths
-- alone, and that related expressions have related denotations all follow layer by layer.
use Rattle.std.proofs.Common.{◌||◌, Bool, true, false, List, [], ◌∷◌, Option, Some, None, refl, ℤ}
use Rattle.smv_ast.specs.declared.syntax.Op.{Op}
use Rattle.smv_ast.specs.declared.syntax.Expr.{Expr-F}
use Rattle.smv_ast.specs.declared.syntax.Choice.{Choice-F}
use Rattle.smv_meaning.specs.declared.value.Value.{Value}
use Rattle.smv_meaning.specs.declared.value.Value.TheVariants.{Boolean}
use Rattle.smv_meaning.specs.Value.{and_then, operate, negated, logical_not, same, truth}
use Rattle.fixpoint.specs.OptionOrder.{Le}
use Rattle.smv_meaning.specs.Monotone.{le_refl, then_le, map_le, both_le}
use Rattle.smv_meaning.specs.Denotations.{Environment, Valued, Allowed, Denotation, BranchDenotation, single, parts_allow, taken_in, holds_in, choice_denotation, expr_denotation}

-- M: the relation of the environments of the first and of the second, now and after the step
module _ (M : Environment → Environment → Environment → Environment → Type 0) where
  abbrev pub LeValued : Valued → Valued → Type 0
  LeValued s t = (now after now' after' : Environment) → M now after now' after' → Le (s now after) (t now' after')

  abbrev pub LeAllowed : Allowed → Allowed → Type 0
  LeAllowed s t = (now after now' after' : Environment) → M now after now' after' → (v : Value) → Le (s now after v) (t now' after' v)

  pub record LeDenotation (s t : Denotation) : Type 0 where
    pub value : (now after now' after' : Environment) → M now after now' after' → Le (s.value now after) (t.value now' after')
    pub allows : (now after now' after' : Environment) → M now after now' after' → (v : Value) → Le (s.allows now after v) (t.allows now' after' v)

  pub record LeBranch (s t : BranchDenotation) : Type 0 where
    pub cond : LeDenotation s.cond t.cond
    pub value : LeDenotation s.value t.value

  pub single_le : (s t : Valued) → LeValued s t → LeDenotation (single s) (single t)
  single_le s t h = record { value = h; allows = λ now after now' after' m v. map_le (λ w. Some (same v w)) (s now after) (t now' after') (h now after now' after' m) }

  -- ---- lists of parts and of branches

  abbrev pub EachDenotation : List Denotation → List Denotation → Type 0
  EachDenotation [] [] = Unit {0}
  EachDenotation (s ∷ ss) (t ∷ ts) = LeDenotation s t × EachDenotation ss ts
  EachDenotation ss ts = ⊥

  abbrev pub EachBranch : List BranchDenotation → List BranchDenotation → Type 0
  EachBranch [] [] = Unit {0}
  EachBranch (s ∷ ss) (t ∷ ts) = LeBranch s t × EachBranch ss ts
  EachBranch ss ts = ⊥

  pub parts_le : (ss ts : List Denotation) → EachDenotation ss ts → LeAllowed (λ now after v. parts_allow now after v ss) (λ now after v. parts_allow now after v ts)
  parts_le [] [] h now after now' after' m v = le_refl _
  parts_le [] (t ∷ ts) h now after now' after' m v = absurd h
  parts_le (s ∷ ss) [] h now after now' after' m v = absurd h
  parts_le (s ∷ ss) (t ∷ ts) h now after now' after' m v =
      both_le (λ b c. Some (b || c)) _ _ _ _ (h.0.allows now after now' after' m v) (parts_le ss ts h.1 now after now' after' m v)

  -- a property of the selected branch
  module _ {A : Type 0} (use' : Environment → Environment → BranchDenotation → Option A) (uses : (s t : BranchDenotation) → LeDenotation s.value t.value → (now after now' after' : Environment) → M now after now' after' → Le (use' now after s) (use' now' after' t)) where
    chosen_le : (x y : Option BranchDenotation) (s t : BranchDenotation) (now after now' after' : Environment) → M now after now' after' → LeDenotation s.value t.value → Le (and_then x (use' now after)) (and_then y (use' now' after')) → (b : Bool) →
        Le (and_then (elim b [ true ↦ Some s | false ↦ x ]) (use' now after)) (and_then (elim b [ true ↦ Some t | false ↦ y ]) (use' now' after'))
    chosen_le x y s t now after now' after' m h k true = uses s t h now after now' after' m
    chosen_le x y s t now after now' after' m h k false = k

    pub held_le : (x y : Option BranchDenotation) (s t : BranchDenotation) (now after now' after' : Environment) → M now after now' after' → LeDenotation s.value t.value → Le (and_then x (use' now after)) (and_then y (use' now' after')) → (o q : Option Bool) → Le o q →
        Le (and_then (and_then o elim [ true ↦ Some s | false ↦ x ]) (use' now after)) (and_then (and_then q elim [ true ↦ Some t | false ↦ y ]) (use' now' after'))
    held_le x y s t now after now' after' m h k None q l a e = cc
    held_le x y s t now after now' after' m h k (Some b) q l a e = rw (l b refl) (chosen_le x y s t now after now' after' m h k b a e)

    pub taken_le : (ss ts : List BranchDenotation) → EachBranch ss ts → (now after now' after' : Environment) → M now after now' after' → Le (and_then (taken_in now after ss) (use' now after)) (and_then (taken_in now' after' ts) (use' now' after'))
    taken_le [] [] h now after now' after' m = le_refl _
    taken_le [] (t ∷ ts) h now after now' after' m = absurd h
    taken_le (s ∷ ss) [] h now after now' after' m = absurd h
    taken_le (s ∷ []) (t ∷ []) h now after now' after' m = uses s t h.0.value now after now' after' m
    taken_le (s ∷ []) (t ∷ t' ∷ ts) h now after now' after' m = absurd h.1
    taken_le (s ∷ s' ∷ ss) (t ∷ []) h now after now' after' m = absurd h.1
    taken_le (s ∷ s' ∷ ss) (t ∷ t' ∷ ts) h now after now' after' m =
        held_le _ _ s t now after now' after' m h.0.value (taken_le (s' ∷ ss) (t' ∷ ts) h.1 now after now' after' m) (holds_in now after s) (holds_in now' after' t)
        (map_le truth _ _ (h.0.cond.value now after now' after' m))

  -- ---- one layer of an expression

  pub each_le : (ss ts : List Denotation) → EachDenotation ss ts → LeAllowed (choice_denotation (Choice-F.Each ss)) (choice_denotation (Choice-F.Each ts))
  each_le = parts_le

  pub between_le : (low high : ℤ) → LeAllowed (choice_denotation (Choice-F.Between low high)) (choice_denotation (Choice-F.Between low high))
  between_le low high now after now' after' m v = le_refl _

  pub neg_le : (s t : Denotation) → LeDenotation s t → LeDenotation (expr_denotation (Expr-F.Neg s)) (expr_denotation (Expr-F.Neg t))
  neg_le s t h = single_le _ _ (λ now after now' after' m. map_le negated _ _ (h.value now after now' after' m))

  pub not_le : (s t : Denotation) → LeDenotation s t → LeDenotation (expr_denotation (Expr-F.Not s)) (expr_denotation (Expr-F.Not t))
  not_le s t h = single_le _ _ (λ now after now' after' m. map_le logical_not _ _ (h.value now after now' after' m))

  pub binary_le : (op : Op) (s t u v : Denotation) → LeDenotation s t → LeDenotation u v → LeDenotation (expr_denotation (Expr-F.Binary op s u)) (expr_denotation (Expr-F.Binary op t v))
  binary_le op s t u v h k = single_le _ _ (λ now after now' after' m. both_le (operate op) _ _ _ _ (h.value now after now' after' m) (k.value now after now' after' m))

  pub within_le : (s t : Denotation) (c d : Allowed) → LeDenotation s t → LeAllowed c d → LeDenotation (expr_denotation (Expr-F.Within s c)) (expr_denotation (Expr-F.Within t d))
  within_le s t c d h k =
      single_le _ _ (λ now after now' after' m. then_le _ _ _ _ (h.value now after now' after' m) (λ v. map_le (λ b. Some (Boolean b)) _ _ (k now after now' after' m v)))

  pub cases_le : (ss ts : List BranchDenotation) → EachBranch ss ts → LeDenotation (expr_denotation (Expr-F.Cases ss)) (expr_denotation (Expr-F.Cases ts))
  cases_le ss ts h = record {
    value = taken_le (λ now after s. s.value.value now after) (λ s t k. k.value) ss ts h;
    allows = λ now after now' after' m v. taken_le (λ now after s. s.value.allows now after v) (λ s t k now after now' after' m. k.allows now after now' after' m v) ss ts h now after now' after' m;
  }

  -- a case of two branches that something else selects
  abbrev pub branching : (Environment → Environment → Option Bool) → BranchDenotation → BranchDenotation → Denotation
  branching q s t = record {
    value = λ now after. and_then (and_then (q now after) elim [ true ↦ Some s | false ↦ Some t ]) (λ b. b.value.value now after);
    allows = λ now after v. and_then (and_then (q now after) elim [ true ↦ Some s | false ↦ Some t ]) (λ b. b.value.allows now after v);
  }

  pub branching_le : (p q : Environment → Environment → Option Bool) → ((now after now' after' : Environment) → M now after now' after' → Le (p now after) (q now' after')) →
      (s t s' t' : BranchDenotation) → LeDenotation s.value s'.value → LeDenotation t.value t'.value → LeDenotation (branching p s t) (branching q s' t')
  branching_le p q h s t s' t' k l = record {
    value = λ now after now' after' m.
        held_le (λ now after b. b.value.value now after) (λ s t k. k.value) (Some t) (Some t') s s' now after now' after' m k (l.value now after now' after' m) (p now after) (q now' after') (h now after now' after' m);
    allows = λ now after now' after' m v.
        held_le (λ now after b. b.value.allows now after v) (λ s t k now after now' after' m. k.allows now after now' after' m v) (Some t) (Some t') s s' now after now' after' m k (l.allows now after now' after' m v) (p now after) (q now' after') (h now after now' after' m);
  }

  pub next_le : ((now after now' after' : Environment) → M now after now' after' → M after after after' after') → (s t : Denotation) → LeDenotation s t → LeDenotation (expr_denotation (Expr-F.Next s)) (expr_denotation (Expr-F.Next t))
  next_le later s t h = single_le _ _ (λ now after now' after' m. h.value after after after' after' (later now after now' after' m))

  pub pick_le : (c d : Allowed) → LeAllowed c d → LeDenotation (expr_denotation (Expr-F.Pick c)) (expr_denotation (Expr-F.Pick d))
  pick_le c d h = record { value = λ now after now' after' m. le_refl _; allows = h }
