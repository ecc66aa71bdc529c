-- Related expressions have the same values: where the lift's has one at the product, the text's has it too.
use Rattle.std.proofs.Common.{◌≡◌, ◌&&◌, Bool, true, false, List, [], ◌∷◌, map, Option, Some, None, refl, sym, ◌∙◌, subst}
use Rattle.std.specs.Prelude.{if◌then◌else◌}
use Rattle.smv_ast.specs.declared.syntax.Op.TheVariants as op
use Rattle.smv_ast.specs.declared.syntax.Path.{Path}
use Rattle.smv_ast.specs.declared.syntax.Expr.{Expr, Expr-F}
use Rattle.smv_ast.specs.declared.syntax.Expr.TheVariants as expr
use Rattle.smv_ast.specs.declared.syntax.Choice.{Choice, Choice-F}
use Rattle.smv_ast.specs.declared.syntax.Choice.TheVariants as choice
use Rattle.smv_ast.specs.declared.syntax.Branch.{Branch}
use Rattle.smv_meaning.specs.declared.value.Value.{Value}
use Rattle.smv_meaning.specs.declared.value.Value.TheVariants.{Boolean}
use Rattle.fixpoint.specs.OptionOrder.{Le}
use Rattle.smv_meaning.specs.Value.{Name, and_then, of_both, operate, on_truths, truth}
use Rattle.smv_meaning.specs.Denotations.{Environment, Allowed, Denotation, BranchDenotation, holds_in, choice_denotation, expr_denotation, denotation_of, choice_allows, branch_denotation_of}
use Rattle.smv_meaning.specs.Monotone.{le_refl, then_le, map_le}
use Rattle.smv_meaning.specs.Layers.{LeAllowed, LeDenotation, LeBranch, single_le, EachDenotation, EachBranch, each_le, between_le, neg_le, not_le, binary_le, within_le, cases_le, branching, branching_le, next_le, pick_le}
use Rattle.smv_meaning.specs.MentionedPaths.{branch_roll}
use Rattle.integrate_impose.specs.Guard.{guarded}
use Rattle.lift_relation.specs.RelatedExpr.{branch_of, guarded_condition, IsVariableOf, RelatedExpr, BothTrue, BothFalse, BothNumber, BothName, BothNeg, BothNot, BothBinary, BothWithin, BothCases, BothNext, BothPick, Changed, Unchanged, Introduced, RelatedChoice, BothEach, BothBetween, RelatedExprs, NoExprs, MoreExprs, RelatedBranches, NoBranches, MoreBranches}
use Rattle.lift_relation.specs.Environments.{ShowsProduct, AreAtProduct, LeAtProduct}
use Rattle.lift_relation.proofs.FormLemmas.{true_is, false_is, number_is, name_is, neg_is, not_is, binary_is, within_is, cases_is, next_is, pick_is, each_is, between_is, parts, guarded_is}

pub le_trans : {A : Type 0} (o p q : Option A) → Le o p → Le p q → Le o q
le_trans o p q h k a e = k a (h a e)

module _ (features : Name) (has : Name → Bool) where
  abbrev M : Environment → Environment → Environment → Environment → Type 0
  M = AreAtProduct features has

  later : (now after now' after' : Environment) → M now after now' after' → M after after after' after'
  later now after now' after' m = record { now_same = m.after_same; after_same = m.after_same; now_shows = m.after_shows; after_shows = m.after_shows }

  -- ---- the same denotations, in other words

  by_form : (l t : Expr) (d e : Denotation) → denotation_of l ≡ d → denotation_of t ≡ e → LeDenotation M d e → LeAtProduct features has l t
  by_form l t d e i j h = subst (λ (s : Denotation). LeDenotation M s (denotation_of t)) (sym i) (subst (λ (s : Denotation). LeDenotation M d s) (sym j) h)

  by_choice : (l t : Choice) (d e : Allowed) → choice_allows l ≡ d → choice_allows t ≡ e → LeAllowed M d e → LeAllowed M (choice_allows l) (choice_allows t)
  by_choice l t d e i j h = subst (λ (s : Allowed). LeAllowed M s (choice_allows t)) (sym i) (subst (λ (s : Allowed). LeAllowed M d s) (sym j) h)

  by_branch : (c d v w : Expr) → LeBranch M (parts c v) (parts d w) → LeBranch M (branch_denotation_of (branch_of c v)) (branch_denotation_of (branch_of d w))
  by_branch c d v w h = subst (λ (s : BranchDenotation). LeBranch M s (branch_denotation_of (branch_of d w))) (sym (branch_roll c v)) (subst (λ (s : BranchDenotation). LeBranch M (parts c v) s) (sym (branch_roll d w)) h)

  name_le : (p q : Path) → p.names ≡ q.names → LeAtProduct features has (expr.Name p) (expr.Name q)
  name_le p q e =
      by_form (expr.Name p) (expr.Name q) _ _ (name_is p) (name_is q) (single_le M (λ now after. now p.names) (λ now after. now q.names)
      (λ now after now' after' m. subst (λ (r : Environment). Le (now p.names) (r q.names)) (sym m.now_same) (subst (λ (names : List Name). Le (now p.names) (now names)) e (le_refl _))))

  -- an expression has its own values
  itself : (e : Expr) → LeAtProduct features has e e
  itself e = record {
    value = λ now after now' after' m. subst (λ (r : Environment). Le ((denotation_of e).value now after) ((denotation_of e).value r after')) (sym m.now_same) (subst (λ (r : Environment). Le ((denotation_of e).value now after) ((denotation_of e).value now r)) (sym m.after_same) (le_refl _));
    allows = λ now after now' after' m v. subst (λ (r : Environment). Le ((denotation_of e).allows now after v) ((denotation_of e).allows r after' v)) (sym m.now_same) (subst (λ (r : Environment). Le ((denotation_of e).allows now after v) ((denotation_of e).allows now r v)) (sym m.after_same) (le_refl _));
  }

  -- ---- guards

  -- the value of a feature's variable
  variable_le : (variable : Path) (feature : Name) → IsVariableOf features has variable feature → (now after now' after' : Environment) → M now after now' after' → Le ((denotation_of (expr.Name variable)).value now after) (Some (Boolean (has feature)))
  variable_le variable feature is now after now' after' m =
      subst (λ (s : Denotation). Le (s.value now after) (Some (Boolean (has feature)))) (sym (name_is variable))
      (subst (λ (names : List Name). Le (now names) (Some (Boolean (has feature)))) (sym is) (m.now_shows feature))

  -- whether a condition holds that a feature guards
  abbrev held : Bool → Expr → Environment → Environment → Option Bool
  held true c now after = and_then ((denotation_of c).value now after) truth
  held false c now after = Some false

  truth_le : (h : Bool) (c : Expr) (now after : Environment) → Le (and_then (and_then ((denotation_of c).value now after) (on_truths op.And (Boolean h))) truth) (held h c now after)
  truth_le h c now after = at h ((denotation_of c).value now after) (held h c now after) (is h)
    where
      is : (h : Bool) → held h c now after ≡ (if h then and_then ((denotation_of c).value now after) truth else Some false)
      is true = refl
      is false = refl

      on : (h : Bool) (t : Option Bool) → Le (and_then (and_then t (λ c. Some (Boolean (h && c)))) truth) (if h then t else Some false)
      on true None a e = cc
      on true (Some c) a e = e
      on false None a e = cc
      on false (Some c) a e = e

      at : (h : Bool) (o : Option Value) (q : Option Bool) → q ≡ (if h then and_then o truth else Some false) → Le (and_then (and_then o (on_truths op.And (Boolean h))) truth) q
      at h None q e a i = cc
      at h (Some v) q e a i = e ∙ on h (truth v) a i

  condition_le : (variable : Path) (feature : Name) (c d : Expr) → IsVariableOf features has variable feature → LeAtProduct features has c d → (now after now' after' : Environment) → M now after now' after'
      → Le (and_then ((denotation_of (guarded_condition variable c)).value now after) truth) (held (has feature) d now' after')
  condition_le variable feature c d is h now after now' after' m =
      subst (λ (s : Denotation). Le (and_then (s.value now after) truth) (held (has feature) d now' after')) (sym (binary_is op.And (expr.Name variable) c))
      (le_trans _ _ _
      (map_le truth _ (and_then ((denotation_of d).value now' after') (on_truths op.And (Boolean (has feature))))
      (then_le ((denotation_of (expr.Name variable)).value now after) (Some (Boolean (has feature))) (λ v. and_then ((denotation_of c).value now after) (operate op.And v)) (λ v. and_then ((denotation_of d).value now' after') (operate op.And v))
      (variable_le variable feature is now after now' after' m) (λ v. map_le (operate op.And v) _ _ (h.value now after now' after' m))))
      (truth_le (has feature) d now' after'))

  -- a guarded value, by whatever selects its branch in the text
  guarded_le : (cond d v w o u : Expr) (q : Environment → Environment → Option Bool) → ((now after now' after' : Environment) → M now after now' after' → Le (and_then ((denotation_of cond).value now after) truth) (q now' after'))
      → LeAtProduct features has v w → LeAtProduct features has o u → LeDenotation M (denotation_of (guarded cond v o)) (branching M q (parts d w) (parts expr.True u))
  guarded_le cond d v w o u q h k l =
      subst (λ (s : Denotation). LeDenotation M s (branching M q (parts d w) (parts expr.True u))) (sym (guarded_is cond v o))
      (branching_le M (λ now after. holds_in now after (parts cond v)) q h (parts cond v) (parts expr.True o) (parts d w) (parts expr.True u) k l)

  changed_le : (variable : Path) (feature : Name) (c d v w o u : Expr) → IsVariableOf features has variable feature → has feature ≡ true → LeAtProduct features has c d → LeAtProduct features has v w → LeAtProduct features has o u
      → LeAtProduct features has (guarded (guarded_condition variable c) v o) (guarded d w u)
  changed_le variable feature c d v w o u is e h k l =
      subst (λ (s : Denotation). LeDenotation M (denotation_of (guarded (guarded_condition variable c) v o)) s) (sym (guarded_is d w u))
      (subst (λ (b : Bool). LeDenotation M (denotation_of (guarded (guarded_condition variable c) v o)) (branching M (held b d) (parts d w) (parts expr.True u))) e
      (guarded_le (guarded_condition variable c) d v w o u (held (has feature) d) (condition_le variable feature c d is h) k l))

  unchanged_le : (variable : Path) (feature : Name) (c v o u : Expr) → IsVariableOf features has variable feature → has feature ≡ false → LeAtProduct features has o u
      → LeAtProduct features has (guarded (guarded_condition variable c) v o) u
  unchanged_le variable feature c v o u is e l =
      subst (λ (b : Bool). LeDenotation M (denotation_of (guarded (guarded_condition variable c) v o)) (branching M (held b c) (parts c v) (parts expr.True u))) e
      (guarded_le (guarded_condition variable c) c v v o u (held (has feature) c) (condition_le variable feature c c is (itself c)) (itself v) l)

  introduced_le : (variable : Path) (feature : Name) (v w o : Expr) → IsVariableOf features has variable feature → has feature ≡ true → LeAtProduct features has v w → LeAtProduct features has (guarded (expr.Name variable) v o) w
  introduced_le variable feature v w o is e k =
      subst (λ (b : Bool). LeDenotation M (denotation_of (guarded (expr.Name variable) v o)) (branching M (λ now after. Some b) (parts (expr.Name variable) w) (parts expr.True o))) e
      (guarded_le (expr.Name variable) (expr.Name variable) v w o o (λ now after. Some (has feature))
      (λ now after now' after' m. map_le truth _ (Some (Boolean (has feature))) (variable_le variable feature is now after now' after' m)) k (itself o))

  -- where the product lacks the feature, the old value is what remains
  pub not_introduced_le : (variable : Path) (feature : Name) (v o : Expr) → IsVariableOf features has variable feature → has feature ≡ false → LeAtProduct features has (guarded (expr.Name variable) v o) o
  not_introduced_le variable feature v o is e =
      subst (λ (b : Bool). LeDenotation M (denotation_of (guarded (expr.Name variable) v o)) (branching M (λ now after. Some b) (parts (expr.Name variable) v) (parts expr.True o))) e
      (guarded_le (expr.Name variable) (expr.Name variable) v v o o (λ now after. Some (has feature))
      (λ now after now' after' m. map_le truth _ (Some (Boolean (has feature))) (variable_le variable feature is now after now' after' m)) (itself v) (itself o))

  -- ---- the law

  mutual
    pub related_le : (l t : Expr) → RelatedExpr features has l t → LeAtProduct features has l t
    related_le l t BothTrue = by_form l t _ _ true_is true_is (single_le M _ _ (λ now after now' after' m. le_refl _))
    related_le l t BothFalse = by_form l t _ _ false_is false_is (single_le M _ _ (λ now after now' after' m. le_refl _))
    related_le l t (BothNumber n) = by_form l t _ _ (number_is n) (number_is n) (single_le M _ _ (λ now after now' after' m. le_refl _))
    related_le l t (BothName p q e) = name_le p q e
    related_le l t (BothNeg a b h) = by_form l t _ _ (neg_is a) (neg_is b) (neg_le M _ _ (related_le a b h))
    related_le l t (BothNot a b h) = by_form l t _ _ (not_is a) (not_is b) (not_le M _ _ (related_le a b h))
    related_le l t (BothBinary op a b c d h k) = by_form l t _ _ (binary_is op a c) (binary_is op b d) (binary_le M op _ _ _ _ (related_le a b h) (related_le c d k))
    related_le l t (BothWithin a b c d h k) = by_form l t _ _ (within_is a c) (within_is b d) (within_le M _ _ _ _ (related_le a b h) (choice_le c d k))
    related_le l t (BothCases bs cs h) = by_form l t _ _ (cases_is bs) (cases_is cs) (cases_le M _ _ (branches_le bs cs h))
    related_le l t (BothNext a b h) = by_form l t _ _ (next_is a) (next_is b) (next_le M later _ _ (related_le a b h))
    related_le l t (BothPick c d h) = by_form l t _ _ (pick_is c) (pick_is d) (pick_le M _ _ (choice_le c d h))
    related_le l t (Changed variable feature c d v w o u is e h k m) = changed_le variable feature c d v w o u is e (related_le c d h) (related_le v w k) (related_le o u m)
    related_le l t (Unchanged variable feature c v o u is e h) = unchanged_le variable feature c v o u is e (related_le o u h)
    related_le l t (Introduced variable feature v w o is e h) = introduced_le variable feature v w o is e (related_le v w h)

    choice_le : (l t : Choice) → RelatedChoice features has l t → LeAllowed M (choice_allows l) (choice_allows t)
    choice_le l t (BothEach xs ys h) = by_choice l t _ _ (each_is xs) (each_is ys) (each_le M _ _ (exprs_le xs ys h))
    choice_le l t (BothBetween low high) = by_choice l t _ _ (between_is low high) (between_is low high) (between_le M low high)

    exprs_le : (ls ts : List Expr) → RelatedExprs features has ls ts → EachDenotation M (map denotation_of ls) (map denotation_of ts)
    exprs_le ls ts NoExprs = tt
    exprs_le ls ts (MoreExprs a b xs ys h k) = (related_le a b h, exprs_le xs ys k)

    branches_le : (ls ts : List Branch) → RelatedBranches features has ls ts → EachBranch M (map branch_denotation_of ls) (map branch_denotation_of ts)
    branches_le ls ts NoBranches = tt
    branches_le ls ts (MoreBranches c d v w bs cs h k m) = (by_branch c d v w (record { cond = related_le c d h; value = related_le v w k }), branches_le bs cs m)
