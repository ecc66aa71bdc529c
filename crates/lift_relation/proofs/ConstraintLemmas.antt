-- What remains of a constraint that begins with a feature's variable: at a product with the feature, or without it.
use Rattle.std.proofs.Common.{◌≡◌, ◌&&◌, ◌||◌, ◌⊎◌, inl, inr, not, Bool, true, false, List, [], ◌∷◌, Option, Some, None, refl, sym, ap, ◌∙◌, subst}
use Rattle.std.specs.Prelude.{IsSome}
use Rattle.smv_ast.specs.declared.syntax.Op.{Op}
use Rattle.smv_ast.specs.declared.syntax.Op.TheVariants as op
use Rattle.smv_ast.specs.declared.syntax.Path.{Path}
use Rattle.smv_ast.specs.declared.syntax.Expr.{Expr}
use Rattle.smv_ast.specs.declared.syntax.Expr.TheVariants as expr
use Rattle.smv_ast.specs.declared.program.Program.{Program}
use Rattle.smv_meaning.specs.declared.value.Value.{Value}
use Rattle.smv_meaning.specs.declared.value.Value.TheVariants.{Boolean}
use Rattle.fixpoint.specs.OptionOrder.{Le}
use Rattle.smv_meaning.specs.Value.{Name, and_then, of_both, operate, truth, is_truth, is_true}
use Rattle.smv_meaning.specs.Denotations.{Denotation, denotation_of}
use Rattle.smv_meaning.specs.Instances.{Instance}
use Rattle.smv_meaning.specs.Values.{State, environment_in, value_in}
use Rattle.lift_relation.specs.RelatedExpr.{IsVariableOf}
use Rattle.lift_relation.specs.Environments.{ShowsProduct}
use Rattle.lift_relation.proofs.FormLemmas.{binary_is, name_is}

inside : (v w : Value) → Some v ≡ Some w → v ≡ w
inside v w e = cc

no_value : (q : Option Value) → q ≡ None → IsSome q → ⊥
no_value None e v = cc
no_value (Some a) e v = cc

-- ---- an operator whose first operand is a truth value

-- it gives the truth value of the second, changed
abbrev Changes : Op → Bool → (Bool → Bool) → Type 0
Changes o h f = (v : Value) → operate o (Boolean h) v ≡ and_then (truth v) (λ b. Some (Boolean (f b)))

abbrev applied : Op → Bool → Option Value → Option Value
applied o h q = and_then q (operate o (Boolean h))

-- true only if the second is
leaves : (o : Op) (h : Bool) (f : Bool → Bool) → ((b : Bool) → f b ≡ b) → Changes o h f → (q : Option Value) → is_true (applied o h q) ≡ true → is_true q ≡ true
leaves o h f same is None e = cc
leaves o h f same is (Some v) e = at (truth v) (subst (λ (q : Option Value). is_true q ≡ true) (is v) e)
  where
    at : (t : Option Bool) → is_true (and_then t (λ b. Some (Boolean (f b)))) ≡ true → is_truth true t ≡ true
    at None k = cc
    at (Some b) k = sym (same b) ∙ k

-- true if the second is
restores : (o : Op) (h : Bool) (f : Bool → Bool) → ((b : Bool) → f b ≡ b) → Changes o h f → (q : Option Value) → is_true q ≡ true → is_true (applied o h q) ≡ true
restores o h f same is None e = cc
restores o h f same is (Some v) e = subst (λ (q : Option Value). is_true q ≡ true) (sym (is v)) (at (truth v) e)
  where
    at : (t : Option Bool) → is_truth true t ≡ true → is_true (and_then t (λ b. Some (Boolean (f b)))) ≡ true
    at None k = cc
    at (Some b) k = same b ∙ k

-- true wherever it has a value
always : (o : Op) (h : Bool) (f : Bool → Bool) → ((b : Bool) → f b ≡ true) → Changes o h f → (q : Option Value) → IsSome (applied o h q) → is_true (applied o h q) ≡ true
always o h f true_always is None e = cc
always o h f true_always is (Some v) e = subst (λ (q : Option Value). is_true q ≡ true) (sym (is v)) (at (truth v) (subst IsSome (is v) e))
  where
    at : (t : Option Bool) → IsSome (and_then t (λ b. Some (Boolean (f b)))) → is_true (and_then t (λ b. Some (Boolean (f b)))) ≡ true
    at None k = cc
    at (Some b) k = true_always b

-- ---- in an environment

module _ (features : Name) (has : Name → Bool) (lift : Program) (s s' : State) (instance : Instance) (shows : ShowsProduct features has (environment_in lift s instance)) (o : Op) (variable : Path) (feature : Name) (is : IsVariableOf features has variable feature) (x : Expr) where
  abbrev whole : Option Value
  whole = value_in lift s s' instance (expr.Binary o (expr.Name variable) x)

  abbrev rest : Option Value
  rest = value_in lift s s' instance x

  abbrev environment : List Name → Option Value
  environment = environment_in lift s instance

  whole_is : whole ≡ of_both (operate o) (environment (features ∷ feature ∷ [])) rest
  whole_is =
      subst (λ (d : Denotation). whole ≡ d.value environment (environment_in lift s' instance)) (binary_is o (expr.Name variable) x) refl
      ∙ (subst (λ (d : Denotation). of_both (operate o) ((denotation_of (expr.Name variable)).value environment (environment_in lift s' instance)) rest ≡ of_both (operate o) (d.value environment (environment_in lift s' instance)) rest) (name_is variable) refl
      ∙ subst (λ (names : List Name). of_both (operate o) (environment variable.names) rest ≡ of_both (operate o) (environment names) rest) is refl)

  -- the variable has the product's value, or the whole has none
  whole_or : (h : Bool) → has feature ≡ h → (whole ≡ None) ⊎ (whole ≡ applied o h rest)
  whole_or h e = at (environment (features ∷ feature ∷ [])) (subst (λ (b : Bool). Le (environment (features ∷ feature ∷ [])) (Some (Boolean b))) e (shows feature)) whole_is
    where
      at : (v : Option Value) → Le v (Some (Boolean h)) → whole ≡ of_both (operate o) v rest → (whole ≡ None) ⊎ (whole ≡ applied o h rest)
      at None l k = inl k
      at (Some v) l k = inr (subst (λ (u : Value). whole ≡ and_then rest (operate o u)) (sym (inside (Boolean h) v (l v refl))) k)

  -- true only if the rest is, where the feature's value changes nothing
  pub whole_leaves : (h : Bool) → has feature ≡ h → (f : Bool → Bool) → ((b : Bool) → f b ≡ b) → Changes o h f → is_true whole ≡ true → is_true rest ≡ true
  whole_leaves h e f same changes k = elim (whole_or h e) [
    | inl none ↦ let c : is_true None ≡ true = subst (λ (q : Option Value). is_true q ≡ true) none k in cc
    | inr some ↦ leaves o h f same changes rest (subst (λ (q : Option Value). is_true q ≡ true) some k)
  ]

  -- true if the rest is
  pub whole_restores : (h : Bool) → has feature ≡ h → (f : Bool → Bool) → ((b : Bool) → f b ≡ b) → Changes o h f → IsSome whole → is_true rest ≡ true → is_true whole ≡ true
  whole_restores h e f same changes v k = elim (whole_or h e) [
    | inl none ↦ absurd (no_value whole none v)
    | inr some ↦ subst (λ (q : Option Value). is_true q ≡ true) (sym some) (restores o h f same changes rest k)
  ]

  -- the rest has a value if the whole has
  pub whole_some : (h : Bool) → has feature ≡ h → IsSome whole → rest ≡ None → ⊥
  whole_some h e v none = elim (whole_or h e) [
    | inl f ↦ no_value whole f v
    | inr f ↦ no_value whole (f ∙ ap (applied o h) none) v
  ]

  -- true wherever it has a value, where the feature's value alone decides
  pub whole_always : (h : Bool) → has feature ≡ h → (f : Bool → Bool) → ((b : Bool) → f b ≡ true) → Changes o h f → IsSome whole → is_true whole ≡ true
  whole_always h e f true_always changes v = elim (whole_or h e) [
    | inl none ↦ absurd (no_value whole none v)
    | inr some ↦ subst (λ (q : Option Value). is_true q ≡ true) (sym some) (always o h f true_always changes rest (subst IsSome some v))
  ]

-- what the operators of the lift's constraints make of their second operand
pub chosen_implies : Changes op.Implies true (λ b. not true || b)
chosen_implies v = refl

pub left_out_implies : Changes op.Implies false (λ b. not false || b)
left_out_implies v = refl

pub chosen_or : Changes op.Or true (λ b. true || b)
chosen_or v = refl

pub left_out_or : Changes op.Or false (λ b. false || b)
left_out_or v = refl
