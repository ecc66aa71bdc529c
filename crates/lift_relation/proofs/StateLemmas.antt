-- States of the lift at a product and states of the text, one to one.
use Rattle.std.proofs.Common.{◌≡◌, ◌&&◌, ◌||◌, ◌⊎◌, inl, inr, Bool, true, false, List, [], ◌∷◌, ◌++◌, Option, Some, None, refl, sym, ap, ◌∙◌, subst, arith}
use Rattle.std.specs.Prelude.{if◌then◌else◌}
use Rattle.std.specs.List.{list_any, Contains, All}
use Rattle.std.specs.Str.{bytes_eq}
use Rattle.std.proofs.lemmas.Slice.Eq.{bytes_eq-Decides}
use Rattle.std.proofs.lemmas.List.Elements.{All-cons}
use mathlib.Core.Path.{fun_ext}
use Rattle.smv_ast.specs.declared.program.Program.{Program}
use Rattle.smv_meaning.specs.declared.value.Value.{Value}
use Rattle.smv_meaning.specs.declared.value.Value.TheVariants.{Boolean}
use Rattle.fixpoint.specs.OptionOrder.{Le}
use Rattle.smv_meaning.specs.Value.{Name, all_values}
use Rattle.smv_meaning.specs.Paths.{QualifiedName, IsVariable}
use Rattle.smv_meaning.specs.Instances.{Instance, path_of, instances, binding_at}
use Rattle.smv_meaning.specs.Values.{State, variable_in}
use Rattle.smv_meaning.specs.Runs.{VariableAt, variables, same_path, is_variable, or_else, IsState, IsExactState, IsInside}
use Rattle.smv_meaning.proofs.MemberLemmas.{In, in_of, all_in}
use Rattle.smv_meaning.proofs.BindingLemmas.{bound_variable}
use Rattle.lift_relation.specs.Weaving.{Weaving, IsOfText}
use Rattle.lift_relation.specs.RelatedNames.{AreRelatedStates}
use Rattle.lift_relation.specs.Correspondence.{projected, feature_path, IsAtProduct, IsSettled, IsFixed, AreRelatedVariables}
use Rattle.lift_relation.proofs.TextInstances.{contains_in}

-- ---- paths of variables

same_path_is : (a b : List Name) → same_path a b ≡ true → a ≡ b
same_path_is [] [] e = refl
same_path_is [] (y ∷ ys) e = cc
same_path_is (x ∷ xs) [] e = cc
same_path_is (x ∷ xs) (y ∷ ys) e = at (same_path_is xs ys) (bytes_eq x y) refl e
  where
    at : (same_path xs ys ≡ true → xs ≡ ys) → (b : Bool) → bytes_eq x y ≡ b → (b && same_path xs ys) ≡ true → x ∷ xs ≡ y ∷ ys
    at more true h k = let f = (bytes_eq-Decides x y).0 h in let g = more k in cc
    at more false h k = cc

same_path_itself : (path : List Name) → same_path path path ≡ true
same_path_itself [] = refl
same_path_itself (name ∷ more) = ap (λ b. b && same_path more more) ((bytes_eq-Decides name name).1 refl) ∙ same_path_itself more

any_in : {A : Type 0} (p : A → Bool) (xs : List A) (x : A) → In x xs → p x ≡ true → list_any p xs ≡ true
any_in p [] x i h = absurd i
any_in p (y ∷ ys) x (inl e) h = ap (λ b. b || list_any p ys) (ap p e ∙ h)
any_in p (y ∷ ys) x (inr i) h = ap (λ b. p y || b) (any_in p ys x i h) ∙ either (p y)
  where
    either : (b : Bool) → (b || true) ≡ true
    either true = refl
    either false = refl

from_any : {A : Type 0} (p : A → Bool) (xs : List A) → list_any p xs ≡ true → (x : A) × In x xs × (p x ≡ true)
from_any p [] h = cc
from_any {A} p (y ∷ ys) h = at (from_any p ys) (p y) refl h
  where
    at : (list_any p ys ≡ true → (x : A) × In x ys × (p x ≡ true)) → (b : Bool) → p y ≡ b → (b || list_any p ys) ≡ true → (x : A) × In x (y ∷ ys) × (p x ≡ true)
    at more true e h = (y, inl refl, e)
    at more false e h = let r = more h in (r.0, inr r.1, r.2)

module _ (program : Program) where
  -- the path of a variable is a variable's, and the other way round
  pub variable_is : (x : VariableAt) → In x (variables program) → is_variable program x.path ≡ true
  variable_is x i = any_in (λ y. same_path y.path x.path) (variables program) x i (same_path_itself x.path)

  pub is_variables : (path : List Name) → is_variable program path ≡ true → (x : VariableAt) × In x (variables program) × (x.path ≡ path)
  is_variables path e = let r = from_any (λ y. same_path y.path path) (variables program) e in (r.0, r.1, same_path_is r.0.path path r.2)

  -- the value of a variable in a state
  pub record Stands (s : State) (x : VariableAt) : Type 0 where
    pub value : Value
    pub stands : s x.path ≡ Some value
    pub allowed : Contains (all_values x.type) value

  pub stands_in : (s : State) → IsState program s → (x : VariableAt) → In x (variables program) → Stands s x
  stands_in s f x i =
      let v = all_in (λ (x : VariableAt). (v : Value) × (s x.path ≡ Some v) × Contains (all_values x.type) v) (variables program) x f i in
      record { value = v.0; stands = v.1; allowed = v.2 }

  pub state_of_each : (s : State) → ((x : VariableAt) → In x (variables program) → Stands s x) → IsState program s
  state_of_each s h = each (variables program) h
    where
      each : (xs : List VariableAt) → ((x : VariableAt) → In x xs → Stands s x) → All (λ x. (v : Value) × (s x.path ≡ Some v) × Contains (all_values x.type) v) xs
      each [] h = λ k d l. absurd (omega arith)
      each (x ∷ xs) h = let v = h x (inl refl) in All-cons (λ (x : VariableAt). (v : Value) × (s x.path ≡ Some v) × Contains (all_values x.type) v) x xs (v.value, v.stands, v.allowed) (each xs (λ y i. h y (inr i)))

-- ---- the two states

module _ (w : Weaving) (absent : State) (vars : AreRelatedVariables w absent) where
  -- a state of the text with the values that the other variables of the lift stand at
  abbrev pub completed : State → State
  completed t path = or_else (t path) (absent path)

  text_in_lift : (x : VariableAt) → In x (variables w.text) → In x (variables w.lift)
  text_in_lift x i = in_of (variables w.lift) x (vars.text x (contains_in (variables w.text) x i))

  -- a path that is no variable of the lift is none of the text
  not_in_text : (path : List Name) → is_variable w.lift path ≡ false → is_variable w.text path ≡ false
  not_in_text path e = at (is_variable w.text path) refl
    where
      at : (b : Bool) → is_variable w.text path ≡ b → b ≡ false
      at true h =
          let x = is_variables w.text path h in
          let f : is_variable w.lift path ≡ true = subst (λ (p : List Name). is_variable w.lift p ≡ true) x.2 (variable_is w.lift x.0 (text_in_lift x.0 x.1)) in
          cc
      at false h = refl

  -- the projection has the values of the text's variables
  projected_is : (s : State) (x : VariableAt) → In x (variables w.text) → projected w s x.path ≡ s x.path
  projected_is s x i = ap (λ (b : Bool). if b then s x.path else None) (variable_is w.text x i)

  completed_text : (t : State) → IsExactState w.text t → (x : VariableAt) → In x (variables w.text) → completed t x.path ≡ t x.path
  completed_text t f x i =
      let v = stands_in w.text t f.values x i in
      ap (λ (o : Option Value). or_else o (absent x.path)) v.stands ∙ sym v.stands

  completed_other : (t : State) → IsExactState w.text t → (path : List Name) → is_variable w.text path ≡ false → completed t path ≡ absent path
  completed_other t f path e = ap (λ (o : Option Value). or_else o (absent path)) (f.only path e)

  -- the variable of the text of a name in an instance
  variable_there : (q : QualifiedName Instance) → IsOfText w q.instance → binding_at w.text q ≡ Some IsVariable → (x : VariableAt) × In x (variables w.text) × (x.path ≡ path_of q.instance ++ q.name ∷ [])
  variable_there q g b = bound_variable w.text q (in_of (instances w.text) q.instance g) b

  -- ---- from the lift to the text

  pub projected_exact : (s : State) → IsExactState w.lift s → IsExactState w.text (projected w s)
  projected_exact s f = record {
    values = state_of_each w.text (projected w s) (λ x i. let v = stands_in w.lift s f.values x (text_in_lift x i) in record { value = v.value; stands = projected_is s x i ∙ v.stands; allowed = v.allowed });
    only = λ path e. ap (λ (b : Bool). if b then s path else None) e;
  }

  pub projected_related : (s : State) → IsExactState w.lift s → IsAtProduct w s → AreRelatedStates w s (projected w s)
  projected_related s f here = record {
    features = λ feature. at feature (is_variable w.lift (feature_path w feature)) refl;
    variables = λ q g b. let x = variable_there q g b in subst (λ (path : List Name). Le (s path) (projected w s path)) x.2 (λ v e. projected_is s x.0 x.1 ∙ e);
  }
    where
      at : (feature : Name) (b : Bool) → is_variable w.lift (feature_path w feature) ≡ b → Le (s (feature_path w feature)) (Some (Boolean (w.has feature)))
      at feature true e v h = let k : s (feature_path w feature) ≡ Some (Boolean (w.has feature)) = here feature e in sym k ∙ h
      at feature false e v h = let k : s (feature_path w feature) ≡ None = f.only (feature_path w feature) e in cc

  -- ---- from the text to the lift

  completed_stands : (t : State) → IsExactState w.text t → (x : VariableAt) → In x (variables w.lift) → Contains (variables w.text) x ⊎ IsFixed w absent x → Stands w.lift (completed t) x
  completed_stands t f x i (inl c) =
      let j = in_of (variables w.text) x c in
      let v = stands_in w.text t f.values x j in
      record { value = v.value; stands = completed_text t f x j ∙ v.stands; allowed = v.allowed }
  completed_stands t f x i (inr c) = record { value = c.value; stands = completed_other t f x.path c.missing ∙ c.stands; allowed = c.allowed }

  completed_exact : (t : State) → IsExactState w.text t → IsExactState w.lift (completed t)
  completed_exact t f = record {
    values = state_of_each w.lift (completed t) (λ x i. completed_stands t f x i (vars.lift x (contains_in (variables w.lift) x i)));
    only = λ path e. completed_other t f path (not_in_text path e) ∙ vars.none path e;
  }

  completed_at : (t : State) → IsExactState w.text t → IsAtProduct w (completed t)
  completed_at t f feature e =
      let x = is_variables w.lift (feature_path w feature) e in
      let v = stands_in w.lift (completed t) (completed_exact t f).values x.0 x.1 in
      let o = completed_other t f (feature_path w feature) (vars.reserved feature) in
      let p : completed t (feature_path w feature) ≡ Some v.value = subst (λ (path : List Name). completed t path ≡ Some v.value) x.2 v.stands in
      let a : absent (feature_path w feature) ≡ Some v.value = sym o ∙ p in
      p ∙ sym (vars.features feature v.value a)

  -- a state of the text is the projection of a settled state of the lift
  pub completed_settled : (t : State) → IsExactState w.text t → IsSettled w absent (completed t)
  completed_settled t f = record {
    exact = completed_exact t f;
    at = completed_at t f;
    settled = λ x i e. completed_other t f x.path e;
  }

  pub completed_related : (t : State) → IsExactState w.text t → AreRelatedStates w (completed t) t
  completed_related t f = record {
    features = λ feature. subst (λ (o : Option Value). Le o (Some (Boolean (w.has feature)))) (sym (completed_other t f (feature_path w feature) (vars.reserved feature))) (vars.features feature);
    variables = λ q g b. let x = variable_there q g b in subst (λ (path : List Name). Le (completed t path) (t path)) x.2 (λ v e. sym (completed_text t f x.0 x.1) ∙ e);
  }

  pub projected_completed : (t : State) → IsExactState w.text t → projected w (completed t) ≡ t
  projected_completed t f = fun_ext (λ path. at path (is_variable w.text path) refl)
    where
      at : (path : List Name) (b : Bool) → is_variable w.text path ≡ b → (if b then completed t path else None) ≡ t path
      at path true e = let x = is_variables w.text path e in subst (λ (p : List Name). completed t p ≡ t p) x.2 (completed_text t f x.0 x.1)
      at path false e = sym (f.only path e)

  -- ---- and back: a state of the lift that meets the invariants is the one that its projection gives

  fixed_value : (s : State) → IsExactState w.lift s → IsAtProduct w s → IsInside w.lift s → (x : VariableAt) → is_variable w.text x.path ≡ false → Contains (variables w.text) x ⊎ IsFixed w absent x → s x.path ≡ absent x.path
  fixed_value s f here inside x e (inl c) = let k = variable_is w.text x (in_of (variables w.text) x c) in cc
  fixed_value s f here inside x e (inr c) = c.fixed s f here inside ∙ sym c.stands

  other_value : (s : State) → IsExactState w.lift s → IsAtProduct w s → IsInside w.lift s → (path : List Name) → is_variable w.text path ≡ false → s path ≡ absent path
  other_value s f here inside path e = at (is_variable w.lift path) refl
    where
      at : (b : Bool) → is_variable w.lift path ≡ b → s path ≡ absent path
      at true h =
          let x = is_variables w.lift path h in
          subst (λ (p : List Name). s p ≡ absent p) x.2 (fixed_value s f here inside x.0 (subst (λ (p : List Name). is_variable w.text p ≡ false) (sym x.2) e) (vars.lift x.0 (contains_in (variables w.lift) x.0 x.1)))
      at false h = f.only path h ∙ sym (vars.none path h)

  pub completed_projected : (s : State) → IsExactState w.lift s → IsAtProduct w s → IsInside w.lift s → completed (projected w s) ≡ s
  completed_projected s f here inside = fun_ext (λ path. at path (is_variable w.text path) refl)
    where
      at : (path : List Name) (b : Bool) → is_variable w.text path ≡ b → or_else (if b then s path else None) (absent path) ≡ s path
      at path true e =
          let x = is_variables w.text path e in
          let v = stands_in w.lift s f.values x.0 (text_in_lift x.0 x.1) in
          subst (λ (p : List Name). or_else (s p) (absent p) ≡ s p) x.2 (ap (λ (o : Option Value). or_else o (absent x.0.path)) v.stands ∙ sym v.stands)
      at path false e = sym (other_value s f here inside path e)
