-- What a state or a step of the text meets, a related one of the lift meets, where the items of the lift have values.
use Rattle.std.proofs.Common.{◌≡◌, Bool, true, false, ◌||◌, not, ◌⊎◌, inl, inr, List, [], ◌∷◌, ◌++◌, Option, Some, None, refl, sym, ap, ◌∙◌, subst}
use Rattle.std.specs.Prelude.{IsSome}
use Rattle.std.specs.List.{Contains, All}
use Rattle.smv_ast.specs.declared.syntax.Op.TheVariants as op
use Rattle.smv_ast.specs.declared.syntax.Path.{Path}
use Rattle.smv_ast.specs.declared.syntax.Expr.{Expr}
use Rattle.smv_ast.specs.declared.program.Left.{Left}
use Rattle.smv_ast.specs.declared.program.Left.TheVariants as left
use Rattle.smv_ast.specs.declared.program.Program.{Program}
use Rattle.smv_meaning.specs.declared.value.Value.{Value}
use Rattle.smv_meaning.specs.declared.items.Role.TheVariants as role
use Rattle.fixpoint.specs.OptionOrder.{Le}
use Rattle.smv_meaning.specs.Value.{Name, and_then, all_values, is_true}
use Rattle.smv_meaning.specs.Paths.{QualifiedName, Binding, IsVariable}
use Rattle.smv_meaning.specs.Instances.{Instance, instances, binding_at}
use Rattle.smv_meaning.specs.Items.{Item, Assigns, Constrains}
use Rattle.smv_meaning.specs.ItemIndex.{items_at}
use Rattle.smv_meaning.specs.Values.{State, variable_in, values_in, value_in, allows_in}
use Rattle.smv_meaning.specs.Runs.{VariableAt, variables, surely, is_assigned, is_true_in, begins, stays, steps, each_item, IsState, IsInit, IsInside, IsStep}
use Rattle.smv_meaning.proofs.MemberLemmas.{In, in_of, all_in}
use Rattle.smv_meaning.proofs.BindingLemmas.{bound_variable}
use Rattle.lift_relation.specs.RelatedExpr.{guarded_constraint, IsVariableOf}
use Rattle.lift_relation.specs.Weaving.{Weaving, IsOfText}
use Rattle.lift_relation.specs.RelatedNames.{ReadAlike, AreRelatedNames, AreRelatedStates}
use Rattle.lift_relation.specs.RelatedItems.{restricts, HasValue, HoldsAtProduct, RelatedItem, BothConstrain, IntroducedConstraint, BothAssign, AreRelatedItems}
use Rattle.lift_relation.proofs.TextInstances.{contains_in}
use Rattle.lift_relation.proofs.BindingLaw.{RelatedBinding, Variables, bindings_related}
use Rattle.lift_relation.proofs.ResolutionLaw.{IsDeclared}
use Rattle.lift_relation.proofs.ValueLaw.{shows_product, values_le, value_le, allows_le}
use Rattle.lift_relation.proofs.ConstraintLemmas.{whole_some, whole_restores, chosen_implies}
use Rattle.lift_relation.proofs.VariableLemmas.{variable_value}
use Rattle.lift_relation.proofs.ItemLemmas.{item_passes, items_pass, free, instance_kept}

-- a value that there is
pub exact : {A : Type 0} (o q : Option A) → Le o q → IsSome o → q ≡ o
exact None q h s = cc
exact (Some a) q h s = h a refl

-- each variable of an instance has a value in a state
pub has_value : (program : Program) (s : State) → IsState program s → (q : QualifiedName Instance) → In q.instance (instances program) → binding_at program q ≡ Some IsVariable → (v : Value) × (variable_in s q ≡ Some v)
has_value program s f q i b =
    let x = bound_variable program q i b in
    let v = all_in (λ (x : VariableAt). (v : Value) × (s x.path ≡ Some v) × Contains (all_values x.type) v) (variables program) x.0 f x.1 in
    (v.0, subst (λ (path : List Name). s path ≡ Some v.0) x.2 v.1)

module _ (w : Weaving) (names : AreRelatedNames w) (At : State → Type 0) (items : AreRelatedItems w At) where
  -- two states of the lift and of the text
  pub record Related (s t : State) : Type 0 where
    pub related : AreRelatedStates w s t
    pub is_state : IsState w.lift s
    pub at : At s

  -- a variable of the text is one of the lift
  variable_too : (q : QualifiedName Instance) → IsOfText w q.instance → binding_at w.text q ≡ Some IsVariable → binding_at w.lift q ≡ Some IsVariable
  variable_too q g b = let r = bindings_related w names q g IsVariable b in at r.binding IsVariable r.related refl r.bound
    where
      at : (l t : Binding Instance) → RelatedBinding w q.instance l t → t ≡ IsVariable → binding_at w.lift q ≡ Some l → binding_at w.lift q ≡ Some IsVariable
      at l t Variables e h = h
      at l t _ e h = cc

  true_back : (instance : Instance) → IsOfText w instance → (s s' t t' : State) → Related s t → Related s' t' → (x y : Expr) → ReadAlike w instance x y → IsSome (value_in w.lift s s' instance x) → is_true_in w.text instance t t' y ≡ true → is_true_in w.lift instance s s' x ≡ true
  true_back instance g s s' t t' h h' x y k v e = subst (λ (o : Option Value). is_true o ≡ true) (exact _ _ (value_le w names s s' t t' h.related h'.related instance g x y k) v) e

  guarded_back : (instance : Instance) → IsOfText w instance → (s s' t t' : State) → Related s t → Related s' t' → (variable : Path) (feature : Name) (x y : Expr) → IsVariableOf w.features w.has variable feature → w.has feature ≡ true → ReadAlike w instance x y
      → IsSome (value_in w.lift s s' instance (guarded_constraint variable x)) → is_true_in w.text instance t t' y ≡ true → is_true_in w.lift instance s s' (guarded_constraint variable x) ≡ true
  guarded_back instance g s s' t t' h h' variable feature x y is e k v m = at (value_in w.lift s s' instance x) refl
    where
      restored : is_true_in w.lift instance s s' x ≡ true → is_true_in w.lift instance s s' (guarded_constraint variable x) ≡ true
      restored = whole_restores w.features w.has w.lift s s' instance (shows_product w names s t h.related instance g) op.Implies variable feature is x true e (λ b. not true || b) (λ b. refl) chosen_implies v

      at : (o : Option Value) → value_in w.lift s s' instance x ≡ o → is_true_in w.lift instance s s' (guarded_constraint variable x) ≡ true
      at None i = absurd (whole_some w.features w.has w.lift s s' instance (shows_product w names s t h.related instance g) op.Implies variable feature is x true e v i)
      at (Some a) i = restored (true_back instance g s s' t t' h h' x y k (subst IsSome (sym i) refl) m)

  assigned_back : (instance : Instance) → IsOfText w instance → (own own' s s' t t' : State) → Related own own' → Related s t → Related s' t' → (name : Name) (x y : Expr) → ReadAlike w instance x y → binding_at w.text (record { instance = instance; name = name }) ≡ Some IsVariable
      → ((v : Value) → IsSome (allows_in w.lift s s' instance x v)) → is_assigned w.text instance own' t t' name y ≡ true → is_assigned w.lift instance own s s' name x ≡ true
  assigned_back instance g own own' s s' t t' o h h' name x y k b d e =
      let q : QualifiedName Instance = record { instance = instance; name = name } in
      let c = variable_too q g b in
      let v = has_value w.lift own o.is_state q (instance_kept w names instance (in_of (instances w.text) instance g)) c in
      let l : values_in w.lift own q ≡ Some v.0 = variable_value w.lift own q c ∙ v.1 in
      let u : values_in w.text own' q ≡ Some v.0 = values_le w names own own' o.related q (record { there = g; binding = IsVariable; bound = b }) v.0 l in
      let m : surely (allows_in w.text t t' instance y v.0) ≡ true = subst (λ (o : Option Value). surely (and_then o (allows_in w.text t t' instance y)) ≡ true) u e in
      subst (λ (o : Option Value). surely (and_then o (allows_in w.lift s s' instance x)) ≡ true) (sym l)
      (subst (λ (o : Option Bool). surely o ≡ true) (exact _ _ (allows_le w names s s' t t' h.related h'.related instance g x y k v.0) (d v.0)) m)

  -- an item of the lift, by its values and what it is in the text
  back : (p q : Instance → Item → Bool) → ((instance : Instance) → IsOfText w instance → (l t : Item) → RelatedItem w instance l t → ((s t : State) → IsState w.lift s → IsState w.lift t → HasValue w.lift instance s t l) → q instance t ≡ true → p instance l ≡ true)
      → ((instance : Instance) (l : Item) → restricts l ≡ false ⊎ HoldsAtProduct w At instance l → p instance l ≡ true) → each_item w.text q ≡ true → each_item w.lift p ≡ true
  back p q h holds e = items_pass w.lift p (λ instance i l j. at instance i l j (restricts l) refl)
    where
      at : (instance : Instance) → In instance (instances w.lift) → (l : Item) → In l (items_at w.lift instance) → (b : Bool) → restricts l ≡ b → p instance l ≡ true
      at instance i l j true r =
          let g = contains_in (instances w.lift) instance i in
          let k = contains_in (items_at w.lift instance) l j in
          elim (items.lift instance g l k r) [
            | inl f ↦ h instance f.there l f.item f.related (items.defined instance g l k) (item_passes w.text q e instance (in_of (instances w.text) instance f.there) f.item (in_of (items_at w.text instance) f.item f.among))
            | inr f ↦ holds instance l (inr f)
          ]
      at instance i l j false r = holds instance l (inl r)

  pub init_back : (s t : State) → Related s t → IsInit w.text t → IsInit w.lift s
  init_back s t h = back (λ instance. begins w.lift instance s) (λ instance. begins w.text instance t) at free_or
    where
      free_or : (instance : Instance) (l : Item) → restricts l ≡ false ⊎ HoldsAtProduct w At instance l → begins w.lift instance s l ≡ true
      free_or instance l (inl e) = (free w.lift instance s s l e).0
      free_or instance l (inr f) = f.first s h.at

      at : (instance : Instance) → IsOfText w instance → (l u : Item) → RelatedItem w instance l u → ((s t : State) → IsState w.lift s → IsState w.lift t → HasValue w.lift instance s t l) → begins w.text instance t u ≡ true → begins w.lift instance s l ≡ true
      at instance g l u (BothConstrain role.Init x y i j k) d e = true_back instance g s s t t h h x y k (d s s h.is_state h.is_state) e
      at instance g l u (IntroducedConstraint role.Init variable feature x y i j is has k) d e = guarded_back instance g s s t t h h variable feature x y is has k (d s s h.is_state h.is_state) e
      at instance g l u (BothAssign left.Init name x y i j k b) d e = assigned_back instance g s t s s t t h h h name x y k b (d s s h.is_state h.is_state) e
      at instance g l u (BothConstrain role.Invariant x y i j k) d e = refl
      at instance g l u (BothConstrain role.Transition x y i j k) d e = refl
      at instance g l u (BothConstrain role.Spec x y i j k) d e = refl
      at instance g l u (IntroducedConstraint role.Invariant variable feature x y i j is has k) d e = refl
      at instance g l u (IntroducedConstraint role.Transition variable feature x y i j is has k) d e = refl
      at instance g l u (IntroducedConstraint role.Spec variable feature x y i j is has k) d e = refl
      at instance g l u (BothAssign left.Next name x y i j k b) d e = refl
      at instance g l u (BothAssign left.Now name x y i j k b) d e = refl

  pub inside_back : (s t : State) → Related s t → IsInside w.text t → IsInside w.lift s
  inside_back s t h = back (λ instance. stays w.lift instance s) (λ instance. stays w.text instance t) at free_or
    where
      free_or : (instance : Instance) (l : Item) → restricts l ≡ false ⊎ HoldsAtProduct w At instance l → stays w.lift instance s l ≡ true
      free_or instance l (inl e) = (free w.lift instance s s l e).1
      free_or instance l (inr f) = f.each s h.at

      at : (instance : Instance) → IsOfText w instance → (l u : Item) → RelatedItem w instance l u → ((s t : State) → IsState w.lift s → IsState w.lift t → HasValue w.lift instance s t l) → stays w.text instance t u ≡ true → stays w.lift instance s l ≡ true
      at instance g l u (BothConstrain role.Invariant x y i j k) d e = true_back instance g s s t t h h x y k (d s s h.is_state h.is_state) e
      at instance g l u (IntroducedConstraint role.Invariant variable feature x y i j is has k) d e = guarded_back instance g s s t t h h variable feature x y is has k (d s s h.is_state h.is_state) e
      at instance g l u (BothAssign left.Now name x y i j k b) d e = assigned_back instance g s t s s t t h h h name x y k b (d s s h.is_state h.is_state) e
      at instance g l u (BothConstrain role.Init x y i j k) d e = refl
      at instance g l u (BothConstrain role.Transition x y i j k) d e = refl
      at instance g l u (BothConstrain role.Spec x y i j k) d e = refl
      at instance g l u (IntroducedConstraint role.Init variable feature x y i j is has k) d e = refl
      at instance g l u (IntroducedConstraint role.Transition variable feature x y i j is has k) d e = refl
      at instance g l u (IntroducedConstraint role.Spec variable feature x y i j is has k) d e = refl
      at instance g l u (BothAssign left.Next name x y i j k b) d e = refl
      at instance g l u (BothAssign left.Init name x y i j k b) d e = refl

  pub step_back : (s s' t t' : State) → Related s t → Related s' t' → IsStep w.text t t' → IsStep w.lift s s'
  step_back s s' t t' h h' = back (λ instance. steps w.lift instance s s') (λ instance. steps w.text instance t t') at free_or
    where
      free_or : (instance : Instance) (l : Item) → restricts l ≡ false ⊎ HoldsAtProduct w At instance l → steps w.lift instance s s' l ≡ true
      free_or instance l (inl e) = (free w.lift instance s s' l e).2
      free_or instance l (inr f) = f.step s s' h.at h'.at

      at : (instance : Instance) → IsOfText w instance → (l u : Item) → RelatedItem w instance l u → ((s t : State) → IsState w.lift s → IsState w.lift t → HasValue w.lift instance s t l) → steps w.text instance t t' u ≡ true → steps w.lift instance s s' l ≡ true
      at instance g l u (BothConstrain role.Transition x y i j k) d e = true_back instance g s s' t t' h h' x y k (d s s' h.is_state h'.is_state) e
      at instance g l u (IntroducedConstraint role.Transition variable feature x y i j is has k) d e = guarded_back instance g s s' t t' h h' variable feature x y is has k (d s s' h.is_state h'.is_state) e
      at instance g l u (BothAssign left.Next name x y i j k b) d e = assigned_back instance g s' t' s s' t t' h' h h' name x y k b (d s s' h.is_state h'.is_state) e
      at instance g l u (BothConstrain role.Init x y i j k) d e = refl
      at instance g l u (BothConstrain role.Invariant x y i j k) d e = refl
      at instance g l u (BothConstrain role.Spec x y i j k) d e = refl
      at instance g l u (IntroducedConstraint role.Init variable feature x y i j is has k) d e = refl
      at instance g l u (IntroducedConstraint role.Invariant variable feature x y i j is has k) d e = refl
      at instance g l u (IntroducedConstraint role.Spec variable feature x y i j is has k) d e = refl
      at instance g l u (BothAssign left.Init name x y i j k b) d e = refl
      at instance g l u (BothAssign left.Now name x y i j k b) d e = refl
